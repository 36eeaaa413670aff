-- The definitions that the contracts of this crate cite, what the calls answer and what the functions beneath them promise; and two
-- statements: a desk that a call leaves is one for the next, and the answers in the figures of document 01.
pub mod Calls
pub mod Feeding
pub mod Settling
pub mod Theorems
pub mod CallsExact
