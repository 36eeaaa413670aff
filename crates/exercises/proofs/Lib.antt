-- The laws that the proofs of the functions cite: a column that grows, and words that are shuffled.
pub mod Growing
pub mod Turns
pub mod Shuffling
pub mod Made
