-- The definitions that the contracts of this crate cite: the blocks of the columns, the desk that a head and its columns hold, why a record
-- is refused, and what a record does to them.
pub mod Rights
pub mod Blocks
pub mod Desks
pub mod Refused
pub mod Works
