-- The laws of desks as values, which the proofs of the functions cite.
pub mod Narrow
pub mod Blocks
pub mod Exact
pub mod Taken
pub mod Places
