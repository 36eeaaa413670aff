-- The laws of naming a station in code; the proofs of the functions cite them.
pub mod Naming
pub mod Granting
