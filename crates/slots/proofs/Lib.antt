-- The laws of the desk in code, each file after those it leans on; the proofs of the functions cite them, and so may other crates.
pub mod Chains
pub mod Windows
pub mod Held
pub mod Sums
pub mod Rows
pub mod Steps
