-- The laws of tables, each file after those it leans on; the proofs of the functions cite them, and so may other crates.
pub mod Records
pub mod Cuts
pub mod Joins
pub mod Steps
pub mod Reduction
pub mod Spread
pub mod Followed
pub mod Wide
pub mod Lookup
pub mod Joining
pub mod Extending
pub mod Beneath
pub mod Routes
