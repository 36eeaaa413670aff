-- The laws of packed words, each file after those it leans on; the proofs of the functions cite them, and so may other crates.
pub mod Packing
pub mod Sizes
pub mod Bounds
pub mod Children
pub mod Shifts
pub mod Limit
pub mod Packed
pub mod Prefixes
pub mod Order
pub mod Aligned
pub mod PlanWords
pub mod Bytes
pub mod Runs
pub mod Codes
pub mod Checks
