-- The laws of columns, each file after those it leans on; the proofs of the functions cite them, and so may other crates.
pub mod InOrder
pub mod WordOrder
pub mod Places
pub mod Neighbours
pub mod Search
pub mod Extensions
pub mod Covered
pub mod Walks
pub mod Settling
pub mod Rearranged
pub mod Rows
pub mod Halves
pub mod Merging
pub mod Limits
pub mod Lists
pub mod Splitting
