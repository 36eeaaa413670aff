-- The definitions that the contracts of this crate cite, the answers of the crate `plans` as numbers; and the statement that these are the
-- paper's.
pub mod Numbers
pub mod Theorems
