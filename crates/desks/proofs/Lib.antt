-- The laws of the test of a desk in code.
pub mod Chains
pub mod Parts
pub mod Sums
pub mod Exact
