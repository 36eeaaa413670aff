-- The test of a desk in code, and that it says what such a desk is.
pub mod Tested
