-- One term of each statement.
pub mod Theorems
