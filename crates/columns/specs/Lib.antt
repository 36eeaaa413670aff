-- The definitions that the contracts of this crate cite: packed columns and the tables that two of them hold; searches and walks in a
-- sorted column; sorting; splitting.
pub mod Packed
pub mod Columns
pub mod Sorts
pub mod Splits
