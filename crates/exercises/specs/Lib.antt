-- The definitions that the contracts of this crate cite: what is asked of a column that is split or shuffled, and what is left of it.
pub mod Growing
