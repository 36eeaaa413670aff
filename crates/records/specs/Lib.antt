-- The definitions that the contracts of this crate cite. Reading says what a line is read as and what the places in it stand for, with
-- the statement for callers; Fields says the same of the fields behind a letter, for the functions below `read`.
pub mod Reading
pub mod Fields
