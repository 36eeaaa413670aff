-- The arguments, each file after those it leans on: the laws of fields (proofs/fields.antt); what the rules of the grammar make of the
-- fields behind a letter; a whole line. The term of the statement of specs/Reading.antt is in Reading.
pub mod Readers
pub mod Lines
pub mod Reading
