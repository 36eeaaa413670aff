-- The laws of what is put into a slot, and of the jobs of the records; the proofs of the functions cite them.
pub mod Filling
pub mod Kept
pub mod Operands
pub mod Drafts
pub mod Answered
pub mod Emptying
