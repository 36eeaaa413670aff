-- The laws of the records that change nothing, each file after those it leans on; the proofs of the functions cite them.
pub mod Answered
pub mod Lent
pub mod Jobs
pub mod Arranged
pub mod Sorting
pub mod Surveyed
pub mod Fronts
