-- The laws of the calls, each file after those it leans on; the proofs of the functions cite them.
pub mod Passing
pub mod Lent
pub mod Pieces
pub mod Jobs
pub mod Stays
pub mod JobLines
pub mod PiecesExact
pub mod CallsExact
