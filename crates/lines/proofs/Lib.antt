-- The laws of a line's work and reply; the proofs of the functions cite them, and so may other crates.
pub mod Settled
pub mod Performed
