-- The laws of replies as bytes, each file after those it leans on; the proofs of the functions cite them, and so may other crates.
pub mod Lines
pub mod Standing
pub mod Images
pub mod Sizes
pub mod EveryReply
