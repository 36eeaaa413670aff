-- The laws of lines and of input in pieces; the proofs of the functions cite them.
pub mod Runs
pub mod Grown
pub mod Ended
pub mod Fresh
pub mod Feeds
pub mod Ends
