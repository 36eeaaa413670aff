-- What the proofs of this crate's functions cite: of known bytes that are read and written, and of pieces that are fed.
pub mod Known
pub mod Pieces
pub mod Ends
