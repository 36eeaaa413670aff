-- The definitions that the contracts of this crate cite: packed words; what reading bytes gives; what writing does to a buffer.
pub mod Packed
pub mod Bytes
pub mod Writing
