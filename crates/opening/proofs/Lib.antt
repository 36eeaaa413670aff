-- The laws of the open plan in code; the proofs of the functions cite them.
pub mod Drafted
