-- The desk as one value: what it is for a value to be one, the value of a desk, and where each part of it stands.
pub mod Values
pub mod Places
