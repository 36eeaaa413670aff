-- What the contracts of this crate cite: what is asked of callers; and how long a reply can be. The bytes of the lines themselves are
-- desk's, in its Bytes.antt.
pub mod Lines
pub mod Sizes
