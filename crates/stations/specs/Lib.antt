-- The definition that the contract of `grant` cites.
pub mod Granted
