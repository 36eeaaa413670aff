-- The definitions that the contracts of this crate cite: what the calls answer, match and route, and what a listing leaves in a buffer.
-- The values of the library and the plans they hold are defined in the crate `operations`. Theorems holds the statements about values.
pub mod Answers
pub mod Routing
pub mod Listing
pub mod CallsExact
pub mod Theorems
