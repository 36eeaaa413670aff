-- The definitions, in reading order: the limits; the desk; records; replies; reply bytes, and that what is read is what is written; a
-- session, and many of its lines at once; the library's calls with a lent buffer; then the statements of the theorems, the table of
-- refusals, the stations, their rights and what they see, the pairs held, the three demands and worked sessions. proofs/ has a term of each
-- statement.
pub mod Limits
pub mod Desk
pub mod Records
pub mod Replies
pub mod Bytes
pub mod Grammar
pub mod Session
pub mod Feeds
pub mod Buffers
pub mod Theorems
pub mod Conditions
pub mod Stations
pub mod Rights
pub mod Sights
pub mod Pairs
pub mod Demands
pub mod Cases
