-- The definitions that the contracts of this crate cite: values and the plans that they hold; what is answered where a plan is made or
-- a draft is closed; codes under a plan; the listing of one; what keeping writes.
pub mod Plans
pub mod Refusals
pub mod Answers
pub mod Closing
pub mod Routing
pub mod Listing
pub mod Keeping
pub mod Filled
