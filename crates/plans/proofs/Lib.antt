-- The laws of the library of plans, each file after those it leans on; the proofs of the functions cite them.
pub mod DraftChecks
pub mod Accepted
pub mod Tested
pub mod Answered
pub mod Powered
pub mod Codes
pub mod Lists
pub mod Handed
pub mod Made
pub mod ValueLaws
pub mod CallsExact
pub mod Theorems
