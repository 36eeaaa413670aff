-- The definitions that the contracts of this crate cite: reduction; tables that are reduced and in order; the pairs of a composition
-- before reduction; matching and routing; and the records of a listing. Columns and the tables that two of them hold are
-- defined in the crate `columns`.
pub mod Reduction
pub mod Joining
pub mod Spread
pub mod Spreading
pub mod Routing
pub mod Lines
