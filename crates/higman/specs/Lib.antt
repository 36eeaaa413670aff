-- The definitions, in reading order: words, and words as text; bases; tables; the normal form and the group; what is granted; the numbers
-- of the refusals; the answers of the calls; the listing; lent buffers; the statements of the theorems; the papers' figures; why a column
-- is refused; fronts of codes and their blocks; places in the listing; plans made by numbers; that no table with the same action is
-- shorter; Higman's algebras, and the statement that the plans are their automorphisms; and the worked cases. proofs/ has a term of each
-- statement.
pub mod Words
pub mod Text
pub mod Bases
pub mod Tables
pub mod Normal
pub mod Limits
pub mod Refusals
pub mod Answers
pub mod Listing
pub mod Buffers
pub mod Theorems
pub mod Figures
pub mod Reasons
pub mod Fronts
pub mod Places
pub mod Exercises
pub mod Shortest
pub mod Algebras
pub mod StandardForms
pub mod Automorphisms
pub mod Cases
