-- The arguments, each file after those it leans on. The terms of the statements of specs/Theorems.antt and specs/Cases.antt are in
-- Columns (bases), Results (what is reduced), MinimalExpansion, Statements (normal form, group, answers), Demand3, Listing, Decimals and
-- Cases; that of specs/Text.antt is in Text; those of specs/Figures.antt in Figures; that of
-- specs/Reasons.antt in Reasons; that of specs/Fronts.antt in Fronts; that of specs/Places.antt in Places; that of
-- specs/Exercises.antt in Exercises, and the files from Draws on lead to it; that of specs/Shortest.antt in Shortest; that of
-- specs/Automorphisms.antt is in Automorphisms, and the files from Codes on lead to it.
pub mod Tests
pub mod Text
pub mod Decimals
pub mod Buffers
pub mod Prefixes
pub mod Blocks
pub mod Proper
pub mod Matches
pub mod Images
pub mod Maps
pub mod Actions
pub mod Expansions
pub mod Figures
pub mod Columns
pub mod Reasons
pub mod Ordered
pub mod Reduced
pub mod Results
pub mod Solid
pub mod Elements
pub mod Group
pub mod Smallest
pub mod KeptPlans
pub mod PlanWords
pub mod MinimalExpansion
pub mod Answers
pub mod Powers
pub mod Listing
pub mod Joins
pub mod Reached
pub mod Demand3
pub mod Statements
pub mod Fronts
pub mod PlacesFound
pub mod PlacedLines
pub mod Places
pub mod Draws
pub mod Splits
pub mod Shuffles
pub mod Lengths
pub mod Determined
pub mod Exercises
pub mod Shortest
pub mod Codes
pub mod Algebras
pub mod StandardForms
pub mod FormAlgebra
pub mod FreeForms
pub mod Extensions
pub mod Readings
pub mod Endomorphisms
pub mod TableAutomorphisms
pub mod Automorphisms
pub mod Cases
