-- The arguments, each file after those it leans on. The terms of the statements of specs/Theorems.antt are in Outcomes (RefusalDrops),
-- Stays (DeskStays), TypedLines (AcceptedFromLines), Desks (DeskTest), Surveys (SurveyExact), Calls (LentCallsExact), Session (FedInPieces,
-- SessionFed), ReadBack (TypedIn, ListingReadBack) and Sheets (NoShorterSheet); those of specs/Grammar.antt and specs/Feeds.antt are in
-- Grammar and Feeds; those of specs/Stations.antt, specs/Rights.antt, specs/Sights.antt and specs/Pairs.antt in CountsOfStations,
-- RightsExact, StationsApart and PairsHeld; those of specs/Demands.antt in Replies (RepliesExact, DeskParts), SlotsUsed, Exercises
-- (ExercisesFixed), ColumnRefusals, Demand1, Demand2 and Demands; that of specs/Cases.antt in Cases.
pub mod Outcomes
pub mod Desks
pub mod Given
pub mod Sums
pub mod Stays
pub mod OpenPlans
pub mod Fields
pub mod NumberFields
pub mod Grammar
pub mod Lines
pub mod TypedLines
pub mod Calls
pub mod Session
pub mod LinesWithin
pub mod Feeds
pub mod ReadBack
pub mod Says
pub mod Conditions
pub mod Replies
pub mod SlotsUsed
pub mod Counts
pub mod CountsOfStations
pub mod Sheets
pub mod Seen
pub mod Arranged
pub mod Surveys
pub mod Rights
pub mod RightsExact
pub mod Alike
pub mod OperationsAlike
pub mod HandsOver
pub mod Turns
pub mod Rebuilt
pub mod RebuiltAlike
pub mod Apart
pub mod StationsApart
pub mod Pairs
pub mod PairsHeld
pub mod ColumnRefusals
pub mod Demand1
pub mod Exercises
pub mod RouteMade
pub mod Demand2
pub mod Demands
pub mod Cases
