-- What narrowing asks of a planner's test, and that the overload test is one.
pub mod Planners
pub mod OverloadPlanner
-- Searches in the mirror, what steps keep, what moves cost, that rounds end, and single rounds.
pub mod MirrorSearches
pub mod StepsKeep
pub mod Costs
pub mod RoundsEnd
pub mod SingleRounds
-- Searches are exact, settled sets are settled in the mirror and stay inside, rounds are steps, and the law of narrowing: NarrowLaws.
pub mod Exact
pub mod MirrorSettled
mod SettledSteps
mod RoundSteps
pub mod Fixpoints
mod UnbrokenPlans
pub mod NarrowLaws
pub mod OneOutcome
-- A search of a round in the mirror, and lists that are narrowed alike.
mod MirrorSides
pub mod Alike
-- The list with the windows found, the rows of the calls on lists, and what their answers say.
pub mod ListWindows
mod ListRows
pub mod ListAnswers
-- What the code's proofs cite, case by case.
mod RoundCases
mod StayingPlaces
mod VisitCases
mod UnplannedCases
-- The fast way.
pub mod FastLaws
mod ListCases
mod CallCases
