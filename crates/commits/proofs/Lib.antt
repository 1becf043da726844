-- Rows 17 and 18, and the value check of a longer list, in facts.
pub mod RowFacts
pub mod StampLaws
pub mod EntryLaws
-- What an ask and a commit answer and leave.
pub mod CommitLaws
-- The contracts leave one answer, the same for days that are equal.
pub mod OneAnswer
-- The statement over every list of asks and commits.
pub mod RunLaws
-- What making a fresh day answers.
pub mod FreshLaws
-- Examples.
pub mod Examples
-- What the code's proofs cite, case by case.
mod ListCases
mod CallCases
