-- The work of an entry in another window, and of the others.
pub mod OtherWork
-- Starts that an interval bars, and that the search by jumps finds the least start that has a plan.
mod Jumps
pub mod StartLaws
-- The largest of numbers, and that least ends in closed form are the least ends that a plan has.
mod Largest
pub mod EndLaws
-- That the walks over the left ends give them.
mod EndWalks
-- What the code's proofs cite, case by case.
mod Fronts
mod StartCases
mod EndCases
-- Examples.
mod Examples
-- The source documents, judged.
pub mod Papers
