-- Entries counted as broken are those whose minutes are not consecutive.
mod BrokenFacts
-- Demand 3 of what is told by these definitions, and demand 2 of Jackson's schedule. The crates above are to cite this.
pub mod Demands
-- Lists that are planned alike, and document 01's examples.
pub mod Alike
pub mod Examples
-- The rows of the calls in facts.
pub mod CallLaws
-- The contracts, and demand 3 alone, leave one answer.
pub mod OneAnswer
-- The fast way and the defined way.
pub mod FasterDays
-- What the code's proofs cite, case by case. The crates above are to cite the last three, for calls of their own.
mod BrokenCases
pub mod CallCases
pub mod AnswerCases
pub mod SettledPlans
