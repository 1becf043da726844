-- The contract leaves one order, and there is one whatever the numbers are.
pub mod OneOrder
pub mod SomeOrder
-- What the code's proofs cite, case by case.
mod OrderCases
