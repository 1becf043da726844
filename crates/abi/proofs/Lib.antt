-- What the numbers of an answer say.
mod AnswerLaws
-- What the code's proofs cite, case by case.
mod CallCases
mod DayCases
mod SearchCases
