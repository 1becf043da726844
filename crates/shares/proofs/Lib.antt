-- What stands at the front of bytes that read, that it is read whatever follows, and what reading the front says: FrontLaws.
mod RowNumbers
pub mod StandingLists
pub mod Fronts
pub mod FrontLaws
mod Examples
-- What the code's proofs cite, case by case.
mod FrontCases
