-- Theory, which the crates above may cite: entries that clash, what a well-formed list is, lists that are checked alike, what an answer
-- tells and that number and values tell one, what the machine's types say of a list, lists that are filled from their first place on,
-- arrays that hold a field of the entries, and numbers by place.
pub mod ClashFacts
pub mod Sound
pub mod ClashLaws
pub mod CheckLaws
pub mod OpeningLaws
pub mod Alike
pub mod Answered
pub mod InTypes
pub mod Filling
pub mod Columns
pub mod ByPlace
-- What the code's proofs cite, case by case.
mod CheckCases
mod ClashCases
mod PlaceCases
