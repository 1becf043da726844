-- What a search ends with, how many trials it makes, and what a limit leaves of it.
mod Endings
mod Limits
-- What is found has a plan with the starts fixed, and where an unbroken day exists it has the least starts.
mod Reaching
mod Leasts
-- The laws of the search, and examples.
pub mod UnbrokenLaws
pub mod Examples
-- Which search an answer tells of, and that starts count at whole places alone.
pub mod SaidEndings
-- What the code's proofs cite: what is left of the search where it stands, and how it goes on.
mod Remainders
mod SearchCases
