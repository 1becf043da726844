-- Theory: a list value's numbers say it again, and examples of their layout.
mod FlatTrip
pub mod Examples
-- What the code's proofs cite, case by case; `LengthCases` also for the crate above.
mod FlatCases
mod PlacesCases
mod DayCases
pub mod LengthCases
