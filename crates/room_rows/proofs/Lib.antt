-- Rows of numbers and the rooms that they say.
mod RoomTrip
mod RoomLaws
mod Examples
-- What the code's proofs cite, case by case.
mod RowCases
mod TurnCases
