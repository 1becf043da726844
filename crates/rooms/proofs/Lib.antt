-- Turns in cyclic order, over whatever rooms.
mod CyclicOrder
mod CycleLaws
-- A room by its own turns: lists with narrowed windows stand in its share, each own turn is one round, and how the room ends.
mod NarrowedLists
mod RoomRounds
mod RoomEnds
-- The shares of one buffer, turns over what is lent as turns of the rooms, and the laws.
mod SharesApart
mod DeskTurns
mod TurnFacts
pub mod TurnLaws
mod HeldLaws
pub mod RunLaws
mod Examples
-- What the code's proofs cite, case by case.
mod RoomCases
mod TurnCases
pub mod EightRows
pub mod LentTurns
