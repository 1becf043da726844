-- Windows that have room and the test of it, windows with one value changed, and the mirror of windows.
pub mod Room
pub mod Puts
pub mod MirrorWindows
-- The windows of a list, entry by entry, that those of a well-formed list have room, which lists have the same, and the mirrored list.
pub mod EntryWindows
pub mod FormedLists
pub mod AlikeWindows
pub mod MirrorLists
-- Facts about plans alone: the mirror, other windows, room, starts and ends.
pub mod PlanFacts
pub mod MirrorMinutes
-- The work of intervals, that a plan leaves none overloaded, and the overloaded interval shown: steps of the law of plans, which the crate
-- jackson puts together.
pub mod IntervalWork
pub mod PlanWork
pub mod Endpoints
pub mod ShownInterval
-- The walk of the left end, with the sum that it keeps.
pub mod RunningSums
-- What the code's proofs cite, case by case. Those of the crates above cite ArrayCases too, which says what arrays of windows stand for,
-- and ScanCases, a scan for the best place.
pub mod ArrayCases
pub mod ScanCases
mod LeftEndCases
mod IntervalCases
mod WindowSetCases
mod RoomCases
