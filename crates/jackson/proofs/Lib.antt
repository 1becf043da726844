-- The law that a plan exists exactly without overload: its steps that are about rules, its form for windows and its form for lists. The
-- crates above are to cite Law and ListLaws, OneSchedule, and RunningDays and Schedules for days that are running.
mod OneMinute
pub mod RunningDays
pub mod Choices
pub mod Schedules
pub mod OneSchedule
pub mod Law
pub mod ListLaws
-- What a buffer holds in which a plan was stored.
pub mod StoredPlans
-- The stretches of a day, and how many they are.
pub mod Stretches
mod StretchCounts
pub mod StretchBytes
-- Lists that are planned alike, and the rows of the overload test and of filling a plan buffer.
pub mod Alike
pub mod FillLaws
-- What the code's proofs cite, case by case.
mod MinuteCases
mod StretchCases
mod FillCases
mod CallCases
