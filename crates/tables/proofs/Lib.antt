-- Plans, Jackson's rule and overloaded intervals of the slots are those of the tables; `SlotLaws` puts it together.
mod SlotPlans
mod SlotStates
pub mod SlotFillings
pub mod SlotIntervals
pub mod SlotLaws
-- The law of plans for c tables, from that of the slots; and one table. The crates above are to cite these.
pub mod TableLaws
pub mod OneTable
-- Small days, by computation.
mod Examples
