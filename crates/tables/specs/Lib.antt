pub mod TablePlans
pub mod Fillings
pub mod TableIntervals
pub mod Slots
pub mod Laws
pub mod Examples
