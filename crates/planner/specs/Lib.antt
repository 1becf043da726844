pub mod BrokenEntries
pub mod Demand2
pub mod Demand3
pub mod Calls
pub mod FasterDays
pub mod Examples
pub mod Internal
