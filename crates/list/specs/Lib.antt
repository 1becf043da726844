pub mod Refusals
pub mod Entries
pub mod DayLists
pub mod Clashes
pub mod Checks
pub mod Laws
pub mod Machine
