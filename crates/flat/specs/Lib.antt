pub mod Flat
pub mod DayRows
pub mod Examples
