pub mod Outcomes
pub mod Counting
pub mod Storing
