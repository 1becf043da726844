pub mod Cycles
pub mod Rooms
pub mod Turns
pub mod Laws
pub mod Runs
pub mod Calls
pub mod Examples
pub mod Internal
