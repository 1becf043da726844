pub mod Days
pub mod Calls
pub mod Laws
pub mod Runs
pub mod Examples
pub mod Internal
