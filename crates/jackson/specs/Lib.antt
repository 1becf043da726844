pub mod Rules
pub mod Minutes
pub mod Stretches
pub mod Laws
pub mod Calls
pub mod Internal
