pub mod Starts
pub mod Ends
pub mod Laws
pub mod Calls
pub mod Examples
pub mod Papers
pub mod Internal
