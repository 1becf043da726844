pub mod Searches
pub mod Laws
pub mod Calls
pub mod Examples
pub mod Internal
