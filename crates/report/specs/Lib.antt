pub mod Text
pub mod Runs
pub mod Reports
pub mod Printed
pub mod Laws
pub mod Calls
pub mod Examples
pub mod Internal
