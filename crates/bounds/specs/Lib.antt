pub mod Ends
pub mod FastEnds
pub mod ShownPlans
pub mod Calls
pub mod Internal
