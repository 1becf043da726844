-- What the search for a least end finds, and the search for a greatest start as one in the mirror.
mod EndSearches
mod MirrorEnds
-- In settled windows these are bounds over all plans, and the plans shown have them.
pub mod EndBounds
pub mod StartBounds
-- Bounds and shown plans as functions of the windows.
pub mod ShownFacts
-- The rows of a shown plan in facts.
mod ShowLaws
-- What the code's proofs cite, case by case.
mod EndCases
mod ShownCases
-- The fast way.
pub mod FastBounds
