-- Sums and counts, lists of values, scans for a best place, searches for the first and the last.
pub mod Sums
pub mod Listed
pub mod Scans
pub mod Searches
-- Multiples of a number, and the numbers below a multiple, row by row.
pub mod Multiples
-- Numbers listed each once, and sorting them by insertion.
pub mod Permutations
pub mod Insertion
-- Walks over arrays, stores one after the other, and tests computed at every number below a bound.
pub mod Walk
pub mod Stores
pub mod Table
-- What an outcome says of the steps that led to it.
pub mod Inversion
