-- The rows of the call and what it leaves in the buffer, in facts.
pub mod UnbrokenRows
-- Examples in numbers.
pub mod Examples
-- The contract from what the code has.
mod UnbrokenCases
