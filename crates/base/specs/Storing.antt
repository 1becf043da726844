-- Storing texts in a buffer.
use Rattle.std.specs.Prelude.{ℕ, ◌+◌, ◌≡◌, List, length}
use Rattle.std.proofs.lemmas.List.Edits.{sets}

-- A step of a writer: it stores a text from place at on, and answers the place after it.
pub record Wrote (old : List ℕ) (at : ℕ) (text new : List ℕ) (next : ℕ) : Type 0 where
  pub place : next ≡ at + length text
  pub stored : new ≡ sets old at text
