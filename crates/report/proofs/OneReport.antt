-- The contracts of `report` and `refusal_line` leave one answer and one buffer.
-- Assumes nothing.
use mathlib.Core.Path.{◌≡◌, sym, ◌∙◌}
use mathlib.Core.List.{List}
use Prim.Native.Nat.{ℕ}
use Rattle.base.specs.Outcomes.{Outcome}
use Rattle.std.specs.Prelude.{Result}
use Rattle.list.specs.declared.types.Refusal.{Refusal}
use Rattle.list.proofs.Answered.{one_answer as one_of_outcome}
use Rattle.report.specs.Calls.{StoresText}

module _ {o : Outcome (List ℕ)} {old : List ℕ} (a b : Result ℕ Refusal) (new other : List ℕ) (x : StoresText o old a new)
    (y : StoresText o old b other) where
  pub one_answer : a ≡ b
  one_answer = one_of_outcome a b (x.outcome ∙ sym y.outcome)

  pub one_buffer : new ≡ other
  one_buffer = x.buffer ∙ sym y.buffer
