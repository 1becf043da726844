-- A turn over numbers changes those of one room alone.
-- Assumes nothing.
use mathlib.Core.Path.{◌≡◌, ◌∙◌}
use mathlib.Core.Logic.{◌⊎◌, inl, inr}
use mathlib.Core.List.{List, [], ◌∷◌}
use Prim.Native.Nat.{ℕ, suc, ◌+◌, ◌*◌, ◌<◌, ◌≤◌}
use native.Mathlib.Omega.{arith}
use lib.ListN.{get_or, set}
use lib.Seq.{sets, get_or-set_other}
use Rattle.room_rows.specs.Calls.{RoomsLaw}

-- three numbers stored one after the other leave every other number
three_apart : (xs : List ℕ) (i a b c j : ℕ) → (j < i) ⊎ (i + 3 ≤ j) → get_or (sets xs i (a ∷ b ∷ c ∷ [])) j 0 ≡ get_or xs j 0
three_apart xs i a b c j apart =
    get_or-set_other (set (set xs i a) (suc i) b) (suc (suc i)) j c 0 (λ e. other (omega arith) (omega arith) apart)
    ∙ get_or-set_other (set xs i a) (suc i) j b 0 (λ e. other (omega arith) (omega arith) apart)
    ∙ get_or-set_other xs i j a 0 (λ e. other (omega arith) (omega arith) apart)
  where
    other : i ≤ j → j < i + 3 → (j < i) ⊎ (i + 3 ≤ j) → ⊥
    other low high (inl h) = omega arith
    other low high (inr h) = omega arith

pub rooms_law : RoomsLaw
rooms_law x xs i said next j apart = three_apart xs (3 * i) _ _ _ j apart
