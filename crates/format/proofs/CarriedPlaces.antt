-- What refusals of reading carry: the input's length, or a place inside.
-- Assumes nothing.
use mathlib.Core.Path.{◌≡◌, refl}
use mathlib.Core.Logic.{inl, inr}
use mathlib.Core.List.{[], ◌∷◌}
use Prim.Native.Nat.{ℕ, ◌<◌, ◌≤◌}
use native.Mathlib.Omega.{arith}
use Rattle.base.specs.Outcomes.{code}
use Rattle.format.specs.Laws.{ReadingRow, PlaceIn}

-- the length
pub at_end : (len x : ℕ) → x ≡ len → PlaceIn len (code 1 (x ∷ []))
at_end len x h =
    record {
      reading = inl (omega arith, omega arith);
      place = x;
      carried = refl;
      missing = λ q. h;
      opening = λ q. absurd (omega arith);
      inside = λ q. absurd (q refl);
    }

-- a place inside
inside_at : (len n x : ℕ) → ReadingRow n → (n ≡ 1 → ⊥) → (n ≡ 15 → x ≡ 3) → x < len → PlaceIn len (code n (x ∷ []))
inside_at len n x row more three h =
    record { reading = row; place = x; carried = refl; missing = λ q. absurd (more q); opening = three; inside = λ q. h }

pub at_place : (len n x : ℕ) → 2 ≤ n → n ≤ 8 → x < len → PlaceIn len (code n (x ∷ []))
at_place len n x more row = inside_at len n x (inl (omega arith, row)) (λ q. omega arith) (λ q. absurd (omega arith))

pub at_sixteen : (len x : ℕ) → x < len → PlaceIn len (code 16 (x ∷ []))
at_sixteen len x = inside_at len 16 x (inr (inr refl)) (λ q. omega arith) (λ q. absurd (omega arith))

pub at_fifteen : (len : ℕ) → 3 < len → PlaceIn len (code 15 (3 ∷ []))
at_fifteen len = inside_at len 15 3 (inr (inl refl)) (λ q. omega arith) (λ q. refl)
