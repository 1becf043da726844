-- A test that is computed at every number below a bound holds at each of them.
-- Assumes nothing.
use mathlib.Core.Path.{◌≡◌, subst}
use mathlib.Core.Bool.{Bool, true, ◌&&◌}
use Prim.Native.Nat.{ℕ, zero, suc, ◌<◌}
use native.Mathlib.Omega.{arith}
use native.Mathlib.Decide.{dec_lt}
use Rattle.base.proofs.Inversion.{both}

abbrev pub all : ℕ → (ℕ → Bool) → Bool
all zero f = true
all (suc n) f = f n && all n f

pub at : (n : ℕ) (f : ℕ → Bool) → all n f ≡ true → (k : ℕ) → k < n → f k ≡ true
at zero f e k h = absurd (omega arith)
at (suc n) f e k h = go (dec_lt k n) (at n f (both (f n) (all n f) e).1 k)
  where
    go : Dec (k < n) → (k < n → f k ≡ true) → f k ≡ true
    go (yes l) below = below l
    go (no l) below = let z : n ≡ k = omega arith in subst (λ (m : ℕ). f m ≡ true) z (both (f n) (all n f) e).0
