-- The work of an interval, entry by entry.
-- Assumes nothing.
use mathlib.Core.Path.{◌≡◌}
use mathlib.Core.Bool.{cond, ◌&&◌}
use Prim.Native.Nat.{ℕ, ◌≤◌, ◌<◌}
use native.Mathlib.Omega.{arith}
use lib.Dec.{leb}
use Rattle.base.specs.Counting.{sum}
use Rattle.windows.specs.Windows.{Windows}
use Rattle.windows.specs.Intervals.{work}
use Rattle.base.proofs.Sums.{between_is, between_le, between_in, sum_le, term_le}

module _ (w : Windows) (a b : ℕ) where
  -- what the entry at place i adds to the work of [a, b)
  abbrev pub in_interval : ℕ → ℕ
  in_interval i = cond (leb a (w.r i) && leb (w.d i) b) (w.p i) 0

  -- all its minutes if its window lies in [a, b), else nothing
  pub in_interval_is : (i : ℕ) → a ≤ w.r i → w.d i ≤ b → in_interval i ≡ w.p i
  in_interval_is i = between_is a b (w.r i) (w.d i) (w.p i)

  pub in_interval_in : (i : ℕ) → 1 ≤ in_interval i → (a ≤ w.r i) × (w.d i ≤ b)
  in_interval_in i = between_in a b (w.r i) (w.d i) (w.p i)

  pub in_interval_le : (i x : ℕ) → (a ≤ w.r i → w.d i ≤ b → w.p i ≤ x) → in_interval i ≤ x
  in_interval_le i x = between_le a b (w.r i) (w.d i) (w.p i) x

  -- the work is at least the minutes of each entry whose window lies in [a, b)
  pub work_over : (i : ℕ) → i < w.n → a ≤ w.r i → w.d i ≤ b → w.p i ≤ work w a b
  unfolding work
  work_over i below h k = omega (arith, in_interval_is i h k, term_le w.n in_interval i below)

  -- and at most a sum that has as much for each of them
  pub work_under : (f : ℕ → ℕ) → ((i : ℕ) → i < w.n → a ≤ w.r i → w.d i ≤ b → w.p i ≤ f i) → work w a b ≤ sum w.n f
  unfolding work
  work_under f h = sum_le w.n in_interval f (λ i below. in_interval_le i (f i) (h i below))
