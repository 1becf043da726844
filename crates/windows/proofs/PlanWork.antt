-- A plan leaves no interval with more work than minutes: the minutes of the entries counted lie in it, and each minute has one entry.
-- Assumes nothing.
use mathlib.Core.Bool.{cond, ◌&&◌}
use Prim.Native.Nat.{ℕ, suc, ◌≤◌, ◌<◌}
use native.Mathlib.Omega.{arith}
use lib.Dec.{leb, ltb}
use Rattle.base.specs.Counting.{sum, same}
use Rattle.windows.specs.Windows.{Windows}
use Rattle.windows.specs.Plans.{Plan}
use Rattle.windows.specs.Intervals.{Fits}
use Rattle.base.proofs.Sums.{same_cases, between_is, between_le, sum_le, sum_swap, sum_guard, sum_same_le, count_between}
use Rattle.windows.proofs.IntervalWork.{work_under}

module _ (w : Windows) (m : ℕ → ℕ) (plan : Plan w m) where
  module _ (a b : ℕ) where
    -- x if minute t lies in [a, b), else 0
    abbrev within : ℕ → ℕ → ℕ
    within t x = cond (leb a t && ltb t b) x 0

    -- the minutes of an entry whose window lies in [a, b) are minutes in [a, b)
    all_within : (i : ℕ) → i < w.n → a ≤ w.r i → w.d i ≤ b → w.p i ≤ sum w.h (λ t. within t (same (m t) i))
    all_within i below r d =
        omega (arith, plan.exact i below, sum_le w.h (λ t. same (m t) i) (λ t. within t (same (m t) i)) each)
      where
        each : (t : ℕ) → t < w.h → same (m t) i ≤ within t (same (m t) i)
        each t l =
            same_cases (m t) i
            (λ e s.
            let z = plan.inside i t below l e in
            omega (arith, between_is a b t (suc t) (same (m t) i) (omega arith) (omega arith)))
            (λ ne s. omega arith)

    -- a minute has at most one place
    one_place : (t : ℕ) → sum w.n (λ i. within t (same (m t) i)) ≤ within t 1
    one_place t =
        omega (
          arith,
          sum_guard w.n (leb a t && ltb t b) (same (m t)),
          between_le a b t (suc t) (sum w.n (same (m t))) (within t 1)
              (λ h k. omega (arith, between_is a b t (suc t) 1 h k, sum_same_le w.n (m t))),
        )

  pub plan_fits : Fits w
  plan_fits a b =
      omega (
        arith,
        work_under w a b (λ i. sum w.h (λ t. within a b t (same (m t) i))) (all_within a b),
        sum_swap w.n w.h (λ i t. within a b t (same (m t) i)),
        sum_le w.h (λ t. sum w.n (λ i. within a b t (same (m t) i))) (λ t. within a b t 1) (λ t _. one_place a b t),
        count_between w.h a b,
      )
