-- If no interval of the rest of the day has more work than minutes, none has after a minute of any rule that takes a ready entry of least
-- deadline.
-- Assumes nothing.
use Prim.Native.Nat.{ℕ, suc, ◌-◌, ◌≤◌, ◌<◌}
use native.Mathlib.Omega.{arith}
use Rattle.base.specs.Counting.{same}
use Rattle.windows.specs.Windows.{Windows, with_left, rest_from}
use Rattle.windows.specs.Intervals.{work, Fits}
use Rattle.jackson.specs.Rules.{Ready, EarliestDeadlineFirst}
use Rattle.base.proofs.Sums.{le_or_lt, same_refl, sum_lt}
use Rattle.windows.proofs.IntervalWork.{in_interval, in_interval_is, in_interval_le, work_under}

module _ (w : Windows) (p : ℕ → ℕ) (t k : ℕ) where
  -- the rest of the day before and after place k has minute t
  abbrev before : Windows
  before = rest_from t (with_left w p)

  abbrev after : Windows
  after = rest_from (suc t) (with_left w (λ i. p i - same k i))

  module _ (fits : Fits before) (a b : ℕ) where
    -- an interval that begins later than minute t + 1 has no entry whose r is reached
    far : suc t < a → work after a b ≤ b - a
    unfolding work
    far h =
        omega (
          arith,
          fits a b,
          work_under after a b (in_interval before a b) (λ i _ r d. omega (arith, in_interval_is before a b i (omega arith) d)),
        )

    -- the entry that has the minute is counted: the work is less than it was from t on
    taken : a ≤ suc t → Ready (with_left w p) t k → w.d k ≤ b → work after a b ≤ b - a
    unfolding work
    taken h ready due =
        omega (
          arith,
          fits t b,
          sum_lt w.n (in_interval after a b) (in_interval before t b)
              (λ i _. in_interval_le after a b i _ (λ r d. omega (arith, in_interval_is before t b i (omega arith) d)))
              k ready.place less,
        )
      where
        less : in_interval after a b k < in_interval before t b k
        less =
            omega (
              arith,
              ready.unfinished,
              in_interval_is before t b k (omega arith) due,
              in_interval_le after a b k (p k - 1) (λ r d. omega (arith, same_refl k)),
            )

    -- no ready entry is counted: the work is at most what it was from t + 1 on
    spared : a ≤ suc t → ((i : ℕ) → Ready (with_left w p) t i → w.d i ≤ b → ⊥) → work after a b ≤ b - a
    unfolding work
    spared h none = omega (arith, fits (suc t) b, work_under after a b (in_interval before (suc t) b) (λ i l r d. each i l d))
      where
        each : (i : ℕ) → i < w.n → w.d i ≤ b → p i - same k i ≤ in_interval before (suc t) b i
        each i l d =
            le_or_lt (w.r i) t
            (λ r.
            le_or_lt 1 (p i)
            (λ u. absurd (none i (record { place = l; released = r; unfinished = u }) d))
            (λ u. omega arith))
            (λ r. omega (arith, in_interval_is before (suc t) b i (omega arith) d))

  pub minute_fits : Fits (rest_from t (with_left w p))
      → EarliestDeadlineFirst (with_left w p) t k
      → Fits (rest_from (suc t) (with_left w (λ i. p i - same k i)))
  minute_fits fits rule a b =
      le_or_lt a (suc t)
      (λ h.
      le_or_lt w.n k
      (λ l. spared fits a b h (λ i ready d. rule.none i l ready))
      (λ l.
      le_or_lt (w.d k) b
      (taken fits a b h (rule.taken l))
      (λ e. spared fits a b h (λ i ready d. omega (arith, rule.least i l ready)))))
      (far fits a b)
