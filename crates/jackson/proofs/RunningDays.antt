-- A rule that takes ready entries of least deadline, followed to the day's end, makes a plan if no interval has more work than
-- minutes.
-- Assumes nothing.
use mathlib.Core.Path.{◌≡◌}
use Prim.Native.Nat.{ℕ, suc, ◌+◌, ◌-◌, ◌≤◌, ◌<◌}
use native.Mathlib.Nat.{max-zero}
use native.Mathlib.Omega.{arith}
use Rattle.base.specs.Counting.{sum, same}
use Rattle.windows.specs.Windows.{Windows, with_left, rest_from}
use Rattle.windows.specs.Plans.{minutes_of, Plan}
use Rattle.windows.specs.Intervals.{work, Fits}
use Rattle.jackson.specs.Rules.{Ready, Follows}
use Rattle.base.proofs.Sums.{le_or_lt, from_to, same_cases, same_ne, sum_zero}
use Rattle.windows.proofs.IntervalWork.{in_interval, in_interval_is, work_over, work_under}
use Rattle.jackson.proofs.OneMinute.{minute_fits}

-- at minute 0 the rest of the day is the day
pub rest_of_day : (w : Windows) → rest_from 0 w ≡ w
rest_of_day w = λ j. record { h = w.h; n = w.n; r = λ i. max-zero (w.r i) j; d = w.d; p = w.p }

-- fewer minutes left fit too
pub fewer_fit : (w : Windows) (p q : ℕ → ℕ) → ((i : ℕ) → i < w.n → q i ≤ p i) → Fits (with_left w p) → Fits (with_left w q)
unfolding work
fewer_fit w p q fewer fits a b =
    omega (
      arith,
      fits a b,
      work_under (with_left w q) a b (in_interval (with_left w p) a b)
          (λ i l r d. omega (arith, fewer i l, in_interval_is (with_left w p) a b i r d)),
    )

module _ (w : Windows) (t₀ : ℕ) (m : ℕ → ℕ) (left : ℕ → ℕ → ℕ) (run : Follows w t₀ m left) where
  -- the entry that has a minute is ready
  ready : (i t : ℕ) → i < w.n → t₀ ≤ t → t < w.h → m t ≡ i → Ready (with_left w (left t)) t i
  ready i t l h k e = rw e at ((run.takes t h k).taken (rw e l))

  -- the minutes given before t and those left at t are those needed
  kept : (i : ℕ) → i < w.n → (t : ℕ) → t₀ ≤ t → t ≤ w.h → minutes_of t m i + left t i ≡ w.p i
  unfolding sum
  kept i l =
      from_to (λ t. minutes_of t m i + left t i ≡ w.p i) t₀ w.h
      (omega (arith, sum_zero t₀ (λ t. same (m t) i) (λ t b. same_ne (m t) i (omega (arith, run.before t b))), run.start i l))
      (λ t h k e.
      same_cases (m t) i
      (λ z s. omega (arith, (ready i t l h k z).unfinished, run.next t i h k l))
      (λ z s. omega (arith, run.next t i h k l)))

  module _ (fits : Fits (rest_from t₀ w)) where
    -- the rest of the day fits at each minute
    rest_fits : (t : ℕ) → t₀ ≤ t → t ≤ w.h → Fits (rest_from t (with_left w (left t)))
    rest_fits =
        from_to (λ t. Fits (rest_from t (with_left w (left t)))) t₀ w.h
        (fewer_fit (rest_from t₀ w) w.p (left t₀) (λ i l. omega (arith, run.start i l)) fits)
        (λ t h k f.
        fewer_fit (rest_from (suc t) w) (λ i. left t i - same (m t) i) (left (suc t)) (λ i l. omega (arith, run.next t i h k l))
        (minute_fits w (left t) t (m t) f (run.takes t h k)))

    -- an entry has no more minutes left than there are up to its deadline
    in_time : (i t : ℕ) → i < w.n → t₀ ≤ t → t ≤ w.h → left t i ≤ w.d i - t
    in_time i t l h k =
        let rest = rest_from t (with_left w (left t)) in
        omega (arith, rest_fits t h k t (w.d i), work_over rest t (w.d i) i l (omega arith) (omega arith))

  -- the run is a plan of the rest of the day from t₀ on
  pub run_plan : t₀ ≤ w.h → ((i : ℕ) → i < w.n → 1 ≤ w.p i → w.d i ≤ w.h) → Fits (rest_from t₀ w) → Plan (rest_from t₀ w) m
  run_plan started in_day fits =
      record {
        exact = λ i l. le_or_lt 1 (w.p i)
            (λ some. omega (arith, kept i l w.h started (omega arith), in_time fits i w.h l started (omega arith), in_day i l some))
            (λ none. omega (arith, kept i l w.h started (omega arith)));
        inside = λ i t l k e. le_or_lt t₀ t
            (λ h. let z = ready i t l h k e in omega (arith, z.released, z.unfinished, in_time fits i t l h (omega arith)))
            (λ h. absurd (omega (arith, run.before t h)));
      }
