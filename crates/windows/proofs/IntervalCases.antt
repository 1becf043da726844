-- The right ends and the interval shown, in each case that the code meets.
-- Assumes nothing.
use mathlib.Core.Path.{◌≡◌, refl, sym, ◌∙◌}
use mathlib.Core.Bool.{Bool, true, false, cond, ◌&&◌, and-eq-true_iff}
use mathlib.Core.List.{[], ◌∷◌}
use Prim.Native.Nat.{ℕ, ◌+◌, ◌*◌, ◌<◌, ◌≤◌}
use native.Mathlib.Numerals.{add-one}
use native.Mathlib.Omega.{arith}
use borrow.Author.Tests.{leb-true, leb-false, ltb-true, ltb-false, lt-ltb, le-ltb}
use lib.Dec.{leb, ltb}
use Rattle.std.proofs.Common.{Option, Some, None}
use Rattle.std.specs.Option.{option_or}
use Rattle.base.specs.Outcomes.{code, Outcome, answered, refused}
use Rattle.base.specs.Counting.{sum, better, best, smaller}
use Rattle.windows.specs.Windows.{Windows}
use Rattle.windows.specs.Intervals.{left_end, right_of, right_end, overload_of}
use Rattle.windows.specs.RunningSums.{boxes, additions_for, right_of_first, additions_at}
use Rattle.windows.specs.Internal.{interval_at, FindsLeft, FindsRight}
use Rattle.windows.specs.declared.running_sum.RunningSum.{RunningSum}
use Rattle.windows.specs.declared.interval.Interval.{Interval}
use Rattle.windows.specs.declared.interval.ShownInterval.{ShownInterval}
use Rattle.base.proofs.Scans.{smaller_ranks, best_cases}
use Rattle.windows.proofs.ScanCases.{unfit, first, wins, stays}
use Rattle.base.proofs.Sums.{cond_most, sum_most}
use Rattle.windows.proofs.RunningSums.{boxes_few}

-- for each right end no more additions than boxes
module _ (w : Windows) where
  few_at : (i : ℕ) → additions_at w i ≤ w.n
  few_at i =
      let k = right_of_first w i in
      let b = w.d i in
      let a = w.r (left_end w b) in
      cond_most (ltb k w.n && leb (w.d k) b) 0 (additions_for w b) w.n (omega arith)
      (cond_most (ltb (left_end w b) w.n) (boxes w a b) (boxes w 0 b) w.n (boxes_few w a b) (boxes_few w 0 b))

  few_made : (i m : ℕ) → m ≡ sum i (additions_at w) → m ≤ i * w.n
  few_made i m e = omega (arith, e, sum_most i w.n (additions_at w) (λ j _. few_at j))

-- whether an overloaded interval is shown that ends at b or before it
abbrev pub ends_by : Option Interval → ℕ → Bool
ends_by None b = false
ends_by (Some v) b = leb v.b b

-- The right end of place i, if those before it show f.
module _ (w : Windows) (i : ℕ) (f : ShownInterval) (so : FindsRight w i f) where
  abbrev k : ℕ
  k = right_of_first w i

  -- of the first i + 1 places it is the better of i and the one of the first i
  next_is : (k' : ℕ) → k' ≡ better w.n (right_of w) (smaller w.d) i k → right_of_first w (i + 1) ≡ k'
  unfolding best
  next_is k' e = rw add-one (sym e)

  none_in : i ≤ w.n → ltb k w.n ≡ false → k ≡ w.n
  none_in l e =
      best_cases w.n (right_of w) (smaller w.d) (smaller_ranks w.d) i l (k ≡ w.n) (λ z _. z)
      (λ found. absurd (omega (arith, ltb-false k w.n e, found.below)))

  -- whether a right end is shown that is no larger
  skips : (ltb k w.n && leb (w.d k) (w.d i)) ≡ ends_by f.overloaded (w.d i)
  skips = rw so.overloaded_is (go (ltb k w.n))
    where
      go : (t : Bool) → (t && leb (w.d k) (w.d i)) ≡ ends_by (cond t (Some (interval_at w (w.d k))) None) (w.d i)
      go true = refl
      go false = refl

  -- the additions of one place more
  adds_at : (x : Bool) → ends_by f.overloaded (w.d i) ≡ x → (m : ℕ)
      → m ≡ f.sum.earlier + f.sum.additions + cond x 0 (additions_for w (w.d i)) → m ≡ sum (i + 1) (additions_at w)
  unfolding sum
  adds_at x says m e = rw (add-one, skips, says) (omega (arith, e, so.additions_are))

  -- place i shows nothing new: with the sum s
  still_shown : (s : RunningSum) → right_of_first w (i + 1) ≡ k → s.earlier + s.additions ≡ sum (i + 1) (additions_at w)
      → FindsRight w (i + 1) (record { overloaded = f.overloaded; sum = s })
  still_shown s e adds =
      record { overloaded_is = rw e so.overloaded_is; additions_are = adds; bounded = few_made w (i + 1) _ adds }

  -- its b is no smaller than the one shown
  pub right_stays : ends_by f.overloaded (w.d i) ≡ true → FindsRight w (i + 1) f
  right_stays e =
      let z = (and-eq-true_iff (ltb k w.n) (leb (w.d k) (w.d i))).0 (skips ∙ e) in
      let below : k < w.n = ltb-true k w.n z.0 in
      let high : w.d k ≤ w.d i = leb-true (w.d k) (w.d i) z.1 in
      still_shown f.sum
      (next_is k (stays w.n (right_of w) (smaller w.d) i k (λ q. omega (arith, q)) (le-ltb (w.d i) (w.d k) high)))
      (adds_at true e _ (omega arith))

  -- the walk for its b was made
  module _ (o : ℕ → ℕ) (e : ShownInterval) (left : FindsLeft w o (w.d i) f.sum e) where
    pub right_walked : i < w.n → ends_by f.overloaded (w.d i) ≡ false
        → FindsRight w (i + 1) (record { overloaded = option_or e.overloaded f.overloaded; sum = e.sum })
    right_walked l q = rw left.overloaded_is (go (right_of w i) refl)
      where
        adds : e.sum.earlier + e.sum.additions ≡ sum (i + 1) (additions_at w)
        adds = adds_at false q _ (omega (arith, left.earlier, left.additions_are))

        -- it is better than the one shown, if one is
        better_is : right_of w i ≡ true → (t : Bool) → ltb k w.n ≡ t → i ≡ better w.n (right_of w) (smaller w.d) i k
        better_is fits false h = first w.n (right_of w) (smaller w.d) i k fits (none_in (omega (arith, l)) h)
        better_is fits true h =
            let low : w.d i < w.d k = leb-false (w.d k) (w.d i) (rw h at (skips ∙ q)) in
            wins w.n (right_of w) (smaller w.d) i k fits (λ z. omega (arith, z, ltb-true k w.n h)) (lt-ltb (w.d i) (w.d k) low)

        go : (t : Bool) → right_of w i ≡ t
            → FindsRight w (i + 1) (record { overloaded = option_or (cond t (Some (interval_at w (w.d i))) None) f.overloaded; sum = e.sum })
        go false h = still_shown e.sum (next_is k (unfit w.n (right_of w) (smaller w.d) i k h)) adds
        go true h =
            let at = next_is i (better_is h (ltb k w.n) refl) in
            record { overloaded_is = rw (at, lt-ltb i w.n l) refl; additions_are = adds; bounded = few_made w (i + 1) _ adds }

-- no right ends, and all of them
module _ (w : Windows) (f : ShownInterval) where
  pub right_start : f.overloaded ≡ None → f.sum.earlier + f.sum.additions ≡ 0 → FindsRight w 0 f
  unfolding best sum
  right_start e z = record { overloaded_is = rw (e, le-ltb w.n w.n (omega arith)) refl; additions_are = z; bounded = omega (arith, z) }

  -- the outcome that an interval shown stands for
  abbrev outcome : Option Interval → Outcome (Unit {0})
  outcome None = answered tt
  outcome (Some v) = refused (code 9 (v.a ∷ v.b ∷ v.work ∷ []))

  module _ (so : FindsRight w w.n f) where
    pub overload_shown : outcome f.overloaded ≡ overload_of w
    unfolding overload_of right_end
    overload_shown = rw so.overloaded_is (go (ltb (right_end w) w.n) refl)
      where
        go : (t : Bool) → ltb (right_end w) w.n ≡ t → outcome (cond t (Some (interval_at w (w.d (right_end w)))) None) ≡ overload_of w
        go true h = rw h refl
        go false h = rw h refl
