-- For windows that have room: no interval between an earliest and a latest minute of the list is overloaded exactly if no [a, b), of
-- whatever ends, has more work than minutes.
-- Assumes nothing.
use mathlib.Core.Path.{◌≡◌, refl}
use mathlib.Core.Bool.{Bool, true}
use Prim.Native.Nat.{ℕ, ◌+◌, ◌-◌, ◌≤◌, ◌<◌}
use native.Mathlib.Omega.{arith}
use borrow.Author.Tests.{ltb-true, lt-ltb}
use lib.Dec.{ltb}
use Rattle.base.specs.Counting.{smaller, larger}
use Rattle.windows.specs.Windows.{Windows}
use Rattle.windows.specs.Intervals.{work, Fits, Overloaded, NoOverload}
use Rattle.base.proofs.Scans.{Best, smaller_ranks, larger_ranks, best_some, best_smallest, best_largest}
use Rattle.base.proofs.Sums.{le_or_lt, some_term}
use Rattle.windows.proofs.IntervalWork.{in_interval, in_interval_is, in_interval_le, in_interval_in, work_under}

pub fits_none : (w : Windows) → Fits w → NoOverload w
fits_none w fits a b o = omega (arith, fits a b, o.exceeds)

-- a wider interval has no less work
pub work_wider : (w : Windows) (a b x y : ℕ) → x ≤ a → b ≤ y → work w a b ≤ work w x y
unfolding work
work_wider w a b x y left right =
    work_under w a b (in_interval w x y) (λ i below r d. omega (arith, in_interval_is w x y i (omega arith) (omega arith)))

-- two entries in [a, b), of which the one's r and the other's d have all its work between them
pub record Spans (w : Windows) (a b i j : ℕ) : Type 0 where
  pub first : i < w.n
  pub last : j < w.n
  pub needs : 1 ≤ w.p i
  pub from : a ≤ w.r i
  pub due : w.d j ≤ b
  pub holds_first : w.d i ≤ w.d j
  pub no_less : work w a b ≤ work w (w.r i) (w.d j)

module _ (w : Windows) (a b : ℕ) where
  -- whether the entry at place i adds to the work of [a, b)
  abbrev adds : ℕ → Bool
  adds i = ltb 0 (in_interval w a b i)

  -- i and j have the least r and the largest d among those that do
  module _ (i j : ℕ) (first : Best w.n adds (smaller w.r) i) (last : Best w.n adds (larger w.d) j) where
    spanned : (x : ℕ) → x < w.n → 1 ≤ in_interval w a b x → (w.r i ≤ w.r x) × (w.d x ≤ w.d j)
    spanned x l some =
        let z = lt-ltb 0 (in_interval w a b x) some in
        (best_smallest w.n adds w.r i first x l z, best_largest w.n adds w.d j last x l z)

    -- no work is lost
    each : (x : ℕ) → x < w.n → a ≤ w.r x → w.d x ≤ b → w.p x ≤ in_interval w (w.r i) (w.d j) x
    each x l r d =
        le_or_lt 1 (w.p x)
        (λ h.
        let z = spanned x l (omega (arith, in_interval_is w a b x r d)) in
        omega (arith, in_interval_is w (w.r i) (w.d j) x z.0 z.1))
        (λ h. omega arith)

    best_spans : Spans w a b i j
    unfolding work
    best_spans =
        let some : 1 ≤ in_interval w a b i = ltb-true _ _ first.passes in
        record {
          first = first.below;
          last = last.below;
          needs = omega (arith, in_interval_le w a b i (w.p i) (λ r d. omega arith));
          from = (in_interval_in w a b i some).0;
          due = (in_interval_in w a b j (ltb-true _ _ last.passes)).1;
          holds_first = (spanned i first.below some).1;
          no_less = work_under w a b (in_interval w (w.r i) (w.d j)) each;
        }

  -- work has two such entries
  pub work_spans : 1 ≤ work w a b → (i : ℕ) × (j : ℕ) × Spans w a b i j
  unfolding work
  work_spans some =
      let z = some_term w.n (in_interval w a b) some in
      let t : adds z.0 ≡ true = lt-ltb _ _ z.2 in
      let first = best_some w.n adds _ (smaller_ranks w.r) w.n (omega arith) z.0 z.1 t in
      let last = best_some w.n adds _ (larger_ranks w.d) w.n (omega arith) z.0 z.1 t in
      (_, _, best_spans _ _ first last)

module _ (w : Windows) (room : (i : ℕ) → i < w.n → 1 ≤ w.p i → w.r i + w.p i ≤ w.d i) where
  -- if [a, b) has more work than minutes, the interval between them is overloaded
  shrunk : (a b i j : ℕ) → Spans w a b i j → b - a < work w a b → Overloaded w (w.r i) (w.d j)
  shrunk a b i j spans more =
      record {
        earliest = (i, spans.first, refl);
        latest = (j, spans.last, refl);
        interval = omega (arith, room i spans.first spans.needs, spans.holds_first, spans.needs);
        exceeds = omega (arith, spans.no_less, spans.from, spans.due);
      }

  pub none_fits : NoOverload w → Fits w
  none_fits none a b =
      le_or_lt (work w a b) (b - a) (λ h. h)
      (λ more. let z = work_spans w a b (omega arith) in absurd (none _ _ (shrunk a b z.0 z.1 z.2 more)))
