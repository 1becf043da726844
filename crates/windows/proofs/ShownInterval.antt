-- The overload test accepts windows exactly without overload, and else shows the interval with the smallest b, and with it the largest a.
-- Assumes nothing.
use mathlib.Core.Path.{◌≡◌, refl}
use mathlib.Core.Bool.{true, and-eq-true_iff}
use Prim.Native.Nat.{ℕ, ◌-◌, ◌<◌, ◌≤◌}
use native.Mathlib.Omega.{arith}
use borrow.Author.Tests.{ltb-true, ltb-false, lt-ltb}
use lib.Dec.{ltb}
use Rattle.base.specs.Outcomes.{Code, Outcome, answered, refused}
use Rattle.base.proofs.Inversion.{Says, by_row}
use Rattle.windows.specs.Windows.{Windows}
use Rattle.windows.specs.Intervals.{work, Overloaded, IntervalShown, NoOverload, ShowsOverload, is_overloaded, left_of, left_end}
use Rattle.windows.specs.Intervals.{right_of, right_end, overload_of, OverloadLaw}
use Rattle.base.proofs.Scans.{smaller_ranks, larger_ranks, best_below, best_some, best_smallest, best_largest}

-- what the overload test says by its answer, and by a refusal
abbrev Row9 : Windows → Outcome (Unit {0}) → Type 0
Row9 w = Says (λ _. NoOverload w) (ShowsOverload w)

module _ (w : Windows) where
  -- the left end found for b is below n exactly if there is one, and is then the largest
  left_found : (b : ℕ) → left_end w b < w.n → (w.r (left_end w b) < b) × (b - w.r (left_end w b) < work w (w.r (left_end w b)) b)
  unfolding left_end
  left_found b h =
      let best = best_below w.n (left_of w b) _ (larger_ranks w.r) w.n (omega arith) h in
      let z = (and-eq-true_iff (ltb (w.r (left_end w b)) b) _).0 best.passes in
      (ltb-true _ _ z.0, ltb-true _ _ z.1)

  left_largest : (a b : ℕ) → Overloaded w a b → (left_end w b < w.n) × (a ≤ w.r (left_end w b))
  unfolding left_end
  left_largest a b o =
      let i = o.earliest.0 in
      let h = o.earliest.1 in
      let e = o.earliest.2 in
      let passes : is_overloaded w (w.r i) b ≡ true = rw e (simp (lt-ltb _ _ o.interval, lt-ltb _ _ o.exceeds)) in
      let best = best_some w.n (left_of w b) _ (larger_ranks w.r) w.n (omega arith) i h passes in
      (best.below, rw (← e) (best_largest w.n _ w.r _ best i h passes))

  -- the right end found is below n exactly if there is one, and is then the smallest
  pub right_found : right_end w < w.n → left_end w (w.d (right_end w)) < w.n
  unfolding right_end
  right_found h =
      let best = best_below w.n (right_of w) _ (smaller_ranks w.d) w.n (omega arith) h in
      ltb-true _ _ best.passes

  right_smallest : (a b : ℕ) → Overloaded w a b → (right_end w < w.n) × (w.d (right_end w) ≤ b)
  unfolding right_end
  right_smallest a b o =
      let j = o.latest.0 in
      let h = o.latest.1 in
      let e = o.latest.2 in
      let passes : ltb (left_end w (w.d j)) w.n ≡ true = rw e (lt-ltb _ _ (left_largest a b o).0) in
      let best = best_some w.n (right_of w) _ (smaller_ranks w.d) w.n (omega arith) j h passes in
      (best.below, rw (← e) (best_smallest w.n _ w.d _ best j h passes))

  -- what the two ends found are
  ends_shown : right_end w < w.n → IntervalShown w (w.r (left_end w (w.d (right_end w)))) (w.d (right_end w))
  ends_shown h =
      let b = w.d (right_end w) in
      let z = left_found b (right_found h) in
      record {
        overloaded = record {
          earliest = (left_end w b, right_found h, refl);
          latest = (right_end w, h, refl);
          interval = z.0;
          exceeds = z.1;
        };
        smallest = λ a' b' o. (right_smallest a' b' o).1;
        largest = λ a' o. (left_largest a' b o).1;
      }

  -- what the test's answer says, and its refusal
  test_says : Row9 w (overload_of w)
  unfolding overload_of
  test_says =
      by_row (λ _. NoOverload w) (ShowsOverload w) (ltb (right_end w) w.n) _ _
      (λ e. record { a = _; b = _; carries = refl; shown = ends_shown (ltb-true _ _ e) })
      (λ e a b o. omega (arith, ltb-false (right_end w) w.n e, (right_smallest a b o).0))

  -- windows are accepted exactly if no interval is overloaded
  pub accepted_none : overload_of w ≡ answered tt → NoOverload w
  accepted_none e = rw e at test_says

  pub none_accepted : NoOverload w → overload_of w ≡ answered tt
  none_accepted fits = go (overload_of w) test_says
    where
      go : (o : Outcome (Unit {0})) → Row9 w o → o ≡ answered tt
      go (answered t) says = refl
      go (refused k) says = absurd (fits says.a says.b says.shown.overloaded)

  -- a refusal carries the interval shown and its work
  pub refused_shown : (k : Code) → overload_of w ≡ refused k → ShowsOverload w k
  refused_shown k e = rw e at test_says

  pub overload_law : OverloadLaw w
  overload_law = record { none = (accepted_none, none_accepted); shown = refused_shown }

  -- one interval only is shown
  pub shown_one : (a b a' b' : ℕ) → IntervalShown w a b → IntervalShown w a' b' → (a ≡ a') × (b ≡ b')
  shown_one a b a' b' s s' =
      let e : b ≡ b' = omega (arith, s.smallest a' b' s'.overloaded, s'.smallest a b s.overloaded) in
      (omega (arith, s.largest a' (rw e s'.overloaded), s'.largest a (rw (← e) s.overloaded)), e)
