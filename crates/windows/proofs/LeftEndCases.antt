-- The running sum and the walk over the left ends for one right end, in each case that the code meets.
-- Assumes nothing.
use mathlib.Core.Path.{◌≡◌, refl, sym, ap, subst, ◌∙◌}
use mathlib.Core.Bool.{Bool, true, false, ◌&&◌, true≢false}
use Prim.Native.Nat.{ℕ, ◌+◌, ◌-◌, ◌<◌, ◌≤◌}
use native.Mathlib.Omega.{arith}
use borrow.Author.Tests.{lt-leb, lt-ltb, le-ltb}
use lib.Dec.{ltb}
use Rattle.std.proofs.Common.{Some, None}
use Rattle.base.specs.Counting.{larger}
use Rattle.windows.specs.Windows.{Windows}
use Rattle.windows.specs.Intervals.{is_overloaded, left_of, left_end}
use Rattle.windows.specs.RunningSums.{LatestReleaseFirst, boxes, AtLeftEnd, WalksDown, anew, Reaches, at_start, next_end}
use Rattle.windows.specs.Internal.{Passes, FindsLeft}
use Rattle.windows.specs.declared.running_sum.RunningSum.{RunningSum}
use Rattle.base.proofs.Sums.{le_or_lt}
use Rattle.base.proofs.Scans.{larger_ranks, best_cases, best_some, best_largest}
use Rattle.base.proofs.Permutations.{once_in, once_has}
use Rattle.windows.proofs.RunningSums.{SumSoFar, falls, at_left_end, sum_anew, sum_after, end_reached, sum_law}

-- A place that is passed, whose box ends after b.
pub passes_out : (b d p : ℕ) (s : RunningSum) → p ≤ 65535 → b < d → Passes b d p s (record s { passed = s.passed + 1 })
passes_out b d p s small h =
    let z = lt-leb d b h in
    record { a = refl; passed = refl; kept = rw z (omega arith); additions = rw z (omega arith); earlier = refl; small = small }

-- The walk over the left ends for b, from the sum s on: none was overloaded so far.
pub record NoneSoFar (w : Windows) (o : ℕ → ℕ) (b : ℕ) (s s' : RunningSum) : Type 0 where
  pub so_far : SumSoFar w o b s'
  pub walk : Reaches w o b s s'
  pub none : (y : ℕ) → y < s'.passed → is_overloaded w (w.r (o y)) b ≡ true → ⊥
  pub earlier : s'.earlier ≡ s.earlier

module _ (w : Windows) (o : ℕ → ℕ) (order : LatestReleaseFirst w o) (b : ℕ) (before s : RunningSum) (starts : s ≡ anew before) where
  pub left_start : NoneSoFar w o b s s
  left_start =
      rw starts
      (record {
        so_far = sum_anew w o b _;
        walk = at_start;
        none = λ y l _. omega (arith, l);
        earlier = refl;
      })

  module _ (s' : RunningSum) (so : NoneSoFar w o b s s') where
    -- the additions for the right ends before are kept
    kept_earlier : s'.earlier ≡ before.earlier + before.additions
    kept_earlier = so.earlier ∙ ap (λ (z : RunningSum). z.earlier) starts

    -- the next left end is reached, where the test of the sum kept says x
    module _ (t : RunningSum) (more : s'.passed < w.n) (down : WalksDown w o b s' t) (x : Bool)
        (says : x ≡ (ltb t.a b && ltb (b - t.a) t.kept)) where
      reached : AtLeftEnd w b t
      reached = end_reached w o b order s' t down so.so_far

      test_is : is_overloaded w t.a b ≡ x
      test_is = rw (← reached.kept_is) (sym says)

      pub left_next : x ≡ false → NoneSoFar w o b s t
      left_next e =
          record {
            so_far = sum_after w o b s' t down so.so_far;
            walk = next_end so.walk down;
            none =
                λ y l over.
                le_or_lt s'.passed y
                (λ h. true≢false (sym (rw (down.same_r y h l) at over) ∙ (test_is ∙ e)))
                (λ h. so.none y h over);
            earlier = down.adds.earlier ∙ so.earlier;
          }

      -- the first that is overloaded is the largest
      pub left_shown : x ≡ true → FindsLeft w o b before (record { overloaded = Some (record { a = t.a; b = b; work = t.kept }); sum = t })
      unfolding left_end
      left_shown e =
          let i = o s'.passed in
          let place = once_in w.n o order.once s'.passed more in
          let over : is_overloaded w (w.r i) b ≡ true = rw (← down.a_is) (test_is ∙ e) in
          let found = best_some w.n (left_of w b) _ (larger_ranks w.r) w.n (omega arith) i place over in
          let z = once_has w.n o order.once (left_end w b) found.below in
          let most : w.r i ≤ w.r (left_end w b) = best_largest w.n _ w.r _ found i place over in
          let least : w.r (left_end w b) ≤ w.r i =
          le_or_lt s'.passed z.0
          (λ h. omega (arith, falls w o order s'.passed z.0 h z.1, ap w.r z.2))
          (λ h. absurd (so.none z.0 h (rw z.2 found.passes))) in
          let a_is : t.a ≡ w.r (left_end w b) = omega (arith, most, least, down.a_is) in
          record {
            overloaded_is = rw (lt-ltb (left_end w b) w.n found.below, reached.kept_is, a_is) refl;
            at = λ _. a_is;
            walk = subst (λ (z : RunningSum). Reaches w o b z t) starts (next_end so.walk down);
            reached = reached;
            additions_are =
                rw (lt-ltb (left_end w b) w.n found.below)
                (reached.additions_are ∙ ap (λ (z : ℕ). boxes w z b) a_is);
            earlier = down.adds.earlier ∙ kept_earlier;
          }

    -- all left ends were reached
    module _ (end : w.n ≤ s'.passed) where
      -- without a place nothing was added
      empty : s'.passed < 1 → AtLeftEnd w b s'
      empty none = at_left_end w o order b s' so.so_far (λ y l. absurd (omega arith)) (λ y l u. absurd (omega (arith, end, u)))

      -- all boxes that end by b entered
      all_entered : s'.additions ≡ boxes w 0 b
      all_entered =
          (at_left_end w o order b
          (record { a = 0; passed = s'.passed; kept = s'.kept; additions = s'.additions; earlier = s'.earlier })
          (record {
            within = so.so_far.within;
            kept_is = so.so_far.kept_is;
            additions_are = so.so_far.additions_are;
            small = so.so_far.small;
          })
          (λ y l. omega arith)
          (λ y l u. absurd (omega (arith, end, l, u)))
          ).additions_are

      pub left_none : FindsLeft w o b before (record { overloaded = None; sum = s' })
      unfolding left_end
      left_none =
          let walk = subst (λ (z : RunningSum). Reaches w o b z s') starts so.walk in
          let none : ltb (left_end w b) w.n ≡ false =
          best_cases w.n (left_of w b) (larger w.r) (larger_ranks w.r) w.n (omega arith) (ltb (left_end w b) w.n ≡ false)
          (λ e _. le-ltb (left_end w b) w.n (omega (arith, e)))
          (λ found.
          let z = once_has w.n o order.once (left_end w b) found.below in
          absurd (so.none z.0 (omega (arith, z.1)) (rw z.2 found.passes))) in
          record {
            overloaded_is = rw none refl;
            at = λ e. absurd (true≢false (sym e ∙ none));
            walk = walk;
            reached = le_or_lt 1 s'.passed (sum_law w o order b before s' walk) empty;
            additions_are = rw none all_entered;
            earlier = kept_earlier;
          }
