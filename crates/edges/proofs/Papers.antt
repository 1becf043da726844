-- What holds of the papers' claims, and the lists for which one pass does not give the least start.
-- Assumes nothing.
use mathlib.Core.Path.{◌≡◌, refl}
use mathlib.Core.Bool.{true, ◌&&◌}
use Prim.Native.Nat.{ℕ, ◌+◌, ◌<◌, ◌≤◌, min}
use native.Mathlib.Omega.{arith}
use borrow.Author.Tests.{ltb-true}
use lib.Dec.{leb, ltb}
use Rattle.base.specs.Outcomes.{Code, answered, refused}
use Rattle.base.specs.Counting.{sum, first_below, best}
use Rattle.base.proofs.Sums.{le_or_lt, below_suc, cond_cases, and_true}
use Rattle.base.proofs.Inversion.{answered_refused}
use Rattle.windows.specs.Windows.{Windows, fixed_at, room_fault, Formed}
use Rattle.windows.specs.Plans.{Plannable}
use Rattle.windows.specs.Intervals.{work, left_end, right_end, overload_of}
use Rattle.windows.proofs.Endpoints.{work_wider}
use Rattle.windows.proofs.Room.{passes_formed, formed_roomy}
use Rattle.jackson.proofs.Law.{plan_law}
use Rattle.edges.specs.Starts.{others}
use Rattle.edges.specs.Ends.{largest}
use Rattle.windows.specs.FixedEntries.{NoStart}
use Rattle.edges.specs.Papers.{set_work, says, part_done, one_pass, six_minutes, four_minutes, Papers}
use Rattle.edges.proofs.Jumps.{Barred}
use Rattle.edges.proofs.Largest.{largest_cases}
use Rattle.edges.proofs.StartLaws.{barred_none, start_law}
use Rattle.edges.proofs.EndLaws.{end_law}

-- Small lists, by the tests for room and for overload.
module _ (w : Windows) (few : w.n ≤ 255) (room : room_fault w ≡ answered tt) where
  formed : Formed w
  formed = passes_formed w few room

  accepted_plan : overload_of w ≡ answered tt → Plannable w
  accepted_plan e = (plan_law w (formed_roomy w formed) few).accepted.1 e

  refused_none : (k : Code) → overload_of w ≡ refused k → Plannable w → ⊥
  refused_none k e plan = answered_refused ((plan_law w (formed_roomy w formed) few).accepted.0 plan) e

-- The rule.
module _ (w : Windows) (k : ℕ) where
  -- all starts before z are barred
  abbrev BarredBefore : ℕ → Type 0
  BarredBefore z = (t : ℕ) → w.r k ≤ t → t < z → Barred (others w k) (w.p k) t

  none_before : BarredBefore 0
  none_before t from less = absurd (omega (arith, less))

  part_barred : (j i x : ℕ) → says w k j i ≡ true → BarredBefore (part_done w k j i x)
  part_barred j i x is =
      cond_cases BarredBefore (leb (w.r i) (w.r x) && ltb 0 (set_work w k j x)) _ _
      (λ e t from less.
      let full = ltb-true (w.d j) _ (and_true (ltb 0 (set_work w k j i)) _ is).1 in
      let some = ltb-true 0 (set_work w k j x) (and_true (leb (w.r i) (w.r x)) _ e).1 in
      le_or_lt (t + w.p k) (w.d j)
      -- the entry would lie before the set's end
      (λ h.
      record {
        a = min (w.r i) t;
        b = w.d j;
        left = omega arith;
        right = h;
        full =
            omega (
              arith,
              full,
              from,
              work_wider (others w k) (w.r i) (w.d j) (min (w.r i) t) (w.d j) (omega arith) (omega arith),
            );
      })
      -- or the part after it
      (λ h.
      record {
        a = min (w.r x) t;
        b = t + w.p k;
        left = omega arith;
        right = omega arith;
        full =
            omega (
              arith,
              some,
              less,
              work_wider (others w k) (w.r x) (w.d j) (min (w.r x) t) (t + w.p k) (omega arith) (omega (arith, h)),
            );
      }))
      (λ _. none_before)

  pass_barred : BarredBefore (one_pass w k)
  unfolding one_pass
  pass_barred =
      largest_cases (w.r k) BarredBefore w.n _ (λ t from less. absurd (omega (arith, from, less)))
      (λ j _. largest_cases 0 BarredBefore w.n _ none_before
      (λ i _.
      cond_cases BarredBefore (says w k j i) _ _
      (λ is. largest_cases 0 BarredBefore w.n _ none_before (λ x _. part_barred j i x is))
      (λ _. none_before)))

six : (x : ℕ) → 0 ≤ x → x < 4 → Plannable (fixed_at six_minutes 0 x) → ⊥
unfolding work sum overload_of right_end left_end best room_fault first_below
six x from less =
    below_suc 3 (λ y. Plannable (fixed_at six_minutes 0 y) → ⊥)
    (below_suc 2 _
    (below_suc 1 _
    (below_suc 0 _ (λ y l. absurd (omega (arith, l))) (refused_none (fixed_at six_minutes 0 0) (omega arith) refl _ refl))
    (refused_none (fixed_at six_minutes 0 1) (omega arith) refl _ refl))
    (refused_none (fixed_at six_minutes 0 2) (omega arith) refl _ refl))
    (refused_none (fixed_at six_minutes 0 3) (omega arith) refl _ refl) x less

four : NoStart four_minutes 0
unfolding work sum overload_of right_end left_end best room_fault first_below
four x from room =
    below_suc 2 (λ y. Plannable (fixed_at four_minutes 0 y) → ⊥)
    (below_suc 1 _
    (below_suc 0 _ (λ y l. absurd (omega (arith, l))) (refused_none (fixed_at four_minutes 0 0) (omega arith) refl _ refl))
    (refused_none (fixed_at four_minutes 0 1) (omega arith) refl _ refl))
    (refused_none (fixed_at four_minutes 0 2) (omega arith) refl _ refl) x (omega (arith, room))

pub papers : Papers
unfolding one_pass largest work sum overload_of right_end left_end best room_fault first_below
papers =
    record {
      rule = λ w formed k place x from less room. barred_none w formed k place x room (pass_barred w k x from less);
      not_least = refl;
      least =
          record {
            from_r = omega arith;
            room = omega arith;
            plan = accepted_plan (fixed_at six_minutes 0 4) (omega arith) refl refl;
            least = six;
          };
      not_any = refl;
      planned = accepted_plan four_minutes (omega arith) refl refl;
      none = four;
      repeated = λ w formed planned k place o order. start_law w formed k place planned o order;
      ends = λ w formed planned k place. end_law w formed planned k place;
    }
