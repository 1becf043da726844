-- Document 01's examples, and those of document 02's tie rule, hold of the definitions.
-- Assumes nothing.
use Prim.Native.Nat.{ℕ, zero, suc, ◌+◌, ◌<◌, ◌≤◌}
use mathlib.Core.Path.{◌≡◌, refl}
use mathlib.Core.List.{[], ◌∷◌}
use native.Mathlib.Omega.{arith}
use Rattle.list.specs.Entries.{entry_fault}
use Rattle.list.specs.Clashes.{first_clash}
use Rattle.list.specs.Checks.{header_fault, opening_fault, entries_fault, values_fault, check_of}
use Rattle.format.specs.Reading.{read_of, decode_of, opened_of, body_of, entries_from}
use Rattle.base.specs.Counting.{sum, same, first_below, last_below, best, list_of}
use Rattle.windows.specs.Windows.{windows_of}
use Rattle.windows.specs.Plans.{Plan, IsEnd, IsStart, places_in}
use Rattle.windows.specs.Intervals.{work, left_end, right_end, overload_of}
use Rattle.jackson.specs.Minutes.{chosen, minute_of, later, schedule}
use Rattle.base.proofs.Sums.{le_or_lt, same_cases, same_ne}
use Rattle.narrow.specs.Searching.{failed_starts, failed_ends, least_start, greatest_end}
use Rattle.narrow.specs.Rounds.{narrow_side, visit, visits, rounds, narrowing}
use Rattle.narrow.specs.Calls.{entries_with, list_with, settle_of, round_of}
use Rattle.bounds.specs.Ends.{failed_deadlines, failed_releases, least_end, greatest_start}
use Rattle.planner.specs.BrokenEntries.{broken_in}
use Rattle.planner.specs.Calls.{plan_checks, shown_checks}
use Rattle.planner.specs.Examples.{list_b, PlanExamples, TieExamples}

-- (b) over all plans: the four minutes are all given to an entry, and minute 3 cannot be place 0's.

module _ (m : ℕ → ℕ) (plan : Plan (windows_of list_b) m) where
  -- no minute is both places'
  at_most_one : (t : ℕ) → same (m t) 0 + same (m t) 1 ≤ 1
  at_most_one t =
      same_cases (m t) 0
      (λ e is. omega (arith, same_ne (m t) 1 (λ z. omega arith)))
      (λ _ is. same_cases (m t) 1 (λ _ one. omega arith) (λ _ one. omega arith))

  -- place 1 has exactly one of the first three minutes
  early_minutes : same (m 0) 1 + same (m 1) 1 + same (m 2) 1 ≡ 1
  unfolding sum
  early_minutes =
      omega (
        arith,
        plan.exact 0 (omega arith),
        plan.exact 1 (omega arith),
        at_most_one 0,
        at_most_one 1,
        at_most_one 2,
        at_most_one 3,
        same_ne (m 3) 0 (λ e. let z = plan.inside 0 3 (omega arith) (omega arith) e in omega arith),
      )

  -- and minute 3
  last_minute : m 3 ≡ 1
  unfolding sum
  last_minute =
      same_cases (m 3) 1
      (λ e _. e)
      (λ _ is. absurd (omega (arith, plan.exact 1 (omega arith), early_minutes, is)))

  end_at_least : (x : ℕ) → IsEnd 4 m 1 x → 4 ≤ x
  end_at_least x end = le_or_lt 4 x (λ l. l) (λ l. absurd (end.none_after 3 (omega arith) (omega arith) last_minute))

  start_at_most : (x : ℕ) → IsStart 4 m 1 x → x ≤ 2
  start_at_most x start =
      le_or_lt x 2
      (λ l. l)
      (λ l. absurd (omega (arith, early_minutes, none 0 (omega arith), none 1 (omega arith), none 2 (omega arith))))
    where
      none : (t : ℕ) → t < x → same (m t) 1 ≡ 0
      none t before = same_ne (m t) 1 (start.none_before t before)

-- place 0 at 0 and 1, place 1 at 2 and 3
abbrev plan_b : ℕ → ℕ
plan_b t = places_in (0 ∷ 0 ∷ 1 ∷ 1 ∷ []) t

plan_is : Plan (windows_of list_b) plan_b
unfolding sum
plan_is = record { exact = exact; inside = inside }
  where
    exact : (i : ℕ) → i < 2 → sum 4 (λ t. same (plan_b t) i) ≡ (windows_of list_b).p i
    exact zero place = refl
    exact (suc zero) place = refl
    exact (suc (suc i)) place = absurd (omega arith)

    inside : (i t : ℕ) → i < 2 → t < 4 → plan_b t ≡ i → ((windows_of list_b).r i ≤ t) × (t < (windows_of list_b).d i)
    inside zero t place below e = go t below e
      where
        go : (t : ℕ) → t < 4 → plan_b t ≡ 0 → (0 ≤ t) × (t < 3)
        go zero below e = (omega arith, omega arith)
        go (suc zero) below e = (omega arith, omega arith)
        go (suc (suc zero)) below e = absurd (omega (arith, e))
        go (suc (suc (suc zero))) below e = absurd (omega (arith, e))
        go (suc (suc (suc (suc t)))) below e = absurd (omega arith)
    inside (suc zero) t place below e = (omega arith, omega arith)
    inside (suc (suc i)) t place below e = absurd (omega arith)

ends_at_4 : IsEnd 4 plan_b 1 4
ends_at_4 = record { after_one = omega arith; within = omega arith; minute = refl; none_after = λ t l b e. omega arith }

starts_at_2 : IsStart 4 plan_b 1 2
starts_at_2 = record { below = omega arith; minute = refl; none_before = none }
  where
    none : (t : ℕ) → t < 2 → plan_b t ≡ 1 → ⊥
    none zero l e = absurd (omega (arith, e))
    none (suc zero) l e = absurd (omega (arith, e))
    none (suc (suc t)) l e = absurd (omega arith)

-- Outcomes and bytes are computed.
pub plan_examples : PlanExamples
unfolding read_of decode_of opened_of body_of entries_from first_clash check_of values_fault header_fault opening_fault entries_fault
    entry_fault
    sum first_below best list_of work left_end right_end overload_of chosen minute_of later schedule
    failed_starts failed_ends least_start greatest_end narrow_side visit visits rounds narrowing
    entries_with list_with settle_of round_of failed_deadlines failed_releases least_end greatest_start plan_checks
plan_examples =
    record {
      serials = refl;
      a_round_one = refl;
      a_round_two = refl;
      a_round_three = refl;
      a_settled = record { narrowed = refl; planned = refl };
      b_no_move = record { narrowed = refl; planned = refl };
      b_least_end = record { bound = end_at_least; reached = (plan_b, plan_is, ends_at_4) };
      b_greatest_start = record { bound = start_at_most; reached = (plan_b, plan_is, starts_at_2) };
      b_end_answered = refl;
      b_start_answered = refl;
      c_refused = record { narrowed = refl; planned = refl };
      c_accepted = record { narrowed = refl; planned = refl };
      d_refused = record { narrowed = refl; planned = refl };
      e_refused = record { narrowed = refl; planned = refl };
      f_accepted = record { narrowed = refl; planned = refl };
      f_plan = refl;
      g_accepted = record { narrowed = refl; planned = refl };
      g_plan = refl;
      h_read = refl;
      h_accepted = record { narrowed = refl; planned = refl };
      h_plan = refl;
    }

pub tie_examples : TieExamples
unfolding first_clash check_of values_fault header_fault opening_fault entries_fault entry_fault
    sum first_below last_below best list_of work left_end right_end overload_of chosen minute_of later schedule
    failed_starts failed_ends least_start greatest_end narrow_side visit visits rounds narrowing
    failed_deadlines failed_releases least_end greatest_start broken_in plan_checks shown_checks
tie_examples =
    record {
      fewest_left = refl;
      early = refl;
      late = refl;
      more_broken = record { plan = refl; broken = refl };
      fewer_broken = record { plan = refl; broken = refl };
      lowest_place = refl;
      late_lowest = refl;
      goes_on = refl;
      interrupted = refl;
      left_not_needed = refl;
    }
