-- The calls in each case that the code meets.
-- Assumes nothing.
use mathlib.Core.Path.{◌≡◌, refl, sym, ap, ◌∙◌}
use mathlib.Core.List.{List}
use Prim.Native.Nat.{ℕ, ◌<◌}
use native.Mathlib.Omega.{arith}
use borrow.Author.Tests.{le-ltb}
use lib.ListN.{length}
use Rattle.base.specs.Outcomes.{Outcome, answered, refused, and_then}
use Rattle.base.proofs.Inversion.{answered_refused}
use Rattle.list.specs.DayLists.{most_entries}
use Rattle.list.specs.Checks.{check_of}
use Rattle.list.specs.Refusals.{code_of, outcome_of}
use Rattle.list.specs.declared.types.Entry.{Entry}
use Rattle.list.specs.declared.types.DayList.{DayList}
use Rattle.list.specs.declared.types.Refusal.{Refusal}
use Rattle.std.specs.Prelude.{Result, Ok, Err}
use Rattle.windows.specs.Windows.{windows_of}
use Rattle.narrow.specs.Calls.{settle_of, narrowed_in, Settles}
use Rattle.narrow.specs.declared.types.NarrowedList.{NarrowedList}
use Rattle.planner.specs.Calls.{plan_checks, narrow_after, planning, narrowed_by_plan, PlansDay}
use Rattle.planner.specs.declared.types.PlannedDay.{PlannedDay}
use Rattle.planner.proofs.AnswerCases.{plan_refused}
use Rattle.commits.specs.Days.{trimmed, with_entry, next_stamp}
use Rattle.commits.specs.Calls.{longer_checks, day_after, Succeeds, MakesDay}
use Rattle.commits.specs.Internal.{HasRoom, PlansLonger}
use Rattle.commits.specs.declared.types.StampedDay.{StampedDay}

-- Planning the longer list: refused by the rows before it, or not.
module _ (v : Result (Unit {0}) Refusal) (l : DayList) (e : Entry) (old : List ℕ) (a : Result PlannedDay Refusal) where
  pub longer_refused : (x : Refusal) → v ≡ Err x → a ≡ Err x → PlansLonger (outcome_of v) l e old a old
  longer_refused x is turned =
      let z : longer_checks (outcome_of v) l e (length old) ≡ refused (code_of x) = rw is refl in
      plan_refused (longer_checks (outcome_of v) l e (length old)) (with_entry l e) (λ q. absurd (answered_refused q z)) old a x turned
      (rw z refl)

  pub longer_planned : (new : List ℕ) → v ≡ Ok tt → PlansDay (with_entry l e) old a new → PlansLonger (outcome_of v) l e old a new
  longer_planned new is plans = rw is plans

-- The day after a commit.
module _ (o : Outcome (Unit {0})) (l : DayList) (e : Entry) (old : List ℕ) (a : Result PlannedDay Refusal) (new : List ℕ)
    (plans : PlansLonger o l e old a new) where
  outcome_is : narrowed_in (narrowed_by_plan a) ≡ narrow_after (longer_checks o l e (length old)) (with_entry l e)
  outcome_is = plans.holds.narrowed

  -- rows that leave room were passed where the commit succeeded
  pub success_room : HasRoom o l → Succeeds a → l.n < most_entries
  success_room room (p, is) = go o refl
    where
      told : answered (record { windows = windows_of p.narrowed.list; moves = p.narrowed.moves }) ≡ narrow_after (longer_checks o l e (length old)) (with_entry l e)
      told = sym (ap (λ (b : Result PlannedDay Refusal). narrowed_in (narrowed_by_plan b)) is) ∙ outcome_is

      go : (u : Outcome (Unit {0})) → o ≡ u → l.n < most_entries
      go (answered w) passed = room passed
      go (refused k) passed = absurd (answered_refused {x = k} refl (told ∙ rw passed refl))

  pub day_after_success : Succeeds a → (d : StampedDay) → record { list = with_entry d.list e; stamp = next_stamp d.stamp }
      ≡ day_after d e (narrow_after (longer_checks o l e (length old)) (with_entry l e))
  day_after_success (p, is) d =
      ap (day_after d e) (sym (ap (λ (b : Result PlannedDay Refusal). narrowed_in (narrowed_by_plan b)) is) ∙ outcome_is)

  pub day_after_refusal : (x : Refusal) → a ≡ Err x → (d : StampedDay)
      → d ≡ day_after d e (narrow_after (longer_checks o l e (length old)) (with_entry l e))
  day_after_refusal x is d =
      ap (day_after d e) (sym (ap (λ (b : Result PlannedDay Refusal). narrowed_in (narrowed_by_plan b)) is) ∙ outcome_is)

-- A fresh day. Where row 11 is passed over, planning has the outcome of narrowing.
pub planning_settles : (l : DayList) → planning l ≡ settle_of l
unfolding plan_checks settle_of
planning_settles l = rw (le-ltb l.frame.h l.frame.h (omega arith)) (go (check_of l))
  where
    go : (o : Outcome (Unit {0})) → narrow_after (and_then o (λ _. answered tt)) l ≡ and_then o (λ _. narrow_after (answered tt) l)
    go (answered t) = refl
    go (refused k) = refl

module _ (l : DayList) where
  pub fresh_refused : (a : Result StampedDay Refusal) (x : Refusal) → a ≡ Err x → Settles l (Err x) → MakesDay l a
  fresh_refused a x e settles =
      let z : planning l ≡ refused (code_of x) = planning_settles l ∙ sym settles.holds.narrowed in rw (z, e) refl

  pub fresh_made : (v : NarrowedList) → Settles l (Ok v) → (b : DayList) → b ≡ trimmed l → MakesDay l (Ok (record { list = b; stamp = 0 }))
  fresh_made v settles b is =
      let z : planning l ≡ answered _ = planning_settles l ∙ sym settles.holds.narrowed in rw (z, is) refl
