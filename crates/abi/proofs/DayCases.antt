-- What the calls on a stamped day leave, from what the crates below answer.
-- Assumes nothing.
use mathlib.Core.Path.{◌≡◌, refl, sym, ap, ◌∙◌}
use mathlib.Core.Bool.{not}
use mathlib.Core.List.{List}
use Prim.Native.Nat.{ℕ}
use borrow.Author.Tests.{eqb-true, not-false}
use lib.Dec.{eqb}
use lib.ListN.{length, get_or}
use Rattle.std.specs.Prelude.{Result, Ok, Err}
use Rattle.base.specs.Outcomes.{Outcome, answered, and_then}
use Rattle.base.proofs.Inversion.{Says, Anything, by_row, by_step}
use Rattle.list.specs.Refusals.{outcome_of}
use Rattle.list.specs.declared.types.DayList.{DayList}
use Rattle.list.specs.declared.types.Entry.{Entry}
use Rattle.list.specs.declared.types.Refusal.{Refusal}
use Rattle.narrow.specs.Rounds.{Narrowed}
use Rattle.narrow.specs.Calls.{narrowed_in}
use Rattle.planner.specs.Calls.{narrowed_by_plan}
use Rattle.planner.specs.declared.types.PlannedDay.{PlannedDay}
use Rattle.commits.specs.Days.{with_entry}
use Rattle.commits.specs.Calls.{commit_of, day_after, Asks, Commits}
use Rattle.commits.specs.declared.types.StampedDay.{StampedDay}
use Rattle.commits.specs.declared.types.AskAnswer.{AskAnswer}
use Rattle.commits.specs.declared.types.CommitAnswer.{CommitAnswer}
use Rattle.flat.specs.Flat.{flat_numbers, entry_numbers, entry_in}
use Rattle.flat.specs.DayRows.{day_numbers, day_of, day_fault, day_in}
use Rattle.flat.proofs.LengthCases.{length_says}
use Rattle.abi.specs.Calls.{PlannedCall}
use Rattle.abi.specs.DayCalls.{DayCall, beside_fault, day_beside, AskCall, day_if_committed, CommitCall}
use Rattle.abi.specs.Internal.{GivesPlanned, committed_day}
use Rattle.abi.specs.declared.Answer.{Answer}
use Rattle.abi.proofs.CallCases.{planned_said}

-- rows that passed: the day that was given, and their lengths
pub record DayGiven (xs ys fields : List ℕ) (d : StampedDay) : Type 0 where
  pub passed : day_beside xs (length ys) (length fields) ≡ answered (day_of xs)
  pub value : d ≡ day_of xs
  pub row : length xs ≡ day_numbers
  pub entry : length ys ≡ entry_numbers
  pub lent : length fields ≡ flat_numbers

-- what a day's row says, and its length
module _ (xs : List ℕ) where
  abbrev Row : StampedDay → Type 0
  Row d = (d ≡ day_of xs) × (length xs ≡ day_numbers)

  row_says : Says Row Anything (day_in xs)
  row_says =
      by_step (λ _. length xs ≡ day_numbers) Anything Row (day_fault (length xs)) (λ _. answered (day_of xs))
      (length_says day_numbers (length xs)) (λ _ long. (refl, long))

module _ (xs ys fields : List ℕ) where
  abbrev Beside : Type 0
  Beside = (length ys ≡ entry_numbers) × (length fields ≡ flat_numbers)

  abbrev Passed : StampedDay → Type 0
  Passed d = Row xs d × Beside

  beside_says : Says (λ _. Beside) Anything (beside_fault (length ys) (length fields))
  beside_says =
      by_row (λ _. Beside) Anything (not (eqb (length ys) entry_numbers)) _ _ (λ t. tt)
      (λ t. by_row (λ _. Beside) Anything (not (eqb (length fields) flat_numbers)) _ (answered tt) (λ u. tt)
      (λ u. (eqb-true _ _ (not-false _ t), eqb-true _ _ (not-false _ u))))

  all_say : Says Passed Anything (day_beside xs (length ys) (length fields))
  all_say =
      by_step (Row xs) Anything Passed (day_in xs) (λ d. and_then (beside_fault (length ys) (length fields)) (λ _. answered d))
      (row_says xs)
      (λ d r. by_step (λ _. Beside) Anything Passed (beside_fault (length ys) (length fields)) (λ _. answered d) beside_says
      (λ _ long. (r, long)))

  pub is_given : (d : StampedDay) → answered d ≡ day_beside xs (length ys) (length fields) → DayGiven xs ys fields d
  is_given d e =
      let z : Passed d = rw (← e) at all_say in
      record { passed = sym e ∙ ap answered z.0.0; value = z.0.0; row = z.0.1; entry = z.1.0; lent = z.1.1 }

-- the day that a row says
day_said : (xs : List ℕ) (d : StampedDay) → day_in xs ≡ answered d → d ≡ day_of xs
day_said xs d e = (rw e at (row_says xs)).0

-- the third value beside a success
third_value : {l : DayList} {o : Outcome Narrowed} {third : ℕ} {b : Answer}
    {old_plan old_fields old_bounds new_plan new_fields new_bounds : List ℕ}
    → PlannedCall l o third old_plan old_fields old_bounds b new_plan new_fields new_bounds
    → (v : Narrowed) → o ≡ answered v → get_or b.values 2 0 ≡ third
third_value call v q = ap (λ (c : Answer). get_or c.values 2 0) call.narrowed.answer ∙ rw q refl

-- what the calls answered of the day that was given
module _ (xs ys old_fields new_fields old_plan new_plan old_bounds new_bounds : List ℕ) (d : StampedDay) (g : DayGiven xs ys old_fields d)
    (e : Entry) (is : e ≡ entry_in ys 0) (b : Answer) where
  pub ask_said : (a : AskAnswer) → Asks d e old_plan a new_plan
      → GivesPlanned a.planned a.stamp old_fields old_bounds b new_fields new_bounds
      → AskCall xs ys old_plan old_fields old_bounds b new_plan new_fields new_bounds
  ask_said a w given =
      let f : Asks (day_of xs) (entry_in ys 0) old_plan a new_plan = rw (g.value, is) at w in
      let planned = planned_said a.planned f.plans (rw f.stamp at given) in
      rw g.passed (record { planned = planned; stamp = λ v q. third_value planned v q })

  pub commit_said : (a : CommitAnswer) (s : ℕ) (new_day : List ℕ) → Commits d e s old_plan a new_plan
      → DayCall (committed_day a) xs new_day
      → GivesPlanned a.planned a.stamp old_fields old_bounds b new_fields new_bounds
      → CommitCall xs ys s old_plan old_fields old_bounds b new_day new_plan new_fields new_bounds
  commit_said a s new_day w stored given =
      rw g.passed (record { planned = planned; day = day; stamp = third })
    where
      f : Commits (day_of xs) (entry_in ys 0) s old_plan a new_plan
      f = rw (g.value, is) at w

      o : Outcome Narrowed
      o = commit_of (day_of xs) (entry_in ys 0) s (length old_plan)

      stamp : a.stamp ≡ (day_after (day_of xs) (entry_in ys 0) o).stamp
      stamp = f.stamp ∙ ap (λ (k : StampedDay). k.stamp) f.day

      -- the day that was committed, by the answer and by the outcome
      same : committed_day a ≡ day_if_committed (day_of xs) (entry_in ys 0) o
      same = after a.planned a.day ∙ (λ j. and_then (f.plans.holds.narrowed j) (λ _. answered (f.day j)))
        where
          after : (t : Result PlannedDay Refusal) (k : StampedDay)
              → and_then (outcome_of t) (λ _. answered k) ≡ and_then (narrowed_in (narrowed_by_plan t)) (λ _. answered k)
          after (Ok p) k = refl
          after (Err x) k = refl

      day : DayCall (day_if_committed (day_of xs) (entry_in ys 0) o) xs new_day
      day = rw (← same) stored

      planned : PlannedCall (with_entry (day_of xs).list (entry_in ys 0)) o (day_after (day_of xs) (entry_in ys 0) o).stamp
          old_plan old_fields old_bounds b new_plan new_fields new_bounds
      planned = planned_said a.planned f.plans (rw stamp at given)

      third : (v : Narrowed) → o ≡ answered v → get_or b.values 2 0 ≡ (day_of new_day).stamp
      third v q =
          let said = day_said new_day _ (day.back (day_after (day_of xs) (entry_in ys 0) o) (rw q refl)) in
          third_value planned v q ∙ ap (λ (k : StampedDay). k.stamp) said
