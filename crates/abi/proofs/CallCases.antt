-- What the calls leave, from what the crates below answer.
-- Assumes nothing.
use mathlib.Core.Path.{◌≡◌, refl, sym, ap, subst, ◌∙◌}
use mathlib.Core.List.{List, [], ◌∷◌}
use Prim.Native.Nat.{ℕ}
use borrow.Author.Tests.{eq-eqb}
use lib.ListN.{length}
use Rattle.std.specs.Prelude.{Result, Ok, Err}
use Rattle.base.specs.Outcomes.{Outcome, answered, refused, and_then}
use Rattle.base.proofs.Inversion.{answered_same, answered_refused, Says, Anything, by_step}
use Rattle.list.specs.Refusals.{code_of, outcome_of}
use Rattle.list.specs.declared.types.DayList.{DayList}
use Rattle.list.specs.declared.types.Refusal.{Refusal}
use Rattle.jackson.specs.Calls.{Fills}
use Rattle.narrow.specs.Calls.{narrow_answer_of}
use Rattle.narrow.specs.declared.types.NarrowedList.{NarrowedList}
use Rattle.bounds.specs.declared.types.Shown.{Shown}
use Rattle.planner.specs.Calls.{narrow_after, PlansAfter, shown_of, Shows}
use Rattle.planner.specs.declared.types.PlannedDay.{PlannedDay}
use Rattle.planner.specs.declared.types.ShownPlan.{ShownPlan}
use Rattle.flat.specs.Flat.{flat_numbers, flat_of, value_of, flat_fault, list_in, flat_beside, StoresFlat}
use Rattle.flat.proofs.LengthCases.{length_says, list_says}
use Rattle.abi.specs.Calls.{answer_with, ScheduleCall, NarrowCall}
use Rattle.abi.specs.Calls.{PlannedCall, ShownCall, ShowCall}
use Rattle.abi.specs.Internal.{RefusedAs, GivesPlanned, GivesShown}
use Rattle.abi.specs.declared.Answer.{Answer}

pub nothing_narrowed : (x : Refusal) (second third : ℕ) (old : List ℕ) (b : Answer) → RefusedAs x b
    → NarrowCall (refused (code_of x)) second third old b old
nothing_narrowed x second third old b q = record { answer = q; buffer = refl; back = λ y e. absurd (answered_refused e refl) }

pub nothing_planned : (x : Refusal) (l : DayList) (third : ℕ) (plan fields bounds : List ℕ) (b : Answer) → RefusedAs x b
    → PlannedCall l (refused (code_of x)) third plan fields bounds b plan fields bounds
nothing_planned x l third plan fields bounds b q =
    record { narrowed = nothing_narrowed x _ third fields b q; plan = refl; bounds = refl }

-- rows that passed: the list value that was given
pub record Given (xs : List ℕ) (o : Outcome DayList) (l : DayList) : Type 0 where
  pub passed : o ≡ answered (value_of xs)
  pub value : l ≡ value_of xs

pub list_given : (xs : List ℕ) (l : DayList) → answered l ≡ list_in xs → Given xs (list_in xs) l
list_given xs l e =
    let is : l ≡ value_of xs = rw (← e) at (list_says xs) in
    record { passed = sym e ∙ ap answered is; value = is }

-- likewise where a row is lent beside the one given, and its length
module _ (xs fields : List ℕ) where
  abbrev Passed : DayList → Type 0
  Passed l = (l ≡ value_of xs) × (length fields ≡ flat_numbers)

  lent_says : (l : DayList) → l ≡ value_of xs → Says Passed Anything (and_then (flat_fault (length fields)) (λ _. answered l))
  lent_says l e =
      by_step (λ _. length fields ≡ flat_numbers) Anything Passed (flat_fault (length fields)) (λ _. answered l)
      (length_says flat_numbers (length fields)) (λ _ long. (e, long))

  beside_says : Says Passed Anything (flat_beside xs (length fields))
  beside_says =
      by_step (λ l. l ≡ value_of xs) Anything Passed (list_in xs) (λ l. and_then (flat_fault (length fields)) (λ _. answered l))
      (list_says xs)
      lent_says

  module _ (l : DayList) (e : answered l ≡ flat_beside xs (length fields)) where
    passed_both : Passed l
    passed_both = rw (← e) at beside_says

    pub beside_given : Given xs (flat_beside xs (length fields)) l
    beside_given = let is = passed_both.0 in record { passed = sym e ∙ ap answered is; value = is }

    pub beside_long : length fields ≡ flat_numbers
    beside_long = passed_both.1

module _ (xs : List ℕ) (l : DayList) (g : Given xs (list_in xs) l) (v : Result (Unit {0}) Refusal) (b : Answer)
    (q : b ≡ answer_with (λ _. []) (outcome_of v)) where
  pub schedule_said : (old new : List ℕ) → Fills l old v new → ScheduleCall xs old b new
  schedule_said old new w =
      let f : Fills (value_of xs) old v new = subst (λ (k : DayList). Fills k old v new) g.value w in
      rw g.passed (record { answer = q ∙ ap (answer_with (λ _. [])) f.outcome; buffer = f.buffer })

-- a narrowed list, in numbers
pub narrowed_given : (old : List ℕ) (v : NarrowedList) (second third : ℕ) (fields : List ℕ) → length old ≡ flat_numbers
    → StoresFlat v.list old fields
    → NarrowCall (narrow_answer_of (Ok v)) second third old (record { number = 0; values = v.moves ∷ second ∷ third ∷ [] }) fields
narrowed_given old v second third fields long put =
    let stored : fields ≡ flat_of v.list = rw (eq-eqb _ _ long) at put.numbers in
    record {
      answer = refl;
      buffer = stored;
      back = λ y e. put.back long ∙ ap (λ (z : DayList × ℕ). answered z.0) (answered_same refl e);
    }

-- what planning answered after any checks, in numbers
pub planned_said : {checks : Outcome (Unit {0})} {l : DayList} (a : Result PlannedDay Refusal) {third : ℕ} {b : Answer}
    {old_plan new_plan old_fields new_fields old_bounds new_bounds : List ℕ}
    → PlansAfter checks l old_plan a new_plan → GivesPlanned a third old_fields old_bounds b new_fields new_bounds
    → PlannedCall l (narrow_after checks l) third old_plan old_fields old_bounds b new_plan new_fields new_bounds
planned_said (Ok p) w given =
    let day = w.day p refl in
    record {
      narrowed = rw (← w.answers, ← day.broken) given.0;
      plan = w.buffer;
      bounds = rw (← day.ends, ← day.starts, ← w.holds.narrowed) given.1;
    }
planned_said {checks} {l} (Err x) {third} {b} {old_plan} {new_plan} {old_fields} {new_fields} {old_bounds} w given =
    let z : narrow_after checks l ≡ refused (code_of x) = sym w.holds.narrowed in
    let plan : new_plan ≡ old_plan = w.buffer ∙ rw z refl in
    rw (z, plan, given.1, given.2) (nothing_planned x l third old_plan old_fields old_bounds b given.0)

-- and what showing a plan answered
shown_told : (x : Shown) (l : DayList) (k : ℕ) (a : Result ShownPlan Refusal) {b : Answer} {old_plan new_plan old_fields new_fields : List ℕ}
    → Shows x l k old_plan a new_plan → GivesShown a old_fields b new_fields
    → ShownCall x l k (shown_of l k (length old_plan)) old_plan old_fields b new_plan new_fields
shown_told x l k (Ok p) w given = record { narrowed = rw (← w.answers, ← w.bound p refl) given; plan = w.buffer }
shown_told x l k (Err r) {b} {old_plan} {new_plan} {old_fields} w given =
    let z : shown_of l k (length old_plan) ≡ refused (code_of r) = sym w.holds.narrowed in
    let plan : new_plan ≡ old_plan = w.buffer ∙ rw z refl in
    rw (z, plan, given.1) (record { narrowed = nothing_narrowed r _ 0 old_fields b given.0; plan = refl })

-- narrowing, planning and showing a plan of the list value that was given
module _ (xs old_fields new_fields : List ℕ) (l : DayList) (g : Given xs (flat_beside xs (length old_fields)) l) (b : Answer) where
  pub shown_said : (x : Shown) (k : ℕ) (old_plan new_plan : List ℕ) (a : Result ShownPlan Refusal)
      → Shows x l k old_plan a new_plan
      → GivesShown a old_fields b new_fields
      → ShowCall x xs k old_plan old_fields b new_plan new_fields
  shown_said x k old_plan new_plan a w given =
      rw g.passed (shown_told x (value_of xs) k a (subst (λ (v : DayList). Shows x v k old_plan a new_plan) g.value w) given)
