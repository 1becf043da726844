-- What the calls that narrow promise: "planning a list and showing an early or late plan".
use Rattle.std.specs.Prelude.{ℕ, ◌<◌, ◌≤◌, ◌≡◌, Bool, cond, List, [], ◌∷◌, ◌++◌, length, get_or, take, drop, replicate, eqb, Result, Ok, Err}
use Rattle.base.specs.Outcomes.{Code, code, Row, Outcome, answered, refused, first_of, and_then}
use Rattle.list.specs.Refusals.{code_of}
use Rattle.list.specs.DayLists.{whole_in, most_entries}
use Rattle.list.specs.Checks.{check_of, WellFormed}
use Rattle.list.specs.declared.types.DayList.{DayList}
use Rattle.list.specs.declared.types.Refusal.{Refusal}
use Rattle.windows.specs.Windows.{Windows, windows_of}
use Rattle.windows.specs.Plans.{places_in}
use Rattle.windows.specs.Intervals.{overload_of}
use Rattle.jackson.specs.Minutes.{schedule}
use Rattle.jackson.specs.Calls.{buffer_row}
use Rattle.narrow.specs.Rounds.{Narrowed, narrowing}
use Rattle.narrow.specs.Calls.{settle_of, AnswersAs, HoldsAnswer}
use Rattle.narrow.specs.declared.types.NarrowedList.{NarrowedList}
use Rattle.bounds.specs.Ends.{least_ends, greatest_starts}
use Rattle.bounds.specs.ShownPlans.{early_plan, late_plan, bound_of, shown_plan}
use Rattle.bounds.specs.Calls.{place_row}
use Rattle.bounds.specs.declared.types.Shown.{Shown}
use Rattle.bounds.specs.declared.types.Shown.TheVariants.{Early, Late}
use Rattle.planner.specs.BrokenEntries.{broken_in}
use Rattle.planner.specs.Demand2.{PlansWindows}
use Rattle.planner.specs.Demand3.{Told, told_refused, Demand3}
use Rattle.planner.specs.declared.types.PlannedDay.{PlannedDay}
use Rattle.planner.specs.declared.types.ShownPlan.{ShownPlan}

-- "The checks before 9 are all that such a call tests before the given windows, in the table below the rows above 9": the value check,
-- then the rows about what the call lends and asks
abbrev pub before_nine : DayList → List Row → Outcome (Unit {0})
before_nine l rows = and_then (check_of l) (λ _. first_of rows (answered tt))

-- the rows above 9 for a plan buffer of this length, and for a place k beside it
unfoldable pub plan_checks : DayList → ℕ → Outcome (Unit {0})
plan_checks l room = before_nine l (buffer_row l.frame.h room ∷ [])

unfoldable pub shown_checks : DayList → ℕ → ℕ → Outcome (Unit {0})
shown_checks l k room = before_nine l (place_row l.n k ∷ buffer_row l.frame.h room ∷ [])

-- then rows 9 and 10, and the settled windows with their moves
abbrev pub narrow_after : Outcome (Unit {0}) → DayList → Outcome Narrowed
narrow_after checks l = and_then checks (λ _. narrowing overload_of (whole_in l) (windows_of l))

-- what f gives of the settled windows, or x where they are refused
abbrev pub settled_or : {A : Type 0} → A → (Windows → A) → Outcome Narrowed → A
settled_or x f (answered v) = f v.windows
settled_or x f (refused k) = x

-- "In a longer buffer the bytes after H keep their values." "A refusal writes nothing to any lent buffer.": what a buffer that held old
-- holds after a plan of the settled windows
abbrev pub planned : (Windows → List ℕ) → List ℕ → Outcome Narrowed → List ℕ
planned f old = settled_or old (λ w. f w ++ drop w.h old)

-- the same in facts; `buffer_law` of proofs/CallLaws.antt proves it where f gives H bytes
pub record BufferLaw (f : Windows → List ℕ) (old : List ℕ) (o : Outcome Narrowed) : Type 0 where
  pub stays : (c : Code) → o ≡ refused c → planned f old o ≡ old
  pub plan : (v : Narrowed) → o ≡ answered v → take v.windows.h (planned f old o) ≡ f v.windows
  pub long : (v : Narrowed) → o ≡ answered v → v.windows.h ≤ length old → length (planned f old o) ≡ length old
  pub after : (v : Narrowed) → o ≡ answered v → (j : ℕ) → v.windows.h ≤ j → get_or (planned f old o) j 0 ≡ get_or old j 0

-- Planning a list.

-- the outcome of planning with a plan buffer of this length
abbrev pub plan_of : DayList → ℕ → Outcome Narrowed
plan_of l room = narrow_after (plan_checks l room) l

-- the same with as many bytes as the plan has, so that row 11 is passed over
abbrev pub planning : DayList → Outcome Narrowed
planning l = plan_of l l.frame.h

-- the least ends, greatest starts and broken entries beside the windows answered; 0 where they are refused, which no answer gives
abbrev pub ends_of : (ℕ → Bool) → Outcome Narrowed → List ℕ
ends_of whole = settled_or (replicate most_entries 0) (least_ends whole)

abbrev pub starts_of : (ℕ → Bool) → Outcome Narrowed → List ℕ
starts_of whole = settled_or (replicate most_entries 0) (greatest_starts whole)

abbrev pub broken_of : (ℕ → Bool) → Outcome Narrowed → ℕ
broken_of whole = settled_or 0 (λ w. broken_in whole w (places_in (schedule w)))

-- the narrowed list of a planned day
abbrev pub narrowed_by_plan : Result PlannedDay Refusal → Result NarrowedList Refusal
narrowed_by_plan (Ok p) = Ok p.narrowed
narrowed_by_plan (Err x) = Err x

-- what the call tells: windows, moves and bounds as answered, and the plans that they lead to
abbrev pub told_by_plan : Result PlannedDay Refusal → Told
told_by_plan (Ok p) =
    let w = windows_of p.narrowed.list in
    record {
      outcome = answered (record { windows = w; moves = p.narrowed.moves });
      end = λ k. get_or p.ends k 0;
      start = λ k. get_or p.starts k 0;
      early = λ k. early_plan w k (get_or p.ends k 0);
      late = λ k. late_plan w k (get_or p.starts k 0);
    }
told_by_plan (Err x) = told_refused (code_of x)

-- what is answered beside the narrowed list where this is the outcome, and what the plan's bytes are
pub record HoldsDay (whole : ℕ → Bool) (o : Outcome Narrowed) (bytes : List ℕ) (p : PlannedDay) : Type 0 where
  pub broken : p.broken ≡ broken_of whole o
  pub ends : p.ends ≡ ends_of whole o
  pub starts : p.starts ≡ starts_of whole o
  -- demand 2, of the windows answered and these bytes
  pub demand2 : PlansWindows whole (windows_of p.narrowed.list) bytes p.broken

-- what planning the list l after checks with this outcome answers, and leaves in a plan buffer that held old
pub record PlansAfter (checks : Outcome (Unit {0})) (l : DayList) (old : List ℕ) (a : Result PlannedDay Refusal) (new : List ℕ) : Type 0 where
  pub answers : AnswersAs l (narrow_after checks l) (narrowed_by_plan a)
  pub holds : HoldsAnswer l (narrow_after checks l) (narrowed_by_plan a)
  pub day : (p : PlannedDay) → a ≡ Ok p → HoldsDay (whole_in l) (narrow_after checks l) (take l.frame.h new) p
  pub buffer : new ≡ planned schedule old (narrow_after checks l)
  -- demand 3, for a list that passes the checks before 9
  pub demand3 : checks ≡ answered tt → Demand3 (whole_in l) (windows_of l) (told_by_plan a)

-- what planning the list l answers, and leaves in a plan buffer that held old
abbrev pub PlansDay : DayList → List ℕ → Result PlannedDay Refusal → List ℕ → Type 0
PlansDay l old = PlansAfter (plan_checks l (length old)) l old

-- Showing an early or late plan.

-- the outcome of showing a plan of place k with a plan buffer of this length
abbrev pub shown_of : DayList → ℕ → ℕ → Outcome Narrowed
shown_of l k room = narrow_after (shown_checks l k room) l

-- `call_rows_law` of proofs/CallLaws.antt: the rows of a call with a plan buffer of this length, and of one that asks for place k, in the
-- table's order, with what 13 and 11 carry; then narrowing, so that 9 and 10 are last
pub record CallRowsLaw (l : DayList) (k room : ℕ) : Type 0 where
  pub before : (c : Code) → check_of l ≡ refused c → (plan_of l room ≡ refused c) × (shown_of l k room ≡ refused c)
  pub unknown : WellFormed l → l.n ≤ k → shown_of l k room ≡ refused (code 13 (k ∷ []))
  pub plan_short : WellFormed l → room < l.frame.h → plan_of l room ≡ refused (code 11 (l.frame.h ∷ []))
  pub shown_short : WellFormed l → k < l.n → room < l.frame.h → shown_of l k room ≡ refused (code 11 (l.frame.h ∷ []))
  pub plan_then : WellFormed l → l.frame.h ≤ room → plan_of l room ≡ settle_of l
  pub shown_then : WellFormed l → k < l.n → l.frame.h ≤ room → shown_of l k room ≡ settle_of l

-- f, but v for the plan x of place k
abbrev pub put_shown : {A : Type 0} → Shown → ℕ → A → (Shown → ℕ → A) → Shown → ℕ → A
put_shown Early k v f Early i = cond (eqb i k) v (f Early i)
put_shown Late k v f Late i = cond (eqb i k) v (f Late i)
put_shown Early k v f Late i = f Late i
put_shown Late k v f Early i = f Early i

-- the narrowed list of a shown plan
abbrev pub narrowed_by_shown : Result ShownPlan Refusal → Result NarrowedList Refusal
narrowed_by_shown (Ok p) = Ok p.narrowed
narrowed_by_shown (Err r) = Err r

-- what the call that shows the plan x of place k tells: of that plan the bound answered and the bytes in the buffer, of the other plan and
-- of the other places what is defined for the windows answered
abbrev pub told_by_shown : Shown → (ℕ → Bool) → ℕ → Result ShownPlan Refusal → List ℕ → Told
told_by_shown x whole k (Ok p) bytes =
    let w = windows_of p.narrowed.list in
    let bound = put_shown x k p.bound (λ y i. bound_of y whole i w) in
    let plan = put_shown x k bytes (λ y i. shown_plan y whole i w) in
    record {
      outcome = answered (record { windows = w; moves = p.narrowed.moves });
      end = bound Early;
      start = bound Late;
      early = plan Early;
      late = plan Late;
    }
told_by_shown x whole k (Err r) bytes = told_refused (code_of r)

-- what showing the plan x of place k of the list l answers, and leaves in a plan buffer that held old
pub record Shows (x : Shown) (l : DayList) (k : ℕ) (old : List ℕ) (a : Result ShownPlan Refusal) (new : List ℕ) : Type 0 where
  pub answers : AnswersAs l (shown_of l k (length old)) (narrowed_by_shown a)
  pub holds : HoldsAnswer l (shown_of l k (length old)) (narrowed_by_shown a)
  pub bound : (p : ShownPlan) → a ≡ Ok p → p.bound ≡ settled_or 0 (bound_of x (whole_in l) k) (shown_of l k (length old))
  pub buffer : new ≡ planned (shown_plan x (whole_in l) k) old (shown_of l k (length old))
  -- demand 3, for a list, place and buffer that pass the checks before 9
  pub demand3 : shown_checks l k (length old) ≡ answered tt
      → Demand3 (whole_in l) (windows_of l) (told_by_shown x (whole_in l) k a (take l.frame.h new))

abbrev pub ShowsEarly : DayList → ℕ → List ℕ → Result ShownPlan Refusal → List ℕ → Type 0
ShowsEarly = Shows Early

abbrev pub ShowsLate : DayList → ℕ → List ℕ → Result ShownPlan Refusal → List ℕ → Type 0
ShowsLate = Shows Late
