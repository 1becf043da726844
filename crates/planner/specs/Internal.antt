-- What private functions promise each other. No public promise cites these.
use Rattle.std.specs.Prelude.{ℕ, ◌≤◌, Bool, cond, List, length, take, Result}
use Rattle.base.specs.Outcomes.{Outcome}
use Rattle.list.specs.DayLists.{most_entries}
use Rattle.list.specs.declared.types.DayList.{DayList}
use Rattle.list.specs.declared.types.Refusal.{Refusal}
use Rattle.windows.specs.Windows.{Windows}
use Rattle.windows.specs.Plans.{Plan, places_in}
use Rattle.narrow.specs.Calls.{AnswersAs, HoldsAnswer}
use Rattle.narrow.specs.declared.types.NarrowedList.{NarrowedList}
use Rattle.planner.specs.BrokenEntries.{is_broken}
use Rattle.planner.specs.Calls.{narrow_after}

-- the first bytes are a plan in the windows
pub record HoldsPlan (w : Windows) (bytes : List ℕ) : Type 0 where
  pub few : w.n ≤ most_entries
  pub room : w.h ≤ length bytes
  pub plan : Plan w (places_in (take w.h bytes))

-- 1 for entry k if they break it, else 0
abbrev pub one_broken : (ℕ → Bool) → Windows → List ℕ → ℕ → ℕ
one_broken whole w bytes k = cond (is_broken whole w.h (places_in (take w.h bytes)) k) 1 0

-- an answer of narrowing after checks with this outcome
pub record NarrowsAfter (checks : Outcome (Unit {0})) (l : DayList) (a : Result NarrowedList Refusal) : Type 0 where
  pub answers : AnswersAs l (narrow_after checks l) a
  pub holds : HoldsAnswer l (narrow_after checks l) a
