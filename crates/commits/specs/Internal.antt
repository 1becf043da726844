-- What private functions promise each other. No public promise cites these.
use Rattle.std.specs.Prelude.{ℕ, ◌<◌, ◌≡◌, List, length, Result}
use Rattle.base.specs.Outcomes.{Outcome, answered}
use Rattle.list.specs.DayLists.{most_entries}
use Rattle.list.specs.declared.types.Entry.{Entry}
use Rattle.list.specs.declared.types.DayList.{DayList}
use Rattle.list.specs.declared.types.Refusal.{Refusal}
use Rattle.planner.specs.Calls.{PlansAfter}
use Rattle.planner.specs.declared.types.PlannedDay.{PlannedDay}
use Rattle.commits.specs.Days.{with_entry}
use Rattle.commits.specs.Calls.{longer_checks}

-- rows that were passed leave room for one more entry
abbrev pub HasRoom : Outcome (Unit {0}) → DayList → Type 0
HasRoom o l = o ≡ answered tt → l.n < most_entries

-- what planning the list l with one more entry answers after rows with this outcome, and leaves in a plan buffer that held old
abbrev pub PlansLonger : Outcome (Unit {0}) → DayList → Entry → List ℕ → Result PlannedDay Refusal → List ℕ → Type 0
PlansLonger o l e old = PlansAfter (longer_checks o l e (length old)) (with_entry l e) old
