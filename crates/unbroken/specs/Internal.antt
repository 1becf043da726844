-- What the private functions promise each other.
use Rattle.std.specs.Prelude.{ℕ, ◌≡◌, Bool, cond, List, length, replicate}
use Rattle.list.specs.DayLists.{most_entries}
use Rattle.windows.specs.Windows.{windows_in}
use Rattle.jackson.specs.Calls.{buffer_fault, plan_after}
use Rattle.backtracking.specs.Calls.{is_found}
use Rattle.backtracking.specs.declared.types.SearchAnswer.{SearchAnswer}
use Rattle.unbroken.specs.Calls.{whole_starts}

-- the starts of a search's answer
abbrev pub starts_said : (ℕ → Bool) → SearchAnswer → List ℕ
starts_said whole a = cond (is_found a.ending) (whole_starts whole (windows_in a.windows)) (replicate most_entries 0)

-- the schedule is stored where a day was found
abbrev pub StoresFound : SearchAnswer → List ℕ → List ℕ → Type 0
StoresFound a old new =
    let w = windows_in a.windows in
    new ≡ cond (is_found a.ending) (plan_after (buffer_fault w.h (length old)) w old) old
