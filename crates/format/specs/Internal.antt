-- What private functions promise each other. No public promise cites these.
use Rattle.std.specs.Prelude.{ℕ}
use Rattle.list.specs.declared.types.DayList.{DayList}

-- the list of the first k entries
abbrev pub first_entries : DayList → ℕ → DayList
first_entries l k = record { frame = l.frame; n = k; entries = l.entries }
