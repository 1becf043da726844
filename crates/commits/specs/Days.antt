-- The lists that days hold, and stamps.
use Rattle.std.specs.Prelude.{ℕ, ◌+◌, min, [], ◌∷◌, ◌++◌}
use Rattle.list.specs.DayLists.{entries_of, day_list}
use Rattle.list.specs.declared.types.Entry.{Entry}
use Rattle.list.specs.declared.types.DayList.{DayList}

-- the list with the entries that count, and nothing else: every place from n on is blank, so that of at most 64 entries it is an equal list
abbrev pub trimmed : DayList → DayList
trimmed l = day_list l.frame (entries_of l)

-- "the longer list": one more entry, at place n
abbrev pub with_entry : DayList → Entry → DayList
with_entry l e = day_list l.frame (entries_of l ++ (e ∷ []))

-- the largest number of 16 bits
abbrev pub largest_stamp : ℕ
largest_stamp = 65535

-- the stamp after a success: one more; "at 65,535, never reached from fresh, it stays"
abbrev pub next_stamp : ℕ → ℕ
next_stamp s = min (s + 1) largest_stamp
