-- Writing: "The writer gives the list's one form; bytes after it keep their values." and "A refusal writes nothing to any lent buffer."
use Rattle.std.specs.Prelude.{ℕ, suc, List, [], ◌∷◌, ◌++◌, length, drop, ltb}
use Rattle.base.specs.Outcomes.{Outcome, answered, refused, row, first_of, and_then}
use Rattle.format.specs.Forms.{entry_bytes}
use Rattle.format.specs.Headers.{header_bytes}
use Rattle.list.specs.DayLists.{entries_of}
use Rattle.list.specs.Checks.{check_of}
use Rattle.list.specs.declared.types.Entry.{Entry}
use Rattle.list.specs.declared.types.Frame.{Frame}
use Rattle.list.specs.declared.types.DayList.{DayList}

-- the entries' one forms, one after the other
unfoldable pub bytes_of_entries : Frame → List Entry → List ℕ
bytes_of_entries f [] = []
bytes_of_entries f (e ∷ es) = entry_bytes f e ++ bytes_of_entries f es

-- the list's one form
unfoldable pub bytes_of : DayList → List ℕ
bytes_of l = header_bytes l.frame l.n ++ bytes_of_entries l.frame (entries_of l)

-- "A longest list has 965 bytes": 5 of the header, and 15 for each of 64 entries that write all their fields
abbrev pub longest_list : ℕ
longest_list = 965

-- so one byte more decides how an input is read: "the program takes 966"
abbrev pub read_limit : ℕ
read_limit = suc longest_list

-- row 12 for bytes that are to stand at the start of a buffer of the length given: how many are stored, or how many are needed
abbrev pub storing : List ℕ → ℕ → Outcome ℕ
storing bytes room = first_of (row 12 (ltb room (length bytes)) (length bytes) ∷ []) (answered (length bytes))

-- the buffer afterwards
abbrev pub stored : Outcome ℕ → List ℕ → List ℕ → List ℕ
stored (answered n) bytes old = bytes ++ drop n old
stored (refused k) bytes old = old

-- the number of bytes written to a buffer of the length given, or the first row, 2, 3, 15, 16, 6, 7, 14 and 12, that turns the list back
unfoldable pub write_of : DayList → ℕ → Outcome ℕ
write_of l room = and_then (check_of l) (λ _. storing (bytes_of l) room)

-- the buffer afterwards
abbrev pub buffer_after : Outcome ℕ → DayList → List ℕ → List ℕ
buffer_after o l old = stored o (bytes_of l) old
