-- A room's share of a buffer of lists: the list at its front, and a list written there.
use Rattle.std.specs.Prelude.{ℕ, List, [], ◌∷◌, ◌++◌, length, drop, ltb}
use Rattle.base.specs.Outcomes.{Outcome, answered, row, first_of, and_then}
use Rattle.list.specs.DayLists.{day_list}
use Rattle.list.specs.Clashes.{clash_row}
use Rattle.list.specs.Checks.{header_fault, opening_fault}
use Rattle.list.specs.declared.types.Entry.{Entry}
use Rattle.list.specs.declared.types.DayList.{DayList}
use Rattle.format.specs.Headers.{frame_of, count_of, opening_rows}
use Rattle.format.specs.Reading.{entries_read, map_place}
use Rattle.format.specs.Writing.{bytes_of, longest_list}

-- "965 bytes a room": as many as a longest list has
abbrev pub share_bytes : ℕ
share_bytes = longest_list

-- the entries that stand after the header, with the place after them, or the first row, of 1 to 7, 15 and 16, that turns them back:
-- "A share is read from its first byte; bytes after the list are not tested", so row 8 is not among them
unfoldable pub front_entries : List ℕ → Outcome (List Entry × ℕ)
front_entries bs =
    first_of (row 1 (ltb (length bs) 3) (length bs) ∷ [])
    (and_then (header_fault 2 (frame_of bs).h (count_of bs))
    (λ _. first_of (opening_rows bs) (and_then (opening_fault 3 (frame_of bs)) (λ _. entries_read bs (count_of bs)))))

-- the list at the front of a share: those rows, then 14, whose place is counted from the share's first byte
unfoldable pub front_of : List ℕ → Outcome DayList
front_of bs =
    and_then (front_entries bs)
    (λ all. first_of (clash_row (map_place bs) all.0 ∷ []) (answered (day_list (frame_of bs) all.0)))

-- "where a turn writes the narrowed list in its one form": the share with a list written at its front; bytes after it keep their values
unfoldable pub share_with : DayList → List ℕ → List ℕ
share_with l old = bytes_of l ++ drop (length (bytes_of l)) old
