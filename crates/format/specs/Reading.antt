-- Reading: from bytes to a list value.
use Rattle.std.specs.Prelude.{ℕ, zero, suc, ◌+◌, List, [], ◌∷◌, length, drop, ltb}
use Rattle.base.specs.Outcomes.{Outcome, answered, refused, row, first_of, and_then}
use Rattle.format.specs.EntryFields.{entry_of}
use Rattle.format.specs.Headers.{frame_of, count_of, entries_place, opening_rows}
use Rattle.list.specs.DayLists.{day_list, entries_of}
use Rattle.list.specs.Clashes.{clash_row}
use Rattle.list.specs.Checks.{header_fault, opening_fault}
use Rattle.list.specs.declared.types.Entry.{Entry}
use Rattle.list.specs.declared.types.Frame.{Frame}
use Rattle.list.specs.declared.types.DayList.{DayList}

-- k entries, one after the other, from the start of bs, what is left of the input from place at on; with the place after them
unfoldable pub entries_from : Frame → ℕ → ℕ → List ℕ → Outcome (List Entry × ℕ)
entries_from f zero at bs = answered ([], at)
entries_from f (suc k) at bs =
    and_then (entry_of f at bs)
    (λ one. and_then (entries_from f k (at + one.1) (drop one.1 bs)) (λ more. answered (one.0 ∷ more.0, more.1)))

-- the first k entries of an input, which come after its header; with the place after them
abbrev pub entries_read : List ℕ → ℕ → Outcome (List Entry × ℕ)
entries_read bs k = entries_from (frame_of bs) k (entries_place bs) (drop (entries_place bs) bs)

-- the entries, and row 8: bytes left over
unfoldable pub body_of : List ℕ → Outcome DayList
body_of bs =
    and_then (entries_read bs (count_of bs))
    (λ all. first_of (row 8 (ltb all.1 (length bs)) all.1 ∷ []) (answered (day_list (frame_of bs) all.0)))

-- what follows rows 2 and 3: the rows of the opening minute, and then the entries
unfoldable pub opened_of : List ℕ → Outcome DayList
opened_of bs = first_of (opening_rows bs) (and_then (opening_fault 3 (frame_of bs)) (λ _. body_of bs))

-- the list that bytes say, or the first row, of 1 to 8, 15 and 16, that turns them back: "bits 0 to 6 are n, and 3 tests those"
unfoldable pub decode_of : List ℕ → Outcome DayList
decode_of bs =
    first_of (row 1 (ltb (length bs) 3) (length bs) ∷ []) (and_then (header_fault 2 (frame_of bs).h (count_of bs)) (λ _. opened_of bs))

-- where reading entries ends
abbrev pub place_after : Outcome (List Entry × ℕ) → ℕ
place_after (answered all) = all.1
place_after (refused k) = 0

-- the place of an entry's map byte: the place after the entries before it
unfoldable pub map_place : List ℕ → ℕ → ℕ
map_place bs entry = place_after (entries_read bs entry)

-- Reading: those rows, then document 02's: "Such an entry, the first in list order, is refused as 14, after 8 when reading .., and
-- carries its map's place".
unfoldable pub read_of : List ℕ → Outcome DayList
read_of bs = and_then (decode_of bs) (λ l. first_of (clash_row (map_place bs) (entries_of l) ∷ []) (answered l))
