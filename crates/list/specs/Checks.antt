-- "A list handed over as a value is tested for 2, 3, then 6 and 7 per entry; 2 and 3 then carry 0, 6 and 7 the entry's place."
-- And document 02: an opening minute "of H or more, is refused as 15 next, carrying .. 0 for a value", and "an r before the opening minute
-- as 16, .. for a value, before 6, carrying the place that 7 would". An entry that clashes, "the first in list order, is refused as 14, ..
-- after the last 7 for a value, and carries .. its entry's place."
use Rattle.std.specs.Prelude.{ℕ, ◌+◌, ◌≡◌, ◌||◌, List, [], ◌∷◌, eqb, leb, ltb}
use Rattle.base.specs.Outcomes.{Outcome, answered, Row, row, first_of, and_then}
use Rattle.list.specs.Entries.{entry_fault}
use Rattle.list.specs.DayLists.{most_entries, longest_day, entries_of}
use Rattle.list.specs.Clashes.{clash_row}
use Rattle.list.specs.declared.types.Entry.{Entry}
use Rattle.list.specs.declared.types.Frame.{Frame}
use Rattle.list.specs.declared.types.DayList.{DayList}

-- rows 2 and 3, for the day's length and the number of entries; 3 carries the place given
abbrev pub header_rows : ℕ → ℕ → ℕ → List Row
header_rows place h n = row 2 (eqb h 0 || ltb longest_day h) 0 ∷ row 3 (ltb most_entries n) place ∷ []

unfoldable pub header_fault : ℕ → ℕ → ℕ → Outcome (Unit {0})
header_fault place h n = first_of (header_rows place h n) (answered tt)

-- row 15, for an opening minute of H or more; it carries the place given
abbrev pub opening_row : ℕ → Frame → Row
opening_row place f = row 15 (leb f.h f.opening) place

unfoldable pub opening_fault : ℕ → Frame → Outcome (Unit {0})
opening_fault place f = first_of (opening_row place f ∷ []) (answered tt)

-- rows 16, 6 and 7, entry by entry, the first at place i
unfoldable pub entries_fault : Frame → ℕ → List Entry → Outcome (Unit {0})
entries_fault f i [] = answered tt
entries_fault f i (e ∷ es) = and_then (entry_fault f i e) (λ _. entries_fault f (i + 1) es)

-- rows 2, 3, 15, 16, 6 and 7: the header, and each entry by itself
unfoldable pub values_fault : DayList → Outcome (Unit {0})
values_fault l =
    and_then (header_fault 0 l.frame.h l.n)
    (λ _. and_then (opening_fault 0 l.frame) (λ _. entries_fault l.frame 0 (entries_of l)))

-- the value check: those, then row 14
unfoldable pub check_of : DayList → Outcome (Unit {0})
check_of l = and_then (values_fault l) (λ _. first_of (clash_row (λ place. place) (entries_of l) ∷ []) (answered tt))

-- a well-formed list: one that the value check accepts
abbrev pub WellFormed : DayList → Type 0
WellFormed l = check_of l ≡ answered tt
