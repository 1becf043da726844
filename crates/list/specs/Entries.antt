-- When an entry's values are turned back.
use Rattle.std.specs.Prelude.{ℕ, ◌+◌, ◌||◌, List, [], ◌∷◌, eqb, ltb}
use Rattle.base.specs.Outcomes.{Outcome, answered, Row, row, first_of}
use Rattle.list.specs.declared.types.Entry.{Entry}
use Rattle.list.specs.declared.types.Frame.{Frame}

-- Rows 16, 6 and 7 of an entry, which carry the place given: "an r before the opening minute as 16, .. before 6", and "A window [r, d) lies
-- in 0 to H and holds at least p minutes."
abbrev pub fault_rows : Frame → ℕ → Entry → List Row
fault_rows f place e =
    row 16 (ltb e.r f.opening) place
    ∷ row 6 (eqb e.p 0) place
    ∷ row 7 (ltb f.h e.d || ltb e.d (e.r + e.p)) place
    ∷ []

unfoldable pub entry_fault : Frame → ℕ → Entry → Outcome (Unit {0})
entry_fault f place e = first_of (fault_rows f place e) (answered tt)
