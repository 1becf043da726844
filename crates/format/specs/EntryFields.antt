-- One entry: what its bytes say, and when they are turned back.
use Rattle.std.specs.Prelude.{ℕ, ◌+◌, Bool, true, false, cond, ◌&&◌, ◌||◌, List, [], ◌∷◌, Option, Some, None, length, get_or, eqb, ltb}
use Rattle.base.specs.Outcomes.{Outcome, answered, Row, row, first_of, and_then}
use Rattle.format.specs.LittleEndian.{u16_at, u32_at}
use Rattle.list.specs.Entries.{entry_fault}
use Rattle.format.specs.Maps.{map_fields, r_place, d_place, p_place, size_of}
use Rattle.list.specs.declared.types.Entry.{Entry}
use Rattle.list.specs.declared.types.Frame.{Frame}
use Rattle.format.specs.declared.map.Fields.{Fields}

-- "earliest minute r ..: missing means 0", and document 02: "A missing r means the opening minute"
abbrev pub default_r : Frame → ℕ
default_r f = f.opening

-- "latest minute d ..: missing means H"
abbrev pub default_d : Frame → ℕ
default_d f = f.h

-- "A seal is either missing or a number"
abbrev pub seal_of : Bool → ℕ → Option ℕ
seal_of true x = Some x
seal_of false x = None

-- the entry that bytes with these fields say, its map byte first
unfoldable pub entry_at : Frame → Fields → List ℕ → Entry
entry_at f m bs =
    record {
      serial = u32_at bs 1;
      seal = seal_of m.seal (u32_at bs 5);
      r = cond m.r (u16_at bs (r_place m)) (default_r f);
      d = cond m.d (u16_at bs (d_place m)) (default_d f);
      p = u16_at bs (p_place m);
      kind = m.kind;
    }

-- "A written r of 0, or a written d equal to H, is refused", and document 02: "a written r equal to it is 5", to the opening minute
abbrev pub default_written : Frame → Fields → Entry → Bool
default_written f m e = (m.r && eqb e.r (default_r f)) || (m.d && eqb e.d (default_d f))

-- rows 1 and 5 of an entry with these fields at the start of bs, what is left of the input from place at on: 1 carries the
-- input's length, at + length bs
abbrev pub field_rows : Frame → ℕ → Fields → List ℕ → List Row
field_rows f at m bs = row 1 (ltb (length bs) (size_of m)) (at + length bs) ∷ row 5 (default_written f m (entry_at f m bs)) at ∷ []

-- that entry with the bytes that it took, or the first of its rows 1, 5, 16, 6 and 7 that holds
unfoldable pub fields_entry : Frame → ℕ → Fields → List ℕ → Outcome (Entry × ℕ)
fields_entry f at m bs =
    first_of (field_rows f at m bs) (and_then (entry_fault f at (entry_at f m bs)) (λ _. answered (entry_at f m bs, size_of m)))

-- The entry at the start of bs with the bytes that it took, or the first of its rows that holds: "a missing map byte is 1", then
-- row 4, then the others.
unfoldable pub entry_of : Frame → ℕ → List ℕ → Outcome (Entry × ℕ)
entry_of f at bs =
    first_of (row 1 (eqb (length bs) 0) (at + length bs) ∷ []) (and_then (map_fields at (get_or bs 0 0)) (λ m. fields_entry f at m bs))
