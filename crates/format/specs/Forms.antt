-- An entry's one form: "so a list has one form".
use Rattle.std.specs.Prelude.{ℕ, Bool, true, false, cond, not, List, [], ◌∷◌, ◌++◌, eqb, None, Option, Some}
use Rattle.format.specs.LittleEndian.{u16_bytes, u32_bytes}
use Rattle.format.specs.Maps.{map_of}
use Rattle.format.specs.EntryFields.{default_r, default_d}
use Rattle.list.specs.declared.types.Entry.{Entry}
use Rattle.list.specs.declared.types.Frame.{Frame}
use Rattle.format.specs.declared.map.Fields.{Fields}

-- a seal that is a number
abbrev pub sealed : Option ℕ → Bool
sealed None = false
sealed (Some x) = true

-- the fields of an entry's one form: those that are neither missing nor at their default
abbrev pub fields_in : Frame → Entry → Fields
fields_in f e = record { seal = sealed e.seal; r = not (eqb e.r (default_r f)); d = not (eqb e.d (default_d f)); kind = e.kind }

abbrev pub seal_bytes : Option ℕ → List ℕ
seal_bytes None = []
seal_bytes (Some x) = u32_bytes x

-- a minute's bytes, if its field follows
abbrev pub minute_bytes : Bool → ℕ → List ℕ
minute_bytes follows x = cond follows (u16_bytes x) []

-- r, d and p
abbrev pub times_bytes : Fields → Entry → List ℕ
times_bytes m e = minute_bytes m.r e.r ++ (minute_bytes m.d e.d ++ u16_bytes e.p)

-- an entry's one form
unfoldable pub entry_bytes : Frame → Entry → List ℕ
entry_bytes f e = map_of (fields_in f e) ∷ (u32_bytes e.serial ++ (seal_bytes e.seal ++ times_bytes (fields_in f e) e))
