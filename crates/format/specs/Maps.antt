-- The map byte: "The map byte alone decides which fields follow and how long they are."
use Rattle.std.specs.Prelude.{ℕ, ◌+◌, ◌/◌, ◌%◌, ◌^◌, Bool, true, false, cond, not, ◌&&◌, [], ◌∷◌, eqb}
use Rattle.base.specs.Outcomes.{Outcome, answered, row, first_of}
use Rattle.list.specs.declared.types.Kind.{Kind}
use Rattle.list.specs.declared.types.Kind.TheVariants.{Pause, Whole}
use Rattle.format.specs.declared.map.Fields.{Fields}

-- bit k of b stands
abbrev pub bit : ℕ → ℕ → Bool
bit k b = eqb (b / 2 ^ k % 2) 1

-- bits 0 (serial) and 4 (p) must stand, bits 6 and 7 are clear
abbrev pub legal_map : ℕ → Bool
legal_map b = bit 0 b && (bit 4 b && (not (bit 6 b) && not (bit 7 b)))

-- bit 5: "the entry is whole (unpausable). Clear: pause."
abbrev pub kind_of : Bool → Kind
kind_of true = Whole
kind_of false = Pause

-- bits 1, 2 and 3: seal, r and d may follow
abbrev pub fields_of : ℕ → Fields
fields_of b = record { seal = bit 1 b; r = bit 2 b; d = bit 3 b; kind = kind_of (bit 5 b) }

-- row 4, which carries the map byte's place, or the fields that follow
abbrev pub map_fields : ℕ → ℕ → Outcome Fields
map_fields at b = first_of (row 4 (not (legal_map b)) at ∷ []) (answered (fields_of b))

-- Where a field starts, counted from the map byte: "then come only the fields whose bit stands, in bit order".
-- The serial is at 1, and the seal, where it stands, at 5.
abbrev pub r_place : Fields → ℕ
r_place m = 5 + cond m.seal 4 0

abbrev pub d_place : Fields → ℕ
d_place m = r_place m + cond m.r 2 0

abbrev pub p_place : Fields → ℕ
p_place m = d_place m + cond m.d 2 0

-- the bytes of an entry, its map byte too
abbrev pub size_of : Fields → ℕ
size_of m = p_place m + 2

-- the bit of the kind
abbrev pub kind_bit : Kind → ℕ
kind_bit Pause = 0
kind_bit Whole = 32

-- the map byte that says these fields: bits 0 and 4, and a bit for each field that follows and for the kind
abbrev pub map_of : Fields → ℕ
map_of m = 17 + cond m.seal 2 0 + cond m.r 4 0 + cond m.d 8 0 + kind_bit m.kind
