-- The bit meanings of all 256 map bytes, by computed tests: each legal one is the map byte of its fields.
-- Assumes nothing.
use mathlib.Core.Path.{◌≡◌, refl}
use mathlib.Core.Bool.{Bool, true, false, not, ◌||◌}
use Prim.Native.Nat.{ℕ, ◌<◌}
use borrow.Author.Tests.{eqb-true}
use lib.Dec.{eqb}
use Rattle.base.specs.Outcomes.{answered}
use Rattle.format.specs.Maps.{legal_map, fields_of, map_of, map_fields}
use Rattle.list.specs.declared.types.Kind.{Kind}
use Rattle.list.specs.declared.types.Kind.TheVariants.{Pause, Whole}
use Rattle.format.specs.declared.map.Fields.{Fields}
use Rattle.base.proofs.Table.{at}

-- a legal byte is the map byte of its fields; below, the map byte of fields says those fields
pub map_form : (b : ℕ) → b < 256 → legal_map b ≡ true → map_of (fields_of b) ≡ b
map_form b h e =
    eqb-true _ _ (simp e at (at 256 (λ k. not (legal_map k) || eqb (map_of (fields_of k)) k) refl b h))

flags_back : (s r d : Bool) (k : Kind) (at : ℕ)
    → let m : Fields = record { seal = s; r = r; d = d; kind = k } in answered m ≡ map_fields at (map_of m)
flags_back true true true Pause at = refl
flags_back true true true Whole at = refl
flags_back true true false Pause at = refl
flags_back true true false Whole at = refl
flags_back true false true Pause at = refl
flags_back true false true Whole at = refl
flags_back true false false Pause at = refl
flags_back true false false Whole at = refl
flags_back false true true Pause at = refl
flags_back false true true Whole at = refl
flags_back false true false Pause at = refl
flags_back false true false Whole at = refl
flags_back false false true Pause at = refl
flags_back false false true Whole at = refl
flags_back false false false Pause at = refl
flags_back false false false Whole at = refl

pub map_back : (m : Fields) (at : ℕ) → answered m ≡ map_fields at (map_of m)
map_back m = flags_back m.seal m.r m.d m.kind
