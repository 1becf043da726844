-- An entry's one form, part by part: its length, and the steps that store it.
-- Assumes nothing.
use mathlib.Core.Path.{◌≡◌, refl, sym, ap, ◌∙◌}
use mathlib.Core.Bool.{Bool, true, false, cond}
use mathlib.Core.List.{List, [], ◌∷◌, ◌++◌}
use Prim.Native.Nat.{ℕ, ◌+◌, ◌≤◌}
use native.Mathlib.Omega.{arith}
use lib.ListN.{length, set, length-append}
use Rattle.format.specs.LittleEndian.{u32_bytes}
use Rattle.format.specs.Maps.{map_of, size_of}
use Rattle.format.specs.Forms.{sealed, fields_in, seal_bytes, minute_bytes, times_bytes, entry_bytes}
use Rattle.base.specs.Storing.{Wrote}
use Rattle.std.specs.Prelude.{None, Option, Some}
use Rattle.list.specs.declared.types.Entry.{Entry}
use Rattle.list.specs.declared.types.Frame.{Frame}
use Rattle.format.specs.declared.map.Fields.{Fields}
use Rattle.format.proofs.Places.{p_place_small}
use Rattle.base.proofs.Stores.{wrote_one, wrote_then, room_first, room_after_lem}

pub seal_length : (s : Option ℕ) → length (seal_bytes s) ≡ cond (sealed s) 4 0
seal_length None = refl
seal_length (Some x) = refl

pub minute_length : (follows : Bool) (x : ℕ) → length (minute_bytes follows x) ≡ cond follows 2 0
minute_length true x = refl
minute_length false x = refl

-- what follows an entry's serial, and what follows its map byte
abbrev pub after_serial : Fields → Entry → List ℕ
after_serial m e = seal_bytes e.seal ++ times_bytes m e

abbrev pub after_map : Fields → Entry → List ℕ
after_map m e = u32_bytes e.serial ++ after_serial m e

module _ (f : Frame) (e : Entry) where
  pub entry_length : length (entry_bytes f e) ≡ size_of (fields_in f e)
  unfolding entry_bytes
  entry_length = simp (length-append, seal_length, minute_length) (omega arith)

  pub entry_short : length (entry_bytes f e) ≤ 15
  entry_short = omega (arith, entry_length, p_place_small (fields_in f e))

  -- the entry's bytes, from the fields m and the map byte k that code found
  abbrev pub parts_of : Fields → ℕ → List ℕ
  parts_of m k = (k ∷ []) ++ after_map m e

  entry_parts : (m : Fields) (k : ℕ) → m ≡ fields_in f e → k ≡ map_of m → entry_bytes f e ≡ parts_of m k
  unfolding entry_bytes
  entry_parts m k p q = ap (λ (n : Fields). parts_of n (map_of n)) (sym p) ∙ ap (λ (x : ℕ). parts_of m x) (sym q)

  -- the room that is left after the map byte, after the serial and after the seal
  module _ {m : Fields} {k : ℕ} (p : m ≡ fields_in f e) (q : k ≡ map_of m) (old : List ℕ) (at : ℕ)
      (room : at + length (entry_bytes f e) ≤ length old) where
    after_map_room : at + 1 + length (after_map m e) ≤ length (set old at k)
    after_map_room = room_after_lem (wrote_one old at k) (after_map m e) (rw (entry_parts m k p q) at room)

    pub serial_room : at + 1 + length (u32_bytes e.serial) ≤ length (set old at k)
    serial_room = room_first (u32_bytes e.serial) (after_serial m e) _ _ after_map_room

    module _ {o : List ℕ} {a : ℕ} (w : Wrote (set old at k) (at + 1) (u32_bytes e.serial) o a) where
      after_serial_room : a + length (after_serial m e) ≤ length o
      after_serial_room = room_after_lem w (after_serial m e) after_map_room

      pub seal_room : a + length (seal_bytes e.seal) ≤ length o
      seal_room = room_first (seal_bytes e.seal) (times_bytes m e) _ _ after_serial_room

      pub times_room : {o₂ : List ℕ} {b : ℕ} → Wrote o a (seal_bytes e.seal) o₂ b → b + length (times_bytes m e) ≤ length o₂
      times_room v = room_after_lem v (times_bytes m e) after_serial_room

  -- the map byte and the fields one after the other
  pub entry_stored : {old o₁ o₂ new : List ℕ} {at a b next k : ℕ} {m : Fields}
      → m ≡ fields_in f e → k ≡ map_of m
      → Wrote (set old at k) (at + 1) (u32_bytes e.serial) o₁ a → Wrote o₁ a (seal_bytes e.seal) o₂ b
      → Wrote o₂ b (times_bytes m e) new next
      → Wrote old at (entry_bytes f e) new next
  entry_stored {old} {at = at} {k = k} {m = m} p q w₁ w₂ w₃ =
      rw (entry_parts m k p q) (wrote_then (wrote_one old at k) (wrote_then w₁ (wrote_then w₂ w₃)))
