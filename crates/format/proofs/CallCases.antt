-- The promises of `read` and `write`, from the cases that code knows and the round trips.
-- Assumes nothing.
use mathlib.Core.Path.{◌≡◌, refl, sym, subst, ◌∙◌}
use mathlib.Core.List.{List, [], ◌∷◌}
use Prim.Native.Nat.{ℕ, ◌≤◌, ◌<◌, min}
use native.Mathlib.Nat.{zero-add}
use native.Mathlib.Omega.{arith}
use borrow.Author.Tests.{lt-ltb}
use lib.ListN.{length, take}
use lib.Seq.{sets, sets-eq}
use Rattle.base.specs.Outcomes.{Code, code, answered, refused}
use Rattle.list.specs.Refusals.{outcome_of}
use Rattle.list.specs.DayLists.{SameList, entries_of}
use Rattle.list.specs.Clashes.{first_clash}
use Rattle.list.specs.Checks.{WellFormed, check_of}
use Rattle.format.specs.Reading.{decode_of, read_of}
use Rattle.format.specs.Internal.{first_entries}
use Rattle.format.specs.Writing.{bytes_of, write_of, buffer_after}
use Rattle.list.specs.Machine.{Bytes, Typed}
use Rattle.format.specs.Calls.{Reads, Writes}
use Rattle.list.specs.declared.types.DayList.{DayList}
use Rattle.list.specs.declared.types.Refusal.{Refusal}
use Rattle.list.specs.declared.types.Refusal.TheVariants.{ListBufferShort, SerialClash}
use Rattle.std.specs.Prelude.{Err, Ok, Result}
use Rattle.list.proofs.Columns.{held_count}
use Rattle.format.proofs.ReadCases.{read_clash, read_list}
use Rattle.format.proofs.WriteCases.{list_written}
use Rattle.format.proofs.ReadLaws.{decoded_typed, map_place_lem, read_well_formed, read_one_form, read_law}
use Rattle.format.proofs.RoundTrip.{written_reads_back}

pub reads : (bs : List ℕ) (a : Result DayList Refusal) → Bytes bs → outcome_of a ≡ read_of bs → Reads bs a
reads bs a b w =
    record {
      outcome = w;
      back = λ l e. (read_well_formed bs l e, read_one_form bs l e b);
      law = read_law bs;
    }

-- row 14, after rows 1 to 8, 15 and 16
module _ (bs : List ℕ) (b : Bytes bs) (l : DayList) (decoded : answered l ≡ decode_of bs) (entry count : ℕ)
    (is : entry ≡ first_clash (entries_of l)) (held : count ≡ min l.n 64) where
  all : length (entries_of l) ≡ count
  all = held_count l (decoded_typed bs l (sym decoded) b).long count held

  pub reads_clash : (at : ℕ) → entry < count → at ≡ length (bytes_of (first_entries l entry)) → Reads bs (Err (SerialClash at))
  reads_clash at h place =
      let here = map_place_lem bs l (sym decoded) b entry (rw all h) in
      reads bs _ b (rw (place, here) (read_clash bs l decoded entry count is all h))

  pub reads_apart : count ≤ entry → Reads bs (Ok l)
  reads_apart h = reads bs _ b (read_list bs l decoded entry count is all h)

module _ (l : DayList) (old : List ℕ) (t : Typed l) where
  promised : (a : Result ℕ Refusal) (new : List ℕ) → outcome_of a ≡ write_of l (length old)
      → new ≡ buffer_after (write_of l (length old)) l old
      → Writes l old a new
  promised a new p q =
      record {
        outcome = p;
        buffer = q;
        back =
            λ count e. subst (λ (bs : List ℕ). (b : DayList) × (read_of (take count bs) ≡ answered b) × SameList b l) (sym q)
            (written_reads_back l old count t e);
      }

  pub write_refused : (a : Result ℕ Refusal) {k : Code} → outcome_of a ≡ refused k → refused k ≡ check_of l → Writes l old a old
  unfolding write_of
  write_refused a says w = promised a old (says ∙ rw (← w) refl) (rw (← w) refl)

  pub write_short : (size : ℕ) → WellFormed l → size ≡ length (bytes_of l) → length old < size
      → Writes l old (Err (ListBufferShort size)) old
  unfolding write_of
  write_short size w z h =
      let k : length old < length (bytes_of l) = omega (arith, z) in
      let q : write_of l (length old) ≡ refused (code 12 (length (bytes_of l) ∷ [])) = rw w (simp (lt-ltb _ _ k)) in
      promised (Err (ListBufferShort size)) old (rw (q, z)) (rw q)

  pub write_done : (size : ℕ) (new : List ℕ) → WellFormed l → size ≡ length (bytes_of l) → size ≤ length old → new ≡ sets old 0 (bytes_of l)
      → Writes l old (Ok size) new
  write_done size new w z h q₀ =
      let q = list_written l (length old) w (omega (arith, z)) in
      promised (Ok size) new (rw (q, z)) (rw q (q₀ ∙ sets-eq (bytes_of l) old 0 (omega (arith, z)) ∙ rw zero-add))
