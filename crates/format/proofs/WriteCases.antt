-- A list's one form, the header and then entry by entry: its length, and the steps that store it.
-- Assumes nothing.
use mathlib.Core.Path.{◌≡◌, refl, sym, ap, ◌∙◌}
use mathlib.Core.Bool.{Bool}
use mathlib.Core.List.{List, [], ◌∷◌, ◌++◌}
use Prim.Native.Nat.{ℕ, ◌+◌, ◌*◌, ◌≤◌, ◌<◌}
use native.Mathlib.Nat.{zero-add}
use native.Mathlib.Numerals.{add-one}
use native.Mathlib.Omega.{arith}
use borrow.Author.Tests.{le-ltb}
use lib.ListN.{length, get_or, drop, set, length-append, length-set, length-take, drop_of_length-le}
use lib.Seq.{sets, drop-cons}
use Rattle.base.specs.Outcomes.{answered}
use Rattle.format.specs.Maps.{size_of}
use Rattle.format.specs.LittleEndian.{u16_bytes}
use Rattle.format.specs.Forms.{fields_in, minute_bytes, entry_bytes}
use Rattle.format.specs.Headers.{header_size, opens_later, count_byte, header_bytes}
use Rattle.list.specs.DayLists.{entries_of}
use Rattle.list.specs.Checks.{WellFormed}
use Rattle.format.specs.Writing.{bytes_of_entries, bytes_of, longest_list, write_of}
use Rattle.base.specs.Storing.{Wrote}
use Rattle.list.specs.declared.types.Entry.{Entry}
use Rattle.list.specs.declared.types.Frame.{Frame}
use Rattle.list.specs.declared.types.DayList.{DayList}
use Rattle.format.specs.declared.map.Fields.{Fields}
use Rattle.list.proofs.Sound.{sound_list}
use Rattle.base.proofs.Stores.{wrote_one, wrote_length, wrote_more, wrote_then, room_first, room_after_lem}
use Rattle.format.proofs.FormCases.{entry_length, entry_short}
use Rattle.format.proofs.HeaderTrip.{header_length, header_short}

-- the header, from whether the room opens after midnight and the count byte that code found
module _ (f : Frame) (n k : ℕ) (w : Bool) (p : w ≡ opens_later f) (q : k ≡ count_byte w n) where
  header_parts : header_bytes f n ≡ u16_bytes f.h ++ ((k ∷ []) ++ minute_bytes w f.opening)
  unfolding header_bytes
  header_parts =
      ap (λ (t : Bool). u16_bytes f.h ++ (count_byte t n ∷ minute_bytes t f.opening)) (sym p)
      ∙ ap (λ (x : ℕ). u16_bytes f.h ++ (x ∷ minute_bytes w f.opening)) (sym q)

  -- room for the opening minute, and its parts one after the other
  module _ {old o : List ℕ} {half : ℕ} (stored : Wrote old 0 (u16_bytes f.h) o half) where
    pub minute_room : length (header_bytes f n) ≤ length old → 3 + length (minute_bytes w f.opening) ≤ length (set o 2 k)
    minute_room h = omega (arith, rw header_parts at h, wrote_length stored, length-set o 2 k)

    pub header_stored : {new : List ℕ} {next : ℕ} → Wrote (set o 2 k) 3 (minute_bytes w f.opening) new next
        → Wrote old 0 (header_bytes f n) new next
    header_stored more =
        let day : Wrote old 0 (u16_bytes f.h) o 2 = record { place = refl; stored = stored.stored } in
        rw header_parts (wrote_then day (wrote_then (wrote_one o 2 k) more))

-- the bytes of the entries from place i on
abbrev pub rest_bytes : DayList → ℕ → List ℕ
rest_bytes l i = bytes_of_entries l.frame (drop i (entries_of l))

-- the bytes of i entries were counted
abbrev pub SizedSoFar : DayList → ℕ → ℕ → Type 0
SizedSoFar l size i = size + length (rest_bytes l i) ≡ length (bytes_of l)

-- i entries were stored, up to place at, in a buffer that held from after the header, which ends at place start
pub record StoredSoFar (l : DayList) (from : List ℕ) (start : ℕ) (out : List ℕ) (at i : ℕ) : Type 0 where
  pub long : length out ≡ length from
  pub room : at + length (rest_bytes l i) ≤ length out
  pub rest : sets out at (rest_bytes l i) ≡ sets from start (rest_bytes l 0)

module _ (l : DayList) where
  rest_next : (i : ℕ) (e₀ : Entry) → i < length (entries_of l)
      → rest_bytes l i ≡ entry_bytes l.frame (get_or (entries_of l) i e₀) ++ rest_bytes l (i + 1)
  unfolding bytes_of_entries
  rest_next i e₀ h = rw (drop-cons (entries_of l) i e₀ h, add-one)

  rest_done : (i : ℕ) → length (entries_of l) ≤ i → rest_bytes l i ≡ []
  unfolding bytes_of_entries
  rest_done i h = rw (drop_of_length-le (entries_of l) h)

  pub sized_next : (size k i : ℕ) (e₀ : Entry) (m : Fields) → SizedSoFar l size i → i < length (entries_of l)
      → m ≡ fields_in l.frame (get_or (entries_of l) i e₀) → k ≡ size_of m → SizedSoFar l (size + k) (i + 1)
  sized_next size k i e₀ m c h p z =
      let e = get_or (entries_of l) i e₀ in
      let q : length (rest_bytes l i) ≡ length (entry_bytes l.frame e) + length (rest_bytes l (i + 1)) =
      rw (rest_next i e₀ h) (length-append (entry_bytes l.frame e) (rest_bytes l (i + 1))) in
      let w : k ≡ length (entry_bytes l.frame e) = z ∙ ap size_of p ∙ sym (entry_length l.frame e) in
      omega (arith, c, q, w)

  pub sized_done : (size i : ℕ) → SizedSoFar l size i → length (entries_of l) ≤ i → size ≡ length (bytes_of l)
  sized_done size i c h = omega (arith, c, ap (λ (bs : List ℕ). length bs) (rest_done i h))

  pub stored_room : (from : List ℕ) (start : ℕ) (out : List ℕ) (at i : ℕ) (e₀ : Entry) → StoredSoFar l from start out at i
      → i < length (entries_of l)
      → at + length (entry_bytes l.frame (get_or (entries_of l) i e₀)) ≤ length out
  stored_room from start out at i e₀ s h =
      room_first (entry_bytes l.frame (get_or (entries_of l) i e₀)) (rest_bytes l (i + 1)) at (length out) (rw (rest_next i e₀ h) at s.room)

  pub stored_next : (from : List ℕ) (start : ℕ) (out new : List ℕ) (at next i : ℕ) (e₀ : Entry) → StoredSoFar l from start out at i
      → i < length (entries_of l)
      → Wrote out at (entry_bytes l.frame (get_or (entries_of l) i e₀)) new next → StoredSoFar l from start new next (i + 1)
  stored_next from start out new at next i e₀ s h w =
      record {
        long = wrote_length w ∙ s.long;
        room = room_after_lem w (rest_bytes l (i + 1)) (rw (rest_next i e₀ h) at s.room);
        rest = wrote_more w (rest_bytes l (i + 1)) ∙ (rw (rest_next i e₀ h) at s.rest);
      }

  pub stored_done : (from : List ℕ) (start : ℕ) (out : List ℕ) (at i : ℕ) → StoredSoFar l from start out at i
      → length (entries_of l) ≤ i → out ≡ sets from start (rest_bytes l 0)
  stored_done from start out at i s h = rw (rest_done i h) at s.rest

-- each entry takes 15 bytes at most
entries_short : (f : Frame) (es : List Entry) → length (bytes_of_entries f es) ≤ 15 * length es
unfolding bytes_of_entries
entries_short f [] = omega arith
entries_short f (e ∷ es) = simp length-append (omega (arith, entry_short f e, entries_short f es))

module _ (l : DayList) where
  pub form_length : length (bytes_of l) ≡ header_size (opens_later l.frame) + length (rest_bytes l 0)
  unfolding bytes_of
  form_length = simp (length-append, header_length)

  pub list_short : l.n ≤ 64 → length (bytes_of l) ≤ longest_list
  list_short h =
      let header = header_short (opens_later l.frame) in
      omega (arith, form_length, header, entries_short l.frame (entries_of l), length-take l.n l.entries)

  pub sized_start : (size : ℕ) → size ≡ header_size (opens_later l.frame) → SizedSoFar l size 0
  sized_start size e = rw e (sym form_length)

  -- room for the header, and then the entries after it
  pub header_room : (room : ℕ) → length (bytes_of l) ≤ room → length (header_bytes l.frame l.n) ≤ room
  header_room room h = omega (arith, h, form_length, header_length l.frame l.n)

  pub list_stored : {old o : List ℕ} {next : ℕ} → Wrote old 0 (header_bytes l.frame l.n) o next
      → sets o next (rest_bytes l 0) ≡ sets old 0 (bytes_of l)
  unfolding bytes_of
  list_stored w = wrote_more w (rest_bytes l 0)

  pub stored_start : (old o : List ℕ) (next : ℕ) → Wrote old 0 (header_bytes l.frame l.n) o next → length (bytes_of l) ≤ length old
      → StoredSoFar l o next o next 0
  unfolding bytes_of
  stored_start old o next w h =
      record {
        long = refl;
        room = room_after_lem w (rest_bytes l 0) (rw zero-add h);
        rest = refl;
      }

  -- a well-formed list has room for its entries
  pub form_fits : WellFormed l → l.n ≤ 64
  form_fits w = (sound_list l w).header.room

  -- a well-formed list that has room is written
  pub list_written : (room : ℕ) → WellFormed l → length (bytes_of l) ≤ room → write_of l room ≡ answered (length (bytes_of l))
  unfolding write_of
  list_written room w h = rw w (simp (le-ltb _ _ h))
