-- Entries one after the other, both ways: sound entries are read back from their one forms, and bytes that are taken are the one forms of
-- the entries read.
-- Assumes nothing.
use mathlib.Core.Path.{◌≡◌, refl, ap, ◌∙◌}
use mathlib.Core.List.{List, [], ◌∷◌, ◌++◌, append_assoc}
use Prim.Native.Nat.{ℕ, zero, suc, ◌+◌, ◌*◌, ◌≤◌, ◌<◌}
use native.Mathlib.Nat.{add-zero, add_assoc}
use native.Mathlib.Omega.{arith}
use lib.ListN.{length, get_or, take, drop, replicate, length-append, length-drop}
use lib.Seq.{drop-append_seam}
use Rattle.list.specs.Machine.{Bytes}
use Rattle.base.specs.Outcomes.{answered}
use Rattle.format.specs.EntryFields.{entry_of}
use Rattle.format.specs.Forms.{entry_bytes}
use Rattle.list.specs.DayLists.{blank}
use Rattle.format.specs.Reading.{entries_from}
use Rattle.format.specs.Laws.{PlaceIn}
use Rattle.format.specs.Writing.{bytes_of_entries}
use Rattle.list.specs.declared.types.Entry.{Entry}
use Rattle.list.specs.declared.types.Frame.{Frame}
use Rattle.base.proofs.Inversion.{Says, by_step}
use Rattle.list.specs.Laws.{Sound}
use Rattle.list.proofs.Sound.{Every}
use Rattle.format.proofs.FieldTrip.{bytes_drop}
use Rattle.format.proofs.EntryTrip.{EntryFits, TakenEntry, entry_says, entry_reads_back}

-- from a fact of every place to one of the first n entries
pub every_take : (P : Entry → Type 0) (es : List Entry) (n : ℕ) → ((i : ℕ) → P (get_or es i blank)) → Every P (take n es)
every_take P es zero h = tt
every_take P [] (suc n) h = tt
every_take P (e ∷ es) (suc n) h = (h 0, every_take P es n (λ i. h (suc i)))

-- and back, where blank entries follow
pub every_at : (P : Entry → Type 0) (es : List Entry) (k i : ℕ) → P blank → Every P es → P (get_or (es ++ replicate k blank) i blank)
every_at P [] zero i b s = b
every_at P [] (suc k) zero b s = b
every_at P [] (suc k) (suc i) b s = every_at P [] k i b s
every_at P (e ∷ es) k zero b s = s.0
every_at P (e ∷ es) k (suc i) b s = every_at P es k i b s.1

-- entries that fit and are sound are read back from their one forms, whatever follows
pub entries_read_back : (f : Frame) (at : ℕ) (es : List Entry) (rest : List ℕ) → f.h < 65536 → Every EntryFits es → Every (Sound f) es
    → entries_from f (length es) at (bytes_of_entries f es ++ rest) ≡ answered (es, at + length (bytes_of_entries f es))
unfolding entries_from bytes_of_entries
entries_read_back f at [] rest h fits s = rw add-zero
entries_read_back f at (e ∷ es) rest h fits s =
    rw (
      append_assoc,
      entry_reads_back f at e (bytes_of_entries f es ++ rest) h fits.0 s.0,
      drop-append_seam (entry_bytes f e) (bytes_of_entries f es ++ rest),
      entries_read_back f (at + length (entry_bytes f e)) es rest h fits.1 s.1,
      length-append,
      add_assoc,
    )

-- what holds of k entries that are taken from the start of the bytes, with the place after them, in an input of length len
pub record TakenEntries (f : Frame) (k : ℕ) (bs : List ℕ) (len : ℕ) (x : List Entry × ℕ) : Type 0 where
  pub count : length x.0 ≡ k
  pub sound : Every (Sound f) x.0
  pub fits : Bytes bs → Every EntryFits x.0
  pub rest : List ℕ
  pub left : x.1 + length rest ≡ len
  pub short : length bs ≤ 15 * k + length rest
  pub form : Bytes bs → bs ≡ bytes_of_entries f x.0 ++ rest

-- what reading k entries says of bs, what is left, from the place at on, of an input of length len
pub entries_say : (f : Frame) (k at : ℕ) (bs : List ℕ) (len : ℕ) → at + length bs ≡ len
    → Says (TakenEntries f k bs len) (PlaceIn len) (entries_from f k at bs)
unfolding entries_from bytes_of_entries
entries_say f zero at bs len all =
    record { count = refl; sound = tt; fits = λ b. tt; rest = bs; left = all; short = omega arith; form = λ b. refl }
entries_say f (suc k) at bs len all =
    by_step (TakenEntry f bs) (PlaceIn len) (TakenEntries f (suc k) bs len) (entry_of f at bs) _ (entry_says f at bs len all)
    (λ x one.
    let more = drop x.1 bs in
    let left : (at + x.1) + length more ≡ len = omega (arith, one.within, length-drop x.1 bs) in
    by_step (TakenEntries f k more len) (PlaceIn len) (TakenEntries f (suc k) bs len) (entries_from f k (at + x.1) more) _
    (entries_say f k (at + x.1) more len left)
    (λ y es.
    record {
      count = ap suc es.count;
      sound = (one.sound, es.sound);
      fits = λ b. (one.fits b, es.fits (bytes_drop bs x.1 b));
      rest = es.rest;
      left = es.left;
      short = omega (arith, length-drop x.1 bs);
      form = λ b. one.form b ∙ rw (append_assoc, ← es.form (bytes_drop bs x.1 b));
    }))
