-- What reading says of an input: what a list is that rows 1 to 8, 15 and 16 leave, where its entries were read, and when 14 is given.
-- Assumes nothing.
use mathlib.Core.Path.{◌≡◌, refl, sym, ap, ◌∙◌}
use mathlib.Core.Bool.{Bool, true, false}
use mathlib.Core.Logic.{inl, inr}
use mathlib.Core.List.{List, [], ◌∷◌, append-nil}
use Prim.Native.Nat.{ℕ, ◌+◌, ◌-◌, ◌≤◌, ◌<◌}
use native.Mathlib.Omega.{arith}
use borrow.Author.Tests.{ltb-true, ltb-false, le-ltb, lt-ltb}
use lib.Dec.{ltb}
use lib.ListN.{length, get_or, take, drop, length-append, length-take, length-drop, length-replicate, drop_of_length-le}
use lib.Seq.{take-append_seam, take-take}
use Rattle.list.specs.Machine.{Bytes, Typed}
use Rattle.base.specs.Outcomes.{Code, code, answered, refused}
use Rattle.list.specs.DayLists.{entries_of, blank, day_list}
use Rattle.list.specs.Clashes.{first_clash, Apart}
use Rattle.list.specs.Checks.{WellFormed, header_fault, opening_fault}
use Rattle.format.specs.Headers.{opening_written, count_of, frame_of, header_size, entries_place, zero_written}
use Rattle.format.specs.Reading.{entries_read, body_of, opened_of, decode_of, place_after, map_place, read_of}
use Rattle.format.specs.Laws.{PlaceIn, ClashRead, ReadRefusal, ReadLaw}
use Rattle.format.specs.Internal.{first_entries}
use Rattle.format.specs.Writing.{bytes_of_entries, bytes_of}
use Rattle.list.specs.declared.types.Entry.{Entry}
use Rattle.list.specs.declared.types.Frame.{Frame}
use Rattle.list.specs.declared.types.DayList.{DayList}
use Rattle.base.proofs.Inversion.{Says, by_row, by_step, says_which, says_refusal, both}
use Rattle.format.proofs.CarriedPlaces.{at_end, at_place, at_fifteen}
use Rattle.list.proofs.ClashFacts.{apart, first_clash_lem, apart_told, first_told}
use Rattle.list.specs.Laws.{Header, OpensIn}
use Rattle.list.proofs.Sound.{header_says, opening_says, opening_passes, SoundList, well_formed}
use Rattle.format.proofs.FieldTrip.{bytes_drop}
use Rattle.format.proofs.HeaderTrip.{later_again, header_stands}
use Rattle.format.proofs.EntryTrip.{EntryFits}
use Rattle.format.proofs.WriteCases.{form_length}
use Rattle.format.proofs.ListTrip.{TakenEntries, entries_say, every_at}
use Rattle.format.proofs.MapPlaces.{ReadFrom, each_read, map_inside, map_form}

-- what a list is that those rows leave: sound, the list whose one form was read, and its entries are those read
record Decoded (bs : List ℕ) (l : DayList) : Type 0 where
  sound : SoundList l
  form : Bytes bs → bytes_of l ≡ bs
  typed : Bytes bs → Typed l
  long : entries_place bs ≤ length bs
  frame : l.frame ≡ frame_of bs
  kept : zero_written bs ≡ false
  all : entries_read bs (count_of bs) ≡ answered (entries_of l, length bs)
  each : (i : ℕ) → i < length (entries_of l) → ReadFrom (frame_of bs) bs (entries_place bs) (entries_of l) i

module _ (bs : List ℕ) where
  abbrev f : Frame
  f = frame_of bs

  abbrev n : ℕ
  n = count_of bs

  abbrev from : ℕ
  from = entries_place bs

  -- what holds of the entries that are taken after the header
  abbrev Entries : List Entry × ℕ → Type 0
  Entries = TakenEntries f n (drop from bs) (length bs)

  -- the list that they make, if no byte is left over
  module _ (long : from ≤ length bs) (h : Header f.h n) (zero : zero_written bs ≡ false) (o : OpensIn f) (x : List Entry × ℕ)
      (taken : Entries x) (read : entries_read bs n ≡ answered x) (done : length bs ≤ x.1) where
    abbrev es : List Entry
    es = x.0

    kept : entries_of (day_list f es) ≡ es
    kept = take-append_seam es _

    one_form : Bytes bs → bytes_of (day_list f es) ≡ bs
    unfolding bytes_of
    one_form b =
        let none : taken.rest ≡ [] = drop_of_length-le taken.rest {i = 0} (omega (arith, taken.left)) in
        let body : drop from bs ≡ bytes_of_entries f es = taken.form (bytes_drop bs from b) ∙ rw none (append-nil _) in
        rw (kept, taken.count, ← body) (sym (header_stands bs zero b long))

    in_types : Bytes bs → Typed (day_list f es)
    in_types b =
        let fits : (i : ℕ) → EntryFits (get_or (day_list f es).entries i blank) =
        λ i. every_at EntryFits es (64 - length es) i (record { serial = omega arith; seal = tt }) (taken.fits (bytes_drop bs from b)) in
        record {
          long = simp (length-append, length-replicate) (omega (arith, taken.count, h.room));
          serial = λ i. (fits i).serial;
          seal = λ i. (fits i).seal;
        }

    end : length bs ≡ x.1
    end = omega (arith, done, taken.left)

    decoded : Decoded bs (day_list f es)
    decoded =
        record {
          sound = record { header = rw taken.count h; opening = o; entries = rw kept taken.sound };
          form = one_form;
          typed = in_types;
          long = long;
          frame = refl;
          kept = zero;
          all = read ∙ rw (kept, end) refl;
          each = rw kept (λ i l. each_read f bs n from es x.1 read i (omega (arith, l, taken.count)));
        }

  -- where 15 is given, the opening minute is written, so that its place is inside
  fifteen : from ≤ length bs → opening_written bs ≡ true → PlaceIn (length bs) (code 15 (3 ∷ []))
  fifteen long w =
      let more : header_size true ≤ length bs = rw w at long in
      at_fifteen (length bs) (omega (arith, more))

  opening_placed : from ≤ length bs → 1 ≤ f.h → (t : Bool) → opening_written bs ≡ t
      → Says (λ _. OpensIn f) (PlaceIn (length bs)) (opening_fault 3 f)
  opening_placed long h true w = opening_says 3 f (PlaceIn (length bs)) (λ _. fifteen long w)
  opening_placed long h false w = let o : OpensIn f = rw w h in rw (opening_passes 3 f o) o

  -- what the rows of the opening minute, of the entries and row 8 say
  opened_says : Header f.h n → Says (Decoded bs) (PlaceIn (length bs)) (opened_of bs)
  unfolding opened_of body_of
  opened_says h =
      let P = Decoded bs in
      let R = PlaceIn (length bs) in
      by_row P R (ltb (length bs) from) _ _ (λ t. at_end (length bs) _ refl)
      (λ t.
      let long : from ≤ length bs = ltb-false _ _ t in
      let rest : from + length (drop from bs) ≡ length bs = simp length-drop (omega arith) in
      let o = entries_read bs n in
      let said = says_which Entries R o (entries_say f n from (drop from bs) (length bs) rest) in
      by_row P R (zero_written bs) _ _ (λ z. fifteen long (both (opening_written bs) _ z).0)
      (λ z. by_step (λ _. OpensIn f) R P (opening_fault 3 f) _ (opening_placed long h.some_minutes (opening_written bs) refl)
      (λ _ opens. by_step (λ x. Entries x × (o ≡ answered x)) R P o _
      (says_refusal (λ x. Entries x × (o ≡ answered x)) (λ k. R k × (o ≡ refused k)) R o (λ _ p. p.0) said)
      (λ x taken. by_row P R (ltb x.1 (length bs)) _ _ (λ l. at_place _ 8 x.1 (omega arith) (omega arith) (ltb-true _ _ l))
      (λ l. decoded long h z opens x taken.0 taken.1 (ltb-false _ _ l))))))

  -- what rows 1 to 8, 15 and 16 say
  decode_says : Says (Decoded bs) (PlaceIn (length bs)) (decode_of bs)
  unfolding decode_of
  decode_says =
      let P = Decoded bs in
      let R = PlaceIn (length bs) in
      by_row P R (ltb (length bs) 3) _ _ (λ t. at_end (length bs) _ refl)
      (λ t.
      let long : 3 ≤ length bs = ltb-false _ _ t in
      let two = at_place (length bs) 2 0 (omega arith) (omega arith) (omega arith) in
      let three = at_place (length bs) 3 2 (omega arith) (omega arith) (omega arith) in
      by_step (λ _. Header f.h n) R P (header_fault 2 f.h n) _ (header_says 2 f.h n R two three) (λ _ h. opened_says h))

  pub decoded_typed : (l : DayList) → decode_of bs ≡ answered l → Bytes bs → Typed l
  decoded_typed l e = let d : Decoded bs l = rw e at decode_says in d.typed

  -- the place of a map byte, by the one forms of the entries before it
  pub map_place_lem : (l : DayList) → decode_of bs ≡ answered l → Bytes bs → (i : ℕ) → i < length (entries_of l)
      → length (bytes_of (first_entries l i)) ≡ map_place bs i
  unfolding map_place
  map_place_lem l e b i h =
      let d : Decoded bs l = rw e at decode_says in
      let read = d.each i h in
      let here : map_place bs i ≡ read.place = ap place_after read.before in
      let short : take i (entries_of l) ≡ take i l.entries =
      take-take i l.n l.entries (omega (arith, h, length-take l.n l.entries)) in
      form_length (first_entries l i)
      ∙ rw (← short, d.frame, later_again bs d.kept) (map_form f bs from (entries_of l) i read d.long b)
      ∙ sym here

  -- row 14 carries such a place, inside the input
  clash_read : (l : DayList) → decode_of bs ≡ answered l → first_clash (entries_of l) < length (entries_of l)
      → ClashRead bs (map_place bs (first_clash (entries_of l)))
  unfolding map_place
  clash_read l e h =
      let d : Decoded bs l = rw e at decode_says in
      let read = d.each (first_clash (entries_of l)) h in
      let here : map_place bs (first_clash (entries_of l)) ≡ read.place = ap place_after read.before in
      rw here
      (record {
        list = l;
        decoded = e;
        all = d.all;
        entry = first_clash (entries_of l);
        first = first_clash_lem (entries_of l) h;
        before = read.before;
        size = read.size;
        here = read.here;
        inside = map_inside f bs from (entries_of l) _ read;
      })

  -- what reading says
  read_says : Says (λ l. Decoded bs l × Apart (entries_of l)) (ReadRefusal bs) (read_of bs)
  unfolding read_of
  read_says =
      let P : DayList → Type 0 = λ l. Decoded bs l × Apart (entries_of l) in
      let R = ReadRefusal bs in
      let o = decode_of bs in
      let D : DayList → Type 0 = λ l. Decoded bs l × (o ≡ answered l) in
      let said = says_which (Decoded bs) (PlaceIn (length bs)) o decode_says in
      by_step D R P o _ (says_refusal D (λ k. PlaceIn (length bs) k × (o ≡ refused k)) R o (λ _ p. inl p) said)
      (λ l d. by_row P R (ltb (first_clash (entries_of l)) (length (entries_of l))) _ _
      (λ t. inr (map_place bs (first_clash (entries_of l)), refl, clash_read l d.1 (ltb-true _ _ t)))
      (λ t. (d.0, apart (entries_of l) (ltb-false _ _ t))))

  -- why an input is refused: what 1 carries is its length, and any other refusal carries a place inside
  pub read_places : (k : Code) → read_of bs ≡ refused k → ReadRefusal bs k
  read_places k e = rw e at read_says

  pub read_law : ReadLaw bs
  unfolding read_of
  read_law =
      record {
        refusal = read_places;
        before = λ k e. rw e refl;
        apart = λ l e none. rw (e, le-ltb _ _ (apart_told (entries_of l) none)) refl;
        clash = λ l e k f. (
          map_place bs k,
          rw (e, first_told (entries_of l) k f, lt-ltb k (length (entries_of l)) f.clashes.in_list) refl,
        );
      }

  module _ (l : DayList) (e : read_of bs ≡ answered l) where
    accepted : Decoded bs l × Apart (entries_of l)
    accepted = rw e at read_says

    -- an accepted list is well-formed
    pub read_well_formed : WellFormed l
    read_well_formed = well_formed l accepted.0.sound accepted.1

    -- an accepted list is one that the machine's types hold
    pub read_typed : Bytes bs → Typed l
    read_typed = accepted.0.typed

    -- accepted bytes are the one form of the list read
    pub read_one_form : Bytes bs → bytes_of l ≡ bs
    read_one_form = accepted.0.form
