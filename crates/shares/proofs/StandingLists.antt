-- A list whose one form stands at the front of bytes is read from there, whatever follows it.
-- Assumes nothing.
use mathlib.Core.Path.{◌≡◌, refl, sym, ap, ◌∙◌}
use mathlib.Core.Bool.{false, cond}
use mathlib.Core.List.{List, [], ◌∷◌, ◌++◌, append_assoc}
use Prim.Native.Nat.{ℕ, zero, suc, ◌+◌, ◌-◌, ◌≤◌, ◌<◌}
use native.Mathlib.Omega.{arith}
use borrow.Author.Tests.{le-ltb}
use lib.Dec.{ltb}
use lib.ListN.{length, get_or, take, drop, length-append, length-drop, take-append-drop}
use lib.Seq.{length-take-le, take-length, take-append_seam, drop_at, get_or-drop}
use Rattle.base.specs.Outcomes.{code, Outcome, answered, refused, first_of}
use Rattle.base.proofs.Searches.{first_below_lem}
use Rattle.list.specs.DayLists.{entries_of, day_list}
use Rattle.list.specs.Clashes.{first_clash, clashes_earlier, clash_row}
use Rattle.list.specs.Checks.{WellFormed, header_fault, opening_fault}
use Rattle.list.specs.declared.types.Entry.{Entry}
use Rattle.list.specs.declared.types.Frame.{Frame}
use Rattle.list.specs.declared.types.DayList.{DayList}
use Rattle.list.proofs.ClashFacts.{apart_told}
use Rattle.list.specs.Laws.{Sound}
use Rattle.list.proofs.Sound.{Every, SoundList, header_passes, opening_passes, list_apart}
use Rattle.format.specs.Headers.{frame_of, count_of, entries_place, zero_written, header_size, opens_later, header_bytes}
use Rattle.format.specs.Reading.{entries_from, entries_read, place_after, map_place}
use Rattle.format.specs.Writing.{bytes_of_entries, bytes_of}
use Rattle.format.proofs.HeaderTrip.{HeaderBack, header_back, header_length}
use Rattle.format.proofs.EntryTrip.{EntryFits}
use Rattle.format.proofs.ListTrip.{entries_read_back}
use Rattle.format.proofs.LongestList.{longest}
use Rattle.shares.specs.Shares.{share_bytes, front_entries, front_of, share_with}

-- a list that bytes can say: its header and entries are sound, its serials and seals fit their bytes, and behind its entries are blank ones
pub record Readable (l : DayList) : Type 0 where
  pub sound : SoundList l
  pub fits : Every EntryFits (entries_of l)
  pub blank_after : day_list l.frame (entries_of l) ≡ l

-- what the front of bytes is read as, once its entries are: where the one form of the entries before one ends, its map byte stands
abbrev form_place : DayList → ℕ → ℕ
form_place l i = header_size (opens_later l.frame) + length (bytes_of_entries l.frame (take i (entries_of l)))

abbrev pub or_clash : DayList → Outcome DayList
or_clash l = first_of (clash_row (form_place l) (entries_of l) ∷ []) (answered l)

every_taken : (P : Entry → Type 0) (i : ℕ) (es : List Entry) → Every P es → Every P (take i es)
every_taken P zero es all = tt
every_taken P (suc i) [] all = tt
every_taken P (suc i) (e ∷ es) all = (all.0, every_taken P i es all.1)

forms_append : (f : Frame) (xs ys : List Entry) → bytes_of_entries f (xs ++ ys) ≡ bytes_of_entries f xs ++ bytes_of_entries f ys
unfolding bytes_of_entries
forms_append f [] ys = refl
forms_append f (x ∷ xs) ys = rw (forms_append f xs ys, append_assoc)

clash_within : (es : List Entry) → first_clash es ≤ length es
unfolding first_clash
clash_within es = (first_below_lem (length es) (clashes_earlier es)).within

-- what passes the rows of a header comes to the entries
front_passes : (bs : List ℕ) → 3 ≤ length bs → header_fault 2 (frame_of bs).h (count_of bs) ≡ answered tt → entries_place bs ≤ length bs
    → zero_written bs ≡ false → opening_fault 3 (frame_of bs) ≡ answered tt → front_entries bs ≡ entries_read bs (count_of bs)
unfolding front_entries
front_passes bs long header place kept opening = rw (le-ltb _ _ long, header, le-ltb _ _ place, kept, opening)

module _ (l : DayList) (r : Readable l) (rest : List ℕ) where
  abbrev f : Frame
  f = l.frame

  abbrev es : List Entry
  es = entries_of l

  abbrev bs : List ℕ
  bs = bytes_of l ++ rest

  abbrev body : List ℕ
  body = bytes_of_entries f es ++ rest

  counted : length es ≡ l.n
  counted = ap (λ (x : DayList). x.n) r.blank_after

  small : f.h < 65536
  small = omega (arith, r.sound.header.one_day)

  parts : bs ≡ header_bytes f l.n ++ body
  unfolding bytes_of
  parts = append_assoc (header_bytes f l.n) (bytes_of_entries f es) rest

  back : HeaderBack f l.n body bs
  back =
      rw parts
      (header_back f l.n body small (omega (arith, small, r.sound.opening)) (omega (arith, r.sound.header.room)))

  long : length bs ≡ header_size (opens_later f) + length body
  long = ap length parts ∙ length-append (header_bytes f l.n) body ∙ rw header_length

  form_length : length (bytes_of l) ≡ header_size (opens_later f) + length (bytes_of_entries f es)
  unfolding bytes_of
  form_length = length-append (header_bytes f l.n) (bytes_of_entries f es) ∙ rw header_length

  -- the first i entries
  first_entries_lem : (i : ℕ) → i ≤ length es
      → entries_read bs i ≡ answered (take i es, entries_place bs + length (bytes_of_entries f (take i es)))
  first_entries_lem i h =
      let more = bytes_of_entries f (drop i es) ++ rest in
      let apart : body ≡ bytes_of_entries f (take i es) ++ more =
      ap (λ (xs : List Entry). bytes_of_entries f xs ++ rest) (sym (take-append-drop i es))
      ∙ ap (λ (ys : List ℕ). ys ++ rest) (forms_append f (take i es) (drop i es))
      ∙ append_assoc (bytes_of_entries f (take i es)) (bytes_of_entries f (drop i es)) rest in
      (λ j. entries_from (sym back.frame j) i (entries_place bs) ((back.after ∙ apart) j))
      ∙ ap (λ (k : ℕ). entries_from f k (entries_place bs) (bytes_of_entries f (take i es) ++ more)) (sym (length-take-le i es h))
      ∙ entries_read_back f (entries_place bs) (take i es) more small (every_taken EntryFits i es r.fits)
      (every_taken (Sound f) i es r.sound.entries)

  -- all of them
  pub front_entries_lem : front_entries bs ≡ answered (es, length (bytes_of l))
  front_entries_lem =
      let count : count_of bs ≡ length es = sym back.count ∙ sym counted in
      let all : take (length es) es ≡ es = take-length es in
      let end : entries_place bs + length (bytes_of_entries f es) ≡ length (bytes_of l) = omega (arith, back.place, form_length) in
      front_passes bs (omega (arith, long))
      ((λ j. header_fault 2 (sym back.frame j).h (sym back.count j)) ∙ header_passes 2 f.h l.n r.sound.header)
      (omega (arith, long, back.place)) back.kept
      (ap (opening_fault 3) (sym back.frame) ∙ opening_passes 3 f r.sound.opening)
      ∙ ap (entries_read bs) count
      ∙ first_entries_lem (length es) (omega arith)
      ∙ (λ j. answered (all j, (ap (λ (xs : List Entry). entries_place bs + length (bytes_of_entries f xs)) all ∙ end) j))

  -- the places of their map bytes
  places : (i : ℕ) → i ≤ length es → map_place bs i ≡ form_place l i
  unfolding map_place
  places i h = ap place_after (first_entries_lem i h) ∙ ap (λ (k : ℕ). k + length (bytes_of_entries f (take i es))) back.place

  -- so the front is read the same, whatever follows
  pub front_form : front_of bs ≡ or_clash l
  unfolding front_of
  front_form =
      let same : day_list (frame_of bs) es ≡ l = ap (λ (g : Frame). day_list g es) (sym back.frame) ∙ r.blank_after in
      rw front_entries_lem
      (λ j. cond (ltb (first_clash es) (length es))
      (refused (code 14 (places (first_clash es) (clash_within es) j ∷ []))) (answered (same j)))

-- if no two entries clash, as the list
pub apart_read : (l : DayList) → WellFormed l → or_clash l ≡ answered l
apart_read l w = rw (le-ltb _ _ (apart_told (entries_of l) (list_apart l w)))

-- a list that stands in a share
pub record Stands (l : DayList) : Type 0 where
  pub formed : WellFormed l
  pub readable : Readable l

pub stands_read : (l : DayList) → Stands l → (rest : List ℕ) → front_of (bytes_of l ++ rest) ≡ answered l
stands_read l st rest = front_form l st.readable rest ∙ apart_read l st.formed

-- a share in which a list was written
module _ (l : DayList) (old : List ℕ) where
  pub share_back : Stands l → front_of (share_with l old) ≡ answered l
  unfolding share_with
  share_back st = stands_read l st (drop (length (bytes_of l)) old)

  pub share_form : take (length (bytes_of l)) (share_with l old) ≡ bytes_of l
  unfolding share_with
  share_form = take-append_seam (bytes_of l) _

  pub share_length : WellFormed l → length old ≡ share_bytes → length (share_with l old) ≡ share_bytes
  unfolding share_with
  share_length w long =
      length-append (bytes_of l) (drop (length (bytes_of l)) old) ∙ omega (arith, length-drop (length (bytes_of l)) old, longest l w, long)

  -- bytes after the list keep their values
  pub share_behind : (j : ℕ) → length (bytes_of l) ≤ j → get_or (share_with l old) j 0 ≡ get_or old j 0
  unfolding share_with
  share_behind j h =
      let n = length (bytes_of l) in
      let all = bytes_of l ++ drop n old in
      let here : j ≡ n + (j - n) = omega arith in
      ap (λ (i : ℕ). get_or all i 0) here
      ∙ sym (get_or-drop n all (j - n) 0)
      ∙ ap (λ (xs : List ℕ). get_or xs (j - n) 0) (drop_at (bytes_of l) (drop n old) n refl)
      ∙ get_or-drop n old (j - n) 0
      ∙ ap (λ (i : ℕ). get_or old i 0) (sym here)
