-- Lists and bytes, both ways: a well-formed list survives writing and reading, and accepted bytes survive reading and writing; and lists
-- that are equal are written alike.
-- Assumes nothing.
use mathlib.Core.Path.{◌≡◌, refl, sym, ap, ◌∙◌}
use mathlib.Core.List.{List, [], ◌++◌, append-nil}
use Prim.Native.Nat.{ℕ, ◌+◌, ◌≤◌, ◌<◌}
use native.Mathlib.Omega.{arith}
use borrow.Author.Tests.{le-ltb}
use lib.Dec.{ltb}
use lib.ListN.{length, take, drop, length-append, length-take}
use lib.Seq.{take-append_seam, take_at}
use Rattle.list.specs.Machine.{Bytes, Typed}
use Rattle.base.specs.Outcomes.{Outcome, answered, refused}
use Rattle.list.specs.DayLists.{entries_of, day_list, SameList}
use Rattle.list.specs.Checks.{WellFormed, header_fault, check_of}
use Rattle.format.specs.Headers.{header_size, entries_place, opens_later, header_bytes}
use Rattle.format.specs.Reading.{entries_from, decode_of, read_of}
use Rattle.format.specs.Writing.{bytes_of_entries, bytes_of, write_of, buffer_after}
use Rattle.list.specs.declared.types.Frame.{Frame}
use Rattle.list.specs.declared.types.DayList.{DayList}
use Rattle.base.proofs.Inversion.{Says, by_row, by_step, Anything}
use Rattle.list.proofs.Alike.{same_checked}
use Rattle.list.proofs.ClashFacts.{apart_told}
use Rattle.list.proofs.Sound.{header_passes, opening_passes, SoundList, check_says, sound_list, list_apart}
use Rattle.format.proofs.HeaderTrip.{HeaderBack, header_back, header_length}
use Rattle.format.proofs.EntryTrip.{EntryFits}
use Rattle.format.proofs.ReadCases.{decode_opened, opened_body, body_done}
use Rattle.format.proofs.WriteCases.{list_written}
use Rattle.format.proofs.ListTrip.{entries_read_back, every_take}
use Rattle.format.proofs.ReadLaws.{read_well_formed, read_one_form}

module _ (l : DayList) (t : Typed l) (w : WellFormed l) where
  sound : SoundList l
  sound = sound_list l w

  small : l.frame.h < 65536
  small = omega (arith, sound.header.one_day)

  counted : length (entries_of l) ≡ l.n
  counted = simp length-take (omega (arith, t.long, sound.header.room))

  entries_back : (at : ℕ) → entries_from l.frame l.n at (bytes_of_entries l.frame (entries_of l))
      ≡ answered (entries_of l, at + length (bytes_of_entries l.frame (entries_of l)))
  entries_back at =
      let fits = every_take EntryFits l.entries l.n (λ i. record { serial = t.serial i; seal = t.seal i }) in
      rw (counted, append-nil) at (entries_read_back l.frame at (entries_of l) [] small fits sound.entries)

  -- a well-formed list is read back from its one form: the same entries, and blank places after them
  decoded_back : decode_of (bytes_of l) ≡ answered (day_list l.frame (entries_of l))
  unfolding bytes_of
  decoded_back =
      let f = l.frame in
      let body = bytes_of_entries f (entries_of l) in
      let bs = header_bytes f l.n ++ body in
      let back : HeaderBack f l.n body bs =
      header_back f l.n body small (omega (arith, small, sound.opening)) (omega (arith, sound.header.room)) in
      let long : length bs ≡ header_size (opens_later f) + length body = length-append (header_bytes f l.n) body ∙ rw header_length in
      let read = ap (entries_from f l.n (entries_place bs)) back.after ∙ entries_back (entries_place bs) in
      sym (decode_opened bs (omega (arith, long)) f.h (ap (λ (g : Frame). g.h) back.frame)
      (sym (header_passes 2 f.h l.n sound.header) ∙ ap (header_fault 2 f.h) back.count))
      ∙ opened_body bs (omega (arith, long, back.place)) back.kept f back.frame (sym (opening_passes 3 f sound.opening))
      ∙ body_done bs f l.n (entries_place bs) back.frame back.count refl (entries_of l) _ read (omega (arith, long, back.place))

  pub bytes_read_back : read_of (bytes_of l) ≡ answered (day_list l.frame (entries_of l))
  unfolding read_of
  bytes_read_back =
      let kept : entries_of (day_list l.frame (entries_of l)) ≡ entries_of l = take-append_seam (entries_of l) _ in
      rw (decoded_back, kept, le-ltb _ _ (apart_told (entries_of l) (list_apart l w))) refl

  -- and that list equals the one written
  pub same_back : SameList (day_list l.frame (entries_of l)) l
  same_back = record { frame = refl; n = counted; entries = take-append_seam (entries_of l) _ }

-- what an answer of the writer says
module _ (l : DayList) (room : ℕ) where
  abbrev Answer : ℕ → Type 0
  Answer count = WellFormed l × (count ≡ length (bytes_of l))

  pub write_says : Says Answer Anything (write_of l room)
  unfolding write_of
  write_says =
      by_step (λ _. WellFormed l) Anything Answer (check_of l) _ (check_says l Anything (λ _ _ _. tt) (λ _ _ _. tt) (λ _ _. tt))
      (λ _ w. by_row Answer Anything (ltb room (length (bytes_of l))) _ _ (λ t. tt) (λ t. (w, refl)))

-- a well-formed list survives writing and reading: from the bytes that the writer stored, an equal list is read
pub written_reads_back : (l : DayList) (old : List ℕ) (count : ℕ) → Typed l → write_of l (length old) ≡ answered count
    → (back : DayList) × (read_of (take count (buffer_after (write_of l (length old)) l old)) ≡ answered back) × SameList back l
written_reads_back l old count t e =
    let z : Answer l (length old) count = rw e at (write_says l (length old)) in (
      day_list l.frame (entries_of l),
      rw (e, take_at (bytes_of l) (drop count old) count (sym z.1)) (bytes_read_back l t z.0),
      same_back l t z.0,
    )

-- the same from the list alone: a well-formed list that has room is written, and an equal list is read from what was written
pub survives : (l : DayList) (old : List ℕ) → Typed l → WellFormed l → length (bytes_of l) ≤ length old
    → (count : ℕ) × (write_of l (length old) ≡ answered count)
    × ((back : DayList) × (read_of (take count (buffer_after (write_of l (length old)) l old)) ≡ answered back) × SameList back l)
survives l old t w h =
    let e = list_written l (length old) w h in (length (bytes_of l), e, written_reads_back l old (length (bytes_of l)) t e)

-- accepted bytes survive reading and writing, byte for byte, in every buffer that has room
pub read_writes_back : (bs : List ℕ) (l : DayList) → read_of bs ≡ answered l → Bytes bs → (old : List ℕ) → length bs ≤ length old
    → (write_of l (length old) ≡ answered (length bs)) × (buffer_after (write_of l (length old)) l old ≡ bs ++ drop (length bs) old)
read_writes_back bs l e b old h =
    let form = read_one_form bs l e b in
    let done = list_written l (length old) (read_well_formed bs l e) (rw form h) in
    let written : write_of l (length old) ≡ answered (length bs) = rw form at done in
    (written, rw (written, form))

-- Two list values are equal if H, the opening minute, n and the first n entries are: then the one form and the writer treat them alike
module _ (a b : DayList) (same : SameList a b) where
  -- they have one form
  pub same_bytes : bytes_of a ≡ bytes_of b
  unfolding bytes_of
  same_bytes = rw (same.entries, same.n, same.frame)

  same_answer : (room : ℕ) → write_of a room ≡ write_of b room
  unfolding write_of
  same_answer room = rw (same_checked same, same_bytes)

  same_buffer : (o : Outcome ℕ) (old : List ℕ) → buffer_after o a old ≡ buffer_after o b old
  same_buffer (answered n) old = rw same_bytes
  same_buffer (refused k) old = refl

  -- they are written alike: the same answer, and the same buffer afterwards
  pub same_written : (old : List ℕ)
      → (write_of a (length old) ≡ write_of b (length old))
      × (buffer_after (write_of a (length old)) a old ≡ buffer_after (write_of b (length old)) b old)
  same_written old = (same_answer (length old), rw (same_answer (length old)) (same_buffer (write_of b (length old)) old))
