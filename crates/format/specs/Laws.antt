-- What reading says of an input and writing of a list, in facts: `read_law` of proofs/ReadLaws.antt and `write_law` of
-- proofs/WriteLaws.antt, for all inputs, lists and buffers; and how long lists are.
use Rattle.std.specs.Prelude.{ℕ, suc, ◌+◌, ◌<◌, ◌≤◌, ◌≡◌, ◌⊎◌, true, false, List, [], ◌∷◌, ◌++◌, length, get_or, take, drop}
use Rattle.base.specs.Outcomes.{Code, code, answered, refused}
use Rattle.list.specs.DayLists.{entries_of, blank, day_list}
use Rattle.list.specs.Clashes.{Apart, FirstClash}
use Rattle.list.specs.Checks.{check_of, WellFormed}
use Rattle.list.specs.Laws.{Header, OpensIn, Sound, FirstRow}
use Rattle.list.specs.declared.types.Entry.{Entry}
use Rattle.list.specs.declared.types.Frame.{Frame}
use Rattle.list.specs.declared.types.DayList.{DayList}
use Rattle.format.specs.Maps.{legal_map, fields_of, size_of}
use Rattle.format.specs.EntryFields.{entry_at, default_written, entry_of}
use Rattle.format.specs.Headers.{opening_written, frame_of, count_of}
use Rattle.format.specs.Reading.{entries_read, decode_of, read_of}
use Rattle.format.specs.Writing.{bytes_of, longest_list, read_limit, write_of, buffer_after}

-- the rows of reading that look at one entry or at the header, or at the input's length: 1 to 8, 15 and 16
abbrev pub ReadingRow : ℕ → Type 0
ReadingRow n = ((1 ≤ n) × (n ≤ 8)) ⊎ ((n ≡ 15) ⊎ (n ≡ 16))

-- A refusal of an input of this length: one of those rows, of which 1 carries the length, 15 the opening minute's place and any other a
-- place inside the input.
pub record PlaceIn (len : ℕ) (k : Code) : Type 0 where
  pub reading : ReadingRow k.number
  pub place : ℕ
  pub carried : k.carries ≡ place ∷ []
  pub missing : k.number ≡ 1 → place ≡ len
  pub opening : k.number ≡ 15 → place ≡ 3
  pub inside : (k.number ≡ 1 → ⊥) → place < len

-- A refusal by 14 that carries the place at: those rows leave a list, whose entries take all of the input; this is its first entry that
-- clashes with an earlier one; reading the entries before it ends at that place, and there, inside the input, it was read, map byte first.
pub record ClashRead (bs : List ℕ) (at : ℕ) : Type 0 where
  pub list : DayList
  pub decoded : decode_of bs ≡ answered list
  pub all : entries_read bs (count_of bs) ≡ answered (entries_of list, length bs)
  pub entry : ℕ
  pub first : FirstClash (entries_of list) entry
  pub before : entries_read bs entry ≡ answered (take entry (entries_of list), at)
  pub size : ℕ
  pub here : entry_of (frame_of bs) at (drop at bs) ≡ answered (get_or (entries_of list) entry blank, size)
  pub inside : at < length bs

-- why an input is refused: one of those rows, or 14
abbrev pub ReadRefusal : List ℕ → Code → Type 0
ReadRefusal bs k = (PlaceIn (length bs) k × (decode_of bs ≡ refused k)) ⊎ ((at : ℕ) × (k ≡ code 14 (at ∷ [])) × ClashRead bs at)

pub record ReadLaw (bs : List ℕ) : Type 0 where
  pub refusal : (k : Code) → read_of bs ≡ refused k → ReadRefusal bs k
  -- rows 1 to 8, 15 and 16 come first
  pub before : (k : Code) → decode_of bs ≡ refused k → read_of bs ≡ refused k
  -- of the lists that they leave, those in which no two entries clash are read, and all others are refused by 14
  pub apart : (l : DayList) → decode_of bs ≡ answered l → Apart (entries_of l) → read_of bs ≡ answered l
  pub clash : (l : DayList) → decode_of bs ≡ answered l → (k : ℕ) → FirstClash (entries_of l) k
      → (at : ℕ) × (read_of bs ≡ refused (code 14 (at ∷ [])))

-- The rows of reading, each by what the bytes say: `read_rows_law` of proofs/ReadRows.antt.

-- what the rows of the header leave: 1, 2, 3, then 1 and 15 for the opening minute
pub record HeaderReads (bs : List ℕ) : Type 0 where
  pub long : 3 ≤ length bs
  pub header : Header (frame_of bs).h (count_of bs)
  pub written : opening_written bs ≡ true → (5 ≤ length bs) × (1 ≤ (frame_of bs).opening)
  pub opens : OpensIn (frame_of bs)

-- the first row of an entry that holds, where rest is what is left of the input from place at on: "a missing map byte is 1", then 4, 1 for
-- a field that is missing, 5, and the rows of its values
pub data EntryRow (f : Frame) (at : ℕ) (rest : List ℕ) : Code → Type 0 where
  no_map : length rest ≡ 0 → EntryRow f at rest (code 1 ((at + length rest) ∷ []))
  map_breaks : 1 ≤ length rest → legal_map (get_or rest 0 0) ≡ false → EntryRow f at rest (code 4 (at ∷ []))
  field_missing : 1 ≤ length rest → legal_map (get_or rest 0 0) ≡ true → length rest < size_of (fields_of (get_or rest 0 0))
      → EntryRow f at rest (code 1 ((at + length rest) ∷ []))
  default : 1 ≤ length rest → legal_map (get_or rest 0 0) ≡ true → size_of (fields_of (get_or rest 0 0)) ≤ length rest
      → default_written f (fields_of (get_or rest 0 0)) (entry_at f (fields_of (get_or rest 0 0)) rest) ≡ true
      → EntryRow f at rest (code 5 (at ∷ []))
  values : 1 ≤ length rest → legal_map (get_or rest 0 0) ≡ true → size_of (fields_of (get_or rest 0 0)) ≤ length rest
      → default_written f (fields_of (get_or rest 0 0)) (entry_at f (fields_of (get_or rest 0 0)) rest) ≡ false
      → (k : ℕ) → FirstRow f (entry_at f (fields_of (get_or rest 0 0)) rest) k → EntryRow f at rest (code k (at ∷ []))

-- an entry of which no row holds
pub record EntryReads (f : Frame) (rest : List ℕ) : Type 0 where
  pub some : 1 ≤ length rest
  pub map : legal_map (get_or rest 0 0) ≡ true
  pub long : size_of (fields_of (get_or rest 0 0)) ≤ length rest
  pub written : default_written f (fields_of (get_or rest 0 0)) (entry_at f (fields_of (get_or rest 0 0)) rest) ≡ false
  pub sound : Sound f (entry_at f (fields_of (get_or rest 0 0)) rest)

-- "Rows are tested in this order, entry by entry ..; the first that holds is given, none otherwise.": which number, and with which place
pub record ReadRowsLaw (bs : List ℕ) : Type 0 where
  pub short : length bs < 3 → read_of bs ≡ refused (code 1 (length bs ∷ []))
  pub two : 3 ≤ length bs → ((frame_of bs).h ≡ 0) ⊎ (1440 < (frame_of bs).h) → read_of bs ≡ refused (code 2 (0 ∷ []))
  pub three : 3 ≤ length bs → 1 ≤ (frame_of bs).h → (frame_of bs).h ≤ 1440 → 64 < count_of bs → read_of bs ≡ refused (code 3 (2 ∷ []))
  pub no_minute : 3 ≤ length bs → Header (frame_of bs).h (count_of bs) → opening_written bs ≡ true → length bs < 5
      → read_of bs ≡ refused (code 1 (length bs ∷ []))
  pub fifteen : Header (frame_of bs).h (count_of bs) → opening_written bs ≡ true → 5 ≤ length bs
      → ((frame_of bs).opening ≡ 0) ⊎ ((frame_of bs).h ≤ (frame_of bs).opening) → read_of bs ≡ refused (code 15 (3 ∷ []))
  -- the entries begin after the header
  pub begin : opening_written bs ≡ false → entries_read bs 0 ≡ answered ([], 3)
  pub begin_later : opening_written bs ≡ true → entries_read bs 0 ≡ answered ([], 5)
  -- where the first i entries end, at place at, is the next one's map byte; if no row of it holds it is read, and ends after its fields
  pub next : (i : ℕ) (es : List Entry) (at : ℕ) → entries_read bs i ≡ answered (es, at) → EntryReads (frame_of bs) (drop at bs)
      → let m = fields_of (get_or (drop at bs) 0 0) in
      entries_read bs (suc i) ≡ answered (es ++ (entry_at (frame_of bs) m (drop at bs) ∷ []), at + size_of m)
  pub entry : HeaderReads bs → (i : ℕ) → i < count_of bs → (es : List Entry) (at : ℕ) → entries_read bs i ≡ answered (es, at)
      → (k : Code) → EntryRow (frame_of bs) at (drop at bs) k → read_of bs ≡ refused k
  pub eight : HeaderReads bs → (es : List Entry) (at : ℕ) → entries_read bs (count_of bs) ≡ answered (es, at) → at < length bs
      → read_of bs ≡ refused (code 8 (at ∷ []))
  pub none : HeaderReads bs → (es : List Entry) → entries_read bs (count_of bs) ≡ answered (es, length bs) → Apart es
      → read_of bs ≡ answered (day_list (frame_of bs) es)

-- writing the list l to a buffer that held old
pub record WriteLaw (l : DayList) (old : List ℕ) : Type 0 where
  -- the value check comes first; then 12, which carries the bytes needed
  pub before : (k : Code) → check_of l ≡ refused k → write_of l (length old) ≡ refused k
  pub short : WellFormed l → length old < length (bytes_of l) → write_of l (length old) ≡ refused (code 12 (length (bytes_of l) ∷ []))
  pub fits : WellFormed l → length (bytes_of l) ≤ length old → write_of l (length old) ≡ answered (length (bytes_of l))
  -- "A refusal writes nothing to any lent buffer."
  pub stays : (k : Code) → write_of l (length old) ≡ refused k → buffer_after (write_of l (length old)) l old ≡ old
  -- "The writer gives the list's one form; bytes after it keep their values."
  pub written : (count : ℕ) → write_of l (length old) ≡ answered count
      → buffer_after (write_of l (length old)) l old ≡ bytes_of l ++ drop (length (bytes_of l)) old

-- "A longest list has 965 bytes and the program takes 966.": `length_law` of proofs/FirstBytes.antt
pub record LengthLaw : Type 0 where
  -- no list's one form is longer than that, and one is as long
  pub longest : (l : DayList) → WellFormed l → length (bytes_of l) ≤ longest_list
  pub reached : (l : DayList) × WellFormed l × (length (bytes_of l) ≡ longest_list)
  -- so one byte more decides how an input is read
  pub first_bytes : (bs : List ℕ) → read_of (take read_limit bs) ≡ read_of bs
