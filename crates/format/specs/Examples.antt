-- The table's order of rows, days that have a serial twice, and rooms that open after midnight, as one statement;
-- `read_examples` of proofs/Examples.antt proves it.
use Rattle.std.specs.Prelude.{ℕ, ◌+◌, ◌≡◌, List, [], ◌∷◌, ◌++◌, None, Some}
use Rattle.base.specs.Outcomes.{code, answered, refused}
use Rattle.list.specs.DayLists.{day_list}
use Rattle.list.specs.declared.types.Kind.TheVariants.{Pause, Whole}
use Rattle.list.specs.declared.types.Entry.{Entry}
use Rattle.format.specs.Reading.{read_of}

-- the shortest entry: serial 501, the whole day, p 1
abbrev pub entry501 : List ℕ
entry501 = 0x11 ∷ 0xF5 ∷ 0x01 ∷ 0x00 ∷ 0x00 ∷ 0x01 ∷ 0x00 ∷ []

-- the same with serial 502
abbrev pub entry502 : List ℕ
entry502 = 0x11 ∷ 0xF6 ∷ 0x01 ∷ 0x00 ∷ 0x00 ∷ 0x01 ∷ 0x00 ∷ []

-- H 10 and n entries
abbrev pub ten_minutes : ℕ → List ℕ
ten_minutes n = 0x0A ∷ 0x00 ∷ n ∷ []

-- an entry with all fields, each of which differs from byte to byte: serial 0x04030201, seal 0x08070605, [1,8), p 2, whole
abbrev pub all_fields : List ℕ
all_fields = 0x3F ∷ 0x01 ∷ 0x02 ∷ 0x03 ∷ 0x04 ∷ 0x05 ∷ 0x06 ∷ 0x07 ∷ 0x08 ∷ 0x01 ∷ 0x00 ∷ 0x08 ∷ 0x00 ∷ 0x02 ∷ 0x00 ∷ []

-- H 10, serial 501 twice
abbrev pub clash_bytes : List ℕ
clash_bytes = (0x0A ∷ 0x00 ∷ 0x02 ∷ []) ++ (entry501 ++ entry501)

-- serials 501, 502, 501 and 502: two entries clash, each with the one two places before it
abbrev pub two_clashes_bytes : List ℕ
two_clashes_bytes = (0x0A ∷ 0x00 ∷ 0x04 ∷ []) ++ (entry501 ++ (entry502 ++ (entry501 ++ entry502)))

-- serial 501 twice, in windows that only touch: [0,4) and [4,10)
abbrev pub touching_bytes : List ℕ
touching_bytes =
    (0x0A ∷ 0x00 ∷ 0x02 ∷ [])
    ++ ((0x19 ∷ 0xF5 ∷ 0x01 ∷ 0x00 ∷ 0x00 ∷ 0x04 ∷ 0x00 ∷ 0x01 ∷ 0x00 ∷ [])
    ++ (0x15 ∷ 0xF5 ∷ 0x01 ∷ 0x00 ∷ 0x00 ∷ 0x04 ∷ 0x00 ∷ 0x01 ∷ 0x00 ∷ []))

abbrev pub serial501 : ℕ → ℕ → Entry
serial501 r d = record { serial = 501; seal = None; r = r; d = d; p = 1; kind = Pause }

-- H 10, and this opening minute, in two bytes
abbrev pub opens_at : ℕ → ℕ → List ℕ
opens_at minute n = 0x0A ∷ 0x00 ∷ (0x80 + n) ∷ minute ∷ 0x00 ∷ []

-- serial 501 with this r written, p 1
abbrev pub released_at : ℕ → List ℕ
released_at r = 0x15 ∷ 0xF5 ∷ 0x01 ∷ 0x00 ∷ 0x00 ∷ r ∷ 0x00 ∷ 0x01 ∷ 0x00 ∷ []

-- serial 501 with this r and d written, and this p
abbrev pub window_written : ℕ → ℕ → ℕ → List ℕ
window_written r d p = 0x1D ∷ 0xF5 ∷ 0x01 ∷ 0x00 ∷ 0x00 ∷ r ∷ 0x00 ∷ d ∷ 0x00 ∷ p ∷ 0x00 ∷ []

pub record ReadExamples : Type 0 where
  -- "in bit order", "lowest byte first"
  pub all_fields_lem : read_of (ten_minutes 1 ++ all_fields)
      ≡ answered (day_list (record { h = 10; opening = 0 })
      (record { serial = 0x04030201; seal = Some 0x08070605; r = 1; d = 8; p = 2; kind = Whole } ∷ []))
  -- the header: 1, then 2, then 3; H 1,440 and 1,441
  pub no_header : read_of (0x00 ∷ 0x00 ∷ []) ≡ refused (code 1 (2 ∷ []))
  pub day_first : read_of (0x00 ∷ 0x00 ∷ 0x41 ∷ []) ≡ refused (code 2 (0 ∷ []))
  pub longest_day_lem : read_of (0xA0 ∷ 0x05 ∷ 0x00 ∷ []) ≡ answered (day_list (record { h = 1440; opening = 0 }) [])
  pub day_too_long : read_of (0xA1 ∷ 0x05 ∷ 0x00 ∷ []) ≡ refused (code 2 (0 ∷ []))
  -- an entry: "a missing map byte is 1"; then 4, before the fields that are missing; then 1, before a default; 5, before 6 and 7; then 6,
  -- before 7; "entry by entry"
  pub no_map : read_of (ten_minutes 1) ≡ refused (code 1 (3 ∷ []))
  pub map_first : read_of (ten_minutes 1 ++ (0x91 ∷ [])) ≡ refused (code 4 (3 ∷ []))
  -- bits 0 and 4 must stand, bits 6 and 7 are clear
  pub no_serial : read_of (ten_minutes 1 ++ (0x10 ∷ [])) ≡ refused (code 4 (3 ∷ []))
  pub no_minutes : read_of (ten_minutes 1 ++ (0x01 ∷ [])) ≡ refused (code 4 (3 ∷ []))
  pub bit_six : read_of (ten_minutes 1 ++ (0x51 ∷ [])) ≡ refused (code 4 (3 ∷ []))
  pub field_first : read_of (ten_minutes 1 ++ (0x15 ∷ 0xF5 ∷ 0x01 ∷ 0x00 ∷ 0x00 ∷ 0x00 ∷ 0x00 ∷ 0x01 ∷ [])) ≡ refused (code 1 (11 ∷ []))
  pub written_first : read_of (ten_minutes 1 ++ window_written 0 11 0) ≡ refused (code 5 (3 ∷ []))
  pub minutes_first : read_of (ten_minutes 1 ++ window_written 5 3 0) ≡ refused (code 6 (3 ∷ []))
  pub window : read_of (ten_minutes 1 ++ window_written 5 6 2) ≡ refused (code 7 (3 ∷ []))
  pub entry_first : read_of (ten_minutes 2 ++ (window_written 5 6 2 ++ (0x91 ∷ []))) ≡ refused (code 7 (3 ∷ []))
  -- 8 after all entries, with the first byte left over
  pub entries_first : read_of (ten_minutes 1 ++ (window_written 5 6 2 ++ (0x00 ∷ []))) ≡ refused (code 7 (3 ∷ []))
  pub bytes_left : read_of (ten_minutes 1 ++ (window_written 5 7 2 ++ (0x00 ∷ 0x00 ∷ []))) ≡ refused (code 8 (14 ∷ []))
  pub clash : read_of clash_bytes ≡ refused (code 14 (10 ∷ []))
  -- "after 8 when reading"
  pub left_over : read_of (clash_bytes ++ (0x00 ∷ [])) ≡ refused (code 8 (17 ∷ []))
  -- "the first in list order"
  pub two_clashes : read_of two_clashes_bytes ≡ refused (code 14 (17 ∷ []))
  -- "Windows that only touch are fine."
  pub only_touch : read_of touching_bytes ≡ answered (day_list (record { h = 10; opening = 0 }) (serial501 0 4 ∷ serial501 4 10 ∷ []))
  -- "A missing r means the opening minute"
  pub opening_meant : read_of (opens_at 7 1 ++ entry501) ≡ answered (day_list (record { h = 10; opening = 7 }) (serial501 7 10 ∷ []))
  -- "and a written r equal to it is 5"; one before it is 16, of 0 too, and one after it is read
  pub default_written_lem : read_of (opens_at 7 1 ++ released_at 7) ≡ refused (code 5 (5 ∷ []))
  pub before_opening : read_of (opens_at 7 1 ++ released_at 0) ≡ refused (code 16 (5 ∷ []))
  pub after_opening : read_of (opens_at 7 1 ++ released_at 8) ≡ answered (day_list (record { h = 10; opening = 7 }) (serial501 8 10 ∷ []))
  -- "If the two bytes are missing that is 1, after 3.": both or one of them, and 3 first, whether they are there or not
  pub minute_missing : read_of (0x0A ∷ 0x00 ∷ 0x80 ∷ []) ≡ refused (code 1 (3 ∷ []))
  pub half_missing : read_of (0x0A ∷ 0x00 ∷ 0x80 ∷ 0x07 ∷ []) ≡ refused (code 1 (4 ∷ []))
  pub too_many : read_of (0x0A ∷ 0x00 ∷ 0xC1 ∷ []) ≡ refused (code 3 (2 ∷ []))
  pub count_first : read_of (opens_at 0 65) ≡ refused (code 3 (2 ∷ []))
  -- "An opening minute written as 0, or one of H or more, is refused as 15 next, carrying 3": before the entries, of which none is there
  pub zero_written_lem : read_of (opens_at 0 1) ≡ refused (code 15 (3 ∷ []))
  pub opens_past_day : read_of (opens_at 10 1) ≡ refused (code 15 (3 ∷ []))
  -- 16 "directly after 5": a d written as H is told first; and before 6 and 7, which hold too
  pub default_first : read_of (opens_at 7 1 ++ window_written 6 10 1) ≡ refused (code 5 (5 ∷ []))
  pub opening_first : read_of (opens_at 7 1 ++ window_written 6 11 0) ≡ refused (code 16 (5 ∷ []))
