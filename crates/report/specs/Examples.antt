-- Document 01's examples of reports, one of document 02's row 14, and rooms that open after midnight, as one statement;
-- `report_examples` of proofs/Examples.antt proves it.
use Rattle.std.specs.Prelude.{ℕ, ◌≡◌, List, [], ◌∷◌, ◌++◌}
use Rattle.base.specs.Outcomes.{code, Outcome, answered, refused}
use Rattle.format.specs.Examples.{clash_bytes, opens_at, released_at}
use Rattle.report.specs.Text.{ascii}
use Rattle.report.specs.Reports.{report_of, printed_of}

-- "Input `0C 00 03 | 11 F5 01 00 00 04 00 | ..`"
abbrev pub day_bytes : List ℕ
day_bytes =
    (0x0C ∷ 0x00 ∷ 0x03 ∷ [])
    ++ ((0x11 ∷ 0xF5 ∷ 0x01 ∷ 0x00 ∷ 0x00 ∷ 0x04 ∷ 0x00 ∷ [])
    ++ ((0x3F ∷ 0xF6 ∷ 0x01 ∷ 0x00 ∷ 0x00 ∷ 0x4D ∷ 0x00 ∷ 0x00 ∷ 0x00 ∷ 0x02 ∷ 0x00 ∷ 0x08 ∷ 0x00 ∷ 0x03 ∷ 0x00 ∷ [])
    ++ (0x1F ∷ 0xF7 ∷ 0x01 ∷ 0x00 ∷ 0x00 ∷ 0x4E ∷ 0x00 ∷ 0x00 ∷ 0x00 ∷ 0x03 ∷ 0x00 ∷ 0x06 ∷ 0x00 ∷ 0x02 ∷ 0x00 ∷ [])))

-- "prints exactly"
abbrev pub day_lines : List ℕ
day_lines =
    ascii "day 12 entries 3 moves 1 broken 0\n"
    ++ (ascii "0 501 - pause 0 12 4 9 8\n"
    ++ (ascii "1 502 77 whole 5 8 3 8 5\n"
    ++ (ascii "2 503 78 pause 3 6 2 5 3\n"
    ++ (ascii "0 3 0\n" ++ (ascii "3 5 2\n" ++ (ascii "5 8 1\n" ++ ascii "8 9 0\n"))))))

-- H 12, an entry of 13 minutes
abbrev pub bad_window_bytes : List ℕ
bad_window_bytes = (0x0C ∷ 0x00 ∷ 0x01 ∷ []) ++ (0x11 ∷ 0xF5 ∷ 0x01 ∷ 0x00 ∷ 0x00 ∷ 0x0D ∷ 0x00 ∷ [])

-- "(c) H 10, [2,5) p 2 twice"
abbrev pub overloaded_bytes : List ℕ
overloaded_bytes =
    (0x0A ∷ 0x00 ∷ 0x02 ∷ [])
    ++ ((0x1D ∷ 0x05 ∷ 0x00 ∷ 0x00 ∷ 0x00 ∷ 0x02 ∷ 0x00 ∷ 0x05 ∷ 0x00 ∷ 0x02 ∷ 0x00 ∷ [])
    ++ (0x1D ∷ 0x06 ∷ 0x00 ∷ 0x00 ∷ 0x00 ∷ 0x02 ∷ 0x00 ∷ 0x05 ∷ 0x00 ∷ 0x02 ∷ 0x00 ∷ []))

-- "(e) H 6, whole [0,6) p 3, pause [2,4) p 2"
abbrev pub no_place_bytes : List ℕ
no_place_bytes =
    (0x06 ∷ 0x00 ∷ 0x02 ∷ [])
    ++ ((0x31 ∷ 0x0C ∷ 0x00 ∷ 0x00 ∷ 0x00 ∷ 0x03 ∷ 0x00 ∷ [])
    ++ (0x1D ∷ 0x0D ∷ 0x00 ∷ 0x00 ∷ 0x00 ∷ 0x02 ∷ 0x00 ∷ 0x04 ∷ 0x00 ∷ 0x02 ∷ 0x00 ∷ []))

-- H 10, the room opens at 3: a whole entry of 4 minutes whose r is missing
abbrev pub opening_bytes : List ℕ
opening_bytes = opens_at 3 1 ++ (0x31 ∷ 0xF5 ∷ 0x01 ∷ 0x00 ∷ 0x00 ∷ 0x04 ∷ 0x00 ∷ [])

-- the opening minute is not printed, and the minutes are counted from midnight
abbrev pub opening_lines : List ℕ
opening_lines = ascii "day 10 entries 1 moves 0 broken 0\n" ++ (ascii "0 501 - whole 3 10 4 7 6\n" ++ ascii "3 7 0\n")

-- an input's text or refusal, and what is printed for it
pub record Example (input : List ℕ) (o : Outcome (List ℕ)) (text : List ℕ) : Type 0 where
  pub report : report_of input ≡ o
  pub prints : printed_of input ≡ text

-- "Refusals print as `refused 7 at 3` .., `refused 9 from 2 to 5 work 4`, `refused 10 entry 0`."
pub record ReportExamples : Type 0 where
  pub day : Example day_bytes (answered day_lines) day_lines
  pub bad_window : Example bad_window_bytes (refused (code 7 (3 ∷ []))) (ascii "refused 7 at 3\n")
  pub overloaded : Example overloaded_bytes (refused (code 9 (2 ∷ 5 ∷ 4 ∷ []))) (ascii "refused 9 from 2 to 5 work 4\n")
  pub no_place : Example no_place_bytes (refused (code 10 (0 ∷ []))) (ascii "refused 10 entry 0\n")
  pub clash : Example clash_bytes (refused (code 14 (10 ∷ []))) (ascii "refused 14 at 10\n")
  pub opening : Example opening_bytes (answered opening_lines) opening_lines
  pub opens_past_day : Example (opens_at 10 0) (refused (code 15 (3 ∷ []))) (ascii "refused 15 at 3\n")
  pub before_opening : Example (opens_at 7 1 ++ released_at 2) (refused (code 16 (5 ∷ []))) (ascii "refused 16 at 5\n")
