-- What `report` and `refusal_line` promise.
use Rattle.std.specs.Prelude.{ℕ, ◌<◌, ◌≤◌, ◌≡◌, List, [], ◌∷◌, ◌++◌, length, take, drop, Result}
use Rattle.base.specs.Outcomes.{Code, code, Outcome, answered, refused, and_then}
use Rattle.list.specs.Refusals.{outcome_of}
use Rattle.format.specs.Writing.{read_limit, storing, stored}
use Rattle.list.specs.declared.types.Refusal.{Refusal}
use Rattle.codes.specs.declared.RefusalCode.{RefusalCode}
use Rattle.report.specs.Reports.{refusal_line, report_of}

-- A text, or a refusal, for a buffer of the length given: how many bytes are stored, or why none is. Row 12 is tested last: a list that is
-- turned back has no text, and so needs no bytes.
abbrev pub store_of : Outcome (List ℕ) → ℕ → Outcome ℕ
store_of o room = and_then o (λ text. storing text room)

-- the buffer afterwards: the text and the bytes after it as they were; "A refusal writes nothing to any lent buffer."
abbrev pub text_after : Outcome (List ℕ) → List ℕ → List ℕ
text_after (answered text) old = stored (storing text (length old)) text old
text_after (refused k) old = old

-- the same in facts: `text_law` of proofs/TextLaws.antt
pub record TextLaw (o : Outcome (List ℕ)) (old : List ℕ) : Type 0 where
  pub before : (k : Code) → o ≡ refused k → store_of o (length old) ≡ refused k
  pub short : (text : List ℕ) → o ≡ answered text → length old < length text
      → store_of o (length old) ≡ refused (code 12 (length text ∷ []))
  pub fits : (text : List ℕ) → o ≡ answered text → length text ≤ length old
      → (store_of o (length old) ≡ answered (length text)) × (text_after o old ≡ text ++ drop (length text) old)
  pub stays : (k : Code) → store_of o (length old) ≡ refused k → text_after o old ≡ old

-- what a call answers of a text, or of a refusal, and leaves in a buffer that held old
pub record StoresText (o : Outcome (List ℕ)) (old : List ℕ) (a : Result ℕ Refusal) (new : List ℕ) : Type 0 where
  pub outcome : outcome_of a ≡ store_of o (length old)
  pub buffer : new ≡ text_after o old

-- room for the text of every day: REPORT_BYTES of src/lib.rt
abbrev pub enough : ℕ
enough = 22352

-- what `report` answers of the input bs, and leaves in a buffer that held old
pub record Reports (bs old : List ℕ) (a : Result ℕ Refusal) (new : List ℕ) : Type 0 where
  pub stores : StoresText (report_of bs) old a new
  -- so a buffer of this length is never too short
  pub room : (text : List ℕ) → report_of bs ≡ answered text → length text ≤ enough
  -- "A longest list has 965 bytes and the program takes 966.": where bs are the first bytes of an input, 966 or more, this is its report
  -- too
  pub first_bytes : (limit : ℕ) → read_limit ≤ limit → (input : List ℕ) → take limit input ≡ bs → report_of input ≡ report_of bs

-- the line of a refusal's number and values
abbrev pub line_of : RefusalCode → List ℕ
line_of c = refusal_line (code c.number c.values)

-- room for every refusal's line: REFUSAL_BYTES of src/lib.rt
abbrev pub line_enough : ℕ
line_enough = 86

-- what `refusal_line` answers of a refusal's number and values, and leaves in a buffer that held old
pub record StoresLine (c : RefusalCode) (old : List ℕ) (a : Result ℕ Refusal) (new : List ℕ) : Type 0 where
  pub stores : StoresText (answered (line_of c)) old a new
  -- so a buffer of this length is never too short
  pub room : length (line_of c) ≤ line_enough
