-- What the public calls promise, each part by equality with a definition; `back` is the round trip.
use Rattle.std.specs.Prelude.{ℕ, ◌≡◌, List, length, take, Result}
use Rattle.base.specs.Outcomes.{answered}
use Rattle.list.specs.Refusals.{outcome_of}
use Rattle.list.specs.DayLists.{SameList}
use Rattle.list.specs.Checks.{WellFormed}
use Rattle.format.specs.Reading.{read_of}
use Rattle.format.specs.Laws.{ReadLaw}
use Rattle.format.specs.Writing.{bytes_of, write_of, buffer_after}
use Rattle.list.specs.declared.types.DayList.{DayList}
use Rattle.list.specs.declared.types.Refusal.{Refusal}

-- what `read` answers of the bytes bs; a list read is well-formed, so that `write` accepts it, and the bytes are its one form; the law says
-- which places refusals carry, and when 14 is given
pub record Reads (bs : List ℕ) (a : Result DayList Refusal) : Type 0 where
  pub outcome : outcome_of a ≡ read_of bs
  pub back : (l : DayList) → read_of bs ≡ answered l → WellFormed l × (bytes_of l ≡ bs)
  pub law : ReadLaw bs

-- what `write` answers of the list l and a buffer that held old, and what the buffer holds then; the bytes written read back as the list
pub record Writes (l : DayList) (old : List ℕ) (a : Result ℕ Refusal) (new : List ℕ) : Type 0 where
  pub outcome : outcome_of a ≡ write_of l (length old)
  pub buffer : new ≡ buffer_after (write_of l (length old)) l old
  pub back : (count : ℕ) → write_of l (length old) ≡ answered count → (b : DayList) × (read_of (take count new) ≡ answered b) × SameList b l
