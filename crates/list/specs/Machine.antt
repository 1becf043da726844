-- What the machine's types say of every byte slice and of every list value; the theorems on writing and reading, and on rows of numbers,
-- speak of these.
use Rattle.std.specs.Prelude.{ℕ, ◌<◌, ◌^◌, ◌≡◌, List, length, get_or, None, Option, Some}
use Rattle.list.specs.DayLists.{most_entries, blank}
use Rattle.list.specs.declared.types.Entry.{Entry}
use Rattle.list.specs.declared.types.DayList.{DayList}

-- every element is a byte (past the end stands 0)
abbrev pub Bytes : List ℕ → Type 0
Bytes bs = (i : ℕ) → get_or bs i 0 < 256

-- the seal's number, if it is one, has 32 bits
abbrev pub SealFits : Option ℕ → Type 0
SealFits None = Unit {0}
SealFits (Some x) = x < 2 ^ 32

-- an entry's minutes have 16 bits
pub record MinutesFit (e : Entry) : Type 0 where
  pub r : e.r < 2 ^ 16
  pub d : e.d < 2 ^ 16
  pub p : e.p < 2 ^ 16

-- an entry at each place, whose serials and seals have 32 bits
pub record Typed (l : DayList) : Type 0 where
  pub long : length l.entries ≡ most_entries
  pub serial : (i : ℕ) → (get_or l.entries i blank).serial < 2 ^ 32
  pub seal : (i : ℕ) → SealFits (get_or l.entries i blank).seal

-- an entry at each place; minutes have 16 bits, and the number of entries has 8
pub record NumbersFit (l : DayList) : Type 0 where
  pub h : l.frame.h < 2 ^ 16
  pub opening : l.frame.opening < 2 ^ 16
  pub n : l.n < 2 ^ 8
  pub long : length l.entries ≡ most_entries
  pub minutes : (i : ℕ) → MinutesFit (get_or l.entries i blank)
