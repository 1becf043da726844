-- What the program prints.
use Rattle.std.specs.Prelude.{ℕ, ◌≤◌, ◌<◌, ◌≡◌, List, length, take}
use Rattle.list.specs.Checks.{WellFormed}
use Rattle.format.specs.Writing.{bytes_of, read_limit}
use Rattle.list.specs.declared.types.DayList.{DayList}
use Rattle.report.specs.Reports.{printed_of}
use Rattle.report.specs.Laws.{ReportLaw}

-- "A longest list has 965 bytes and the program takes 966.": so many bytes of an input are read at most, and they are more than any list
-- has, so that bytes left over are seen
pub record InputLimit (limit : ℕ) : Type 0 where
  pub most : limit ≤ read_limit
  pub more : (l : DayList) → WellFormed l → length (bytes_of l) < limit

-- the first size bytes of a buffer are a whole text
pub record HoldsText (buffer : List ℕ) (size : ℕ) (text : List ℕ) : Type 0 where
  pub whole : size ≡ length text
  pub bytes : take size buffer ≡ text

-- what is printed for an input, the first size bytes of text: what document 01 says, and the demands hold of the numbers in these bytes
pub record PrintsFor (input text : List ℕ) (size : ℕ) : Type 0 where
  pub holds : HoldsText text size (printed_of input)
  pub law : ReportLaw input (take size text)

-- what is printed, the first size bytes of text, when the first count bytes of buffer were read
pub record Prints (buffer : List ℕ) (count : ℕ) (text : List ℕ) (size : ℕ) : Type 0 where
  pub read : HoldsText text size (printed_of (take count buffer))
  -- and so for every input, however long: these bytes are all of it, or as many of its first bytes as the buffer has
  pub all : (input : List ℕ) → take (length buffer) input ≡ take count buffer → PrintsFor input text size
