-- The header, read and written: "day length H in minutes (2 bytes ..), number of entries n (1 byte ..)", and document 02's opening minute.
use Rattle.std.specs.Prelude.{ℕ, ◌+◌, ◌%◌, Bool, cond, not, ◌&&◌, List, [], ◌∷◌, ◌++◌, length, get_or, eqb, ltb}
use Rattle.base.specs.Outcomes.{Row, row}
use Rattle.format.specs.LittleEndian.{u16_at, u16_bytes}
use Rattle.format.specs.Maps.{bit}
use Rattle.format.specs.Forms.{minute_bytes}
use Rattle.list.specs.declared.types.Frame.{Frame}

-- "Bit 7 of the count byte now says that two bytes with the opening minute follow the header"
abbrev pub opening_written : List ℕ → Bool
opening_written bs = bit 7 (get_or bs 2 0)

-- "bits 0 to 6 are n"
abbrev pub count_of : List ℕ → ℕ
count_of bs = get_or bs 2 0 % 128

-- "Without it the opening minute is 0."
abbrev pub frame_of : List ℕ → Frame
frame_of bs = record { h = u16_at bs 0; opening = cond (opening_written bs) (u16_at bs 3) 0 }

-- the bytes of a header without an opening minute, and with one
abbrev pub header_size : Bool → ℕ
header_size written = 3 + cond written 2 0

-- the place at which the entries of an input begin
abbrev pub entries_place : List ℕ → ℕ
entries_place bs = header_size (opening_written bs)

-- an opening minute is written, as 0
abbrev pub zero_written : List ℕ → Bool
zero_written bs = opening_written bs && eqb (frame_of bs).opening 0

-- "If the two bytes are missing that is 1, after 3. An opening minute written as 0, .. is refused as 15 next, carrying 3"
abbrev pub opening_rows : List ℕ → List Row
opening_rows bs = row 1 (ltb (length bs) (entries_place bs)) (length bs) ∷ row 15 (zero_written bs) 3 ∷ []

-- the room opens after midnight; an opening minute of 0 is none, and is not written
abbrev pub opens_later : Frame → Bool
opens_later f = not (eqb f.opening 0)

-- the count byte: n, and bit 7 if an opening minute follows
abbrev pub count_byte : Bool → ℕ → ℕ
count_byte written n = n + cond written 128 0

-- a header's one form
unfoldable pub header_bytes : Frame → ℕ → List ℕ
header_bytes f n = u16_bytes f.h ++ (count_byte (opens_later f) n ∷ minute_bytes (opens_later f) f.opening)
