-- The number and the carried values of each case of an answer, as "Where a list is turned back" has them, and document 02 from 14 on; 100
-- is in neither.
use Rattle.std.specs.Prelude.{[], ◌∷◌, Result, Ok, Err}
use Rattle.base.specs.Outcomes.{Code, code, Outcome, answered, refused}
use Rattle.list.specs.declared.types.Refusal.{Refusal}
use Rattle.list.specs.declared.types.Refusal.TheVariants.{BytesMissing, BadDayLength, TooManyEntries, BadMapByte, DefaultWritten}
use Rattle.list.specs.declared.types.Refusal.TheVariants.{NoMinutes, BadWindow, BytesLeftOver, Overloaded, NoPlace, PlanBufferShort}
use Rattle.list.specs.declared.types.Refusal.TheVariants.{ListBufferShort, UnknownPlace, SerialClash, BadOpening}
use Rattle.list.specs.declared.types.Refusal.TheVariants.{BeforeOpening, StaleStamp, DayFull, RoomCount, BadFlatLength}

abbrev pub code_of : Refusal → Code
code_of (BytesMissing len) = code 1 (len ∷ [])
code_of BadDayLength = code 2 (0 ∷ [])
code_of (TooManyEntries at) = code 3 (at ∷ [])
code_of (BadMapByte at) = code 4 (at ∷ [])
code_of (DefaultWritten at) = code 5 (at ∷ [])
code_of (NoMinutes at) = code 6 (at ∷ [])
code_of (BadWindow at) = code 7 (at ∷ [])
code_of (BytesLeftOver at) = code 8 (at ∷ [])
code_of (Overloaded a b work) = code 9 (a ∷ b ∷ work ∷ [])
code_of (NoPlace place) = code 10 (place ∷ [])
code_of (PlanBufferShort h) = code 11 (h ∷ [])
code_of (ListBufferShort needed) = code 12 (needed ∷ [])
code_of (UnknownPlace place) = code 13 (place ∷ [])
code_of (SerialClash at) = code 14 (at ∷ [])
code_of (BadOpening at) = code 15 (at ∷ [])
code_of (BeforeOpening at) = code 16 (at ∷ [])
code_of (StaleStamp stamp) = code 17 (stamp ∷ [])
code_of (DayFull stamp) = code 18 (stamp ∷ [])
code_of (RoomCount rooms) = code 19 (rooms ∷ [])
code_of (BadFlatLength numbers) = code 100 (numbers ∷ [])

-- a call's answer: what it was asked for, or a refusal
abbrev pub outcome_of : {A : Type 0} → Result A Refusal → Outcome A
outcome_of (Ok a) = answered a
outcome_of (Err x) = refused (code_of x)
