-- A stamped day as a row of numbers.
use Rattle.std.specs.Prelude.{ℕ, min, ◌≡◌, cond, List, [], ◌∷◌, ◌++◌, length, get_or, take, eqb}
use Rattle.base.specs.Outcomes.{Outcome, answered, and_then}
use Rattle.commits.specs.declared.types.StampedDay.{StampedDay}
use Rattle.flat.specs.Flat.{flat_numbers, flat_of, value_of, length_fault}

-- how many numbers say a stamped day: those of its list, then its stamp
abbrev pub day_numbers : ℕ
day_numbers = 452

abbrev pub day_row : StampedDay → List ℕ
day_row d = flat_of d.list ++ (d.stamp ∷ [])

-- the day that numbers say; a stamp too large for its field counts as the field's largest
abbrev pub day_of : List ℕ → StampedDay
day_of xs = record { list = value_of (take flat_numbers xs); stamp = min (get_or xs flat_numbers 0) 65535 }

-- row 100 for a day's row
abbrev pub day_fault : ℕ → Outcome (Unit {0})
day_fault = length_fault day_numbers

-- the day that a row says
abbrev pub day_in : List ℕ → Outcome StampedDay
day_in xs = and_then (day_fault (length xs)) (λ _. answered (day_of xs))

-- what a row that held old holds after a day was stored in it; one of another length keeps its numbers
abbrev pub day_row_after : StampedDay → List ℕ → List ℕ
day_row_after d old = cond (eqb (length old) day_numbers) (day_row d) old

-- what `put_day` leaves in a row that held old; the numbers stored say the day again
pub record StoresDay (d : StampedDay) (old new : List ℕ) : Type 0 where
  pub numbers : new ≡ day_row_after d old
  pub back : length old ≡ day_numbers → day_in new ≡ answered d
