-- A stamped day's row: stored, and read again.
-- Assumes nothing.
use mathlib.Core.Path.{◌≡◌, sym, ap, ◌∙◌}
use mathlib.Core.List.{List, [], ◌∷◌, ◌++◌}
use Prim.Native.Nat.{ℕ, ◌<◌, min}
use native.Mathlib.Omega.{arith}
use borrow.Author.Tests.{eq-eqb, ne_eqb}
use lib.ListN.{length, get_or, take, drop, set, length-set, length-append, length-drop}
use lib.Seq.{length-take-le, take_all, take_at, take-suc-set, get_or_at}
use Rattle.base.specs.Outcomes.{answered}
use Rattle.list.specs.Machine.{NumbersFit}
use Rattle.list.specs.declared.types.DayList.{DayList}
use Rattle.commits.specs.declared.types.StampedDay.{StampedDay}
use Rattle.flat.specs.Flat.{flat_numbers, flat_of, value_of}
use Rattle.flat.specs.DayRows.{day_numbers, day_row, day_in, StoresDay}
use Rattle.flat.proofs.FlatCases.{flat_length}
use Rattle.flat.proofs.FlatTrip.{value_back}

-- the numbers of the list in a day's row
pub front_long : (xs : List ℕ) → length xs ≡ day_numbers → length (take flat_numbers xs) ≡ flat_numbers
front_long xs long = length-take-le flat_numbers xs (omega (arith, long))

row_long : (l : DayList) → length l.entries ≡ 64 → length (flat_of l) ≡ flat_numbers
row_long l long = omega (arith, flat_length l.entries)

-- the list's numbers, then the stamp
pub day_stored : (d : StampedDay) (old front : List ℕ) → length d.list.entries ≡ 64 → length old ≡ day_numbers → front ≡ flat_of d.list
    → set (front ++ drop flat_numbers old) flat_numbers d.stamp ≡ day_row d
day_stored d old front entries long e =
    sym (take_all day_numbers (set row flat_numbers d.stamp) (omega (arith, length-set row flat_numbers d.stamp, all)))
    ∙ take-suc-set row flat_numbers d.stamp (omega (arith, all))
    ∙ ap (λ (xs : List ℕ). xs ++ (d.stamp ∷ [])) (take_at front (drop flat_numbers old) flat_numbers size ∙ e)
  where
    row : List ℕ
    row = front ++ drop flat_numbers old

    size : length front ≡ flat_numbers
    size = ap length e ∙ row_long d.list entries

    all : length row ≡ day_numbers
    all = length-append front (drop flat_numbers old) ∙ omega (arith, size, length-drop flat_numbers old, long)

-- the numbers stored say the day again
module _ (d : StampedDay) (fits : NumbersFit d.list) (stamp : d.stamp < 65536) where
  day_back : day_in (day_row d) ≡ answered d
  day_back =
      rw (eq-eqb (length (day_row d)) day_numbers (length-append (flat_of d.list) (d.stamp ∷ []) ∙ omega (arith, size)))
      (λ j. answered (record { list = list j; stamp = number j }))
    where
      size : length (flat_of d.list) ≡ flat_numbers
      size = row_long d.list fits.long

      list : value_of (take flat_numbers (day_row d)) ≡ d.list
      list = ap value_of (take_at (flat_of d.list) (d.stamp ∷ []) flat_numbers size) ∙ value_back d.list fits

      number : min (get_or (day_row d) flat_numbers 0) 65535 ≡ d.stamp
      number = omega (arith, get_or_at (flat_of d.list) d.stamp [] 0 flat_numbers size, stamp)

  pub day_put : (old new : List ℕ) → length old ≡ day_numbers → new ≡ day_row d → StoresDay d old new
  day_put old new h q = record { numbers = rw (eq-eqb _ _ h, q); back = λ _. ap day_in q ∙ day_back }

pub day_kept : (d : StampedDay) (old : List ℕ) → (length old ≡ day_numbers → ⊥) → StoresDay d old old
day_kept d old h = record { numbers = rw (ne_eqb _ _ h); back = λ long. absurd (h long) }
