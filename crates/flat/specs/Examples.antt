-- The layout of a row, number by number, stored and read, the length of the layout before lists had an opening minute, and a stamped
-- day's row; `flat_examples` of proofs/Examples.antt proves it.
use Rattle.std.specs.Prelude.{◌≡◌, [], ◌∷◌, ◌++◌, take, drop, None, Some}
use Rattle.base.specs.Outcomes.{code, refused}
use Rattle.list.specs.DayLists.{day_list}
use Rattle.list.specs.declared.types.Kind.TheVariants.{Pause, Whole}
use Rattle.list.specs.declared.types.DayList.{DayList}
use Rattle.flat.specs.Flat.{flat_of, entry_in, value_of, flat_fault}
use Rattle.flat.specs.DayRows.{day_row, day_of, day_fault}

-- H 10, a room that opens at 7, and one entry
abbrev pub opened_day : DayList
opened_day = day_list (record { h = 10; opening = 7 }) (record { serial = 501; seal = Some 77; r = 8; d = 9; p = 1; kind = Whole } ∷ [])

pub record FlatExamples : Type 0 where
  -- H, n, the opening minute; serial, 1 for a seal, its number, r, d, p, 1 for whole; and the next place, which has no seal and is pause
  pub layout : take 17 (flat_of opened_day)
      ≡ 10 ∷ 1 ∷ 7 ∷ 501 ∷ 1 ∷ 77 ∷ 8 ∷ 9 ∷ 1 ∷ 1 ∷ 0 ∷ 0 ∷ 0 ∷ 0 ∷ 0 ∷ 0 ∷ 0 ∷ []
  -- read: a number too large for its field is the field's largest, which the rules turn back, and any flag but 0 stands
  pub large_frame : (value_of (70000 ∷ 320 ∷ 70001 ∷ [])).frame ≡ record { h = 65535; opening = 65535 }
  pub large_count : (value_of (70000 ∷ 320 ∷ 70001 ∷ [])).n ≡ 255
  pub large_entry : entry_in (70001 ∷ 2 ∷ 77 ∷ 70002 ∷ 70003 ∷ 70004 ∷ 3 ∷ []) 0
      ≡ record { serial = 70001; seal = Some 77; r = 65535; d = 65535; p = 65535; kind = Whole }
  -- a seal's number counts only where its flag stands
  pub no_seal : entry_in (501 ∷ 0 ∷ 77 ∷ 8 ∷ 9 ∷ 1 ∷ 0 ∷ []) 0 ≡ record { serial = 501; seal = None; r = 8; d = 9; p = 1; kind = Pause }
  -- a stamped day: the list's numbers, then the stamp; a stamp too large for its field is the field's largest
  pub day_list_lem : take 451 (day_row (record { list = opened_day; stamp = 3 })) ≡ flat_of opened_day
  pub day_stamp : drop 451 (day_row (record { list = opened_day; stamp = 3 })) ≡ 3 ∷ []
  pub large_stamp : (day_of (flat_of opened_day ++ (70000 ∷ []))).stamp ≡ 65535
  pub list_length : day_fault 451 ≡ refused (code 100 (452 ∷ []))
  pub former_length : flat_fault 450 ≡ refused (code 100 (451 ∷ []))
