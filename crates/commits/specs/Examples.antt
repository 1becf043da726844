-- A day of six minutes for which two more boxes are phoned in, and days at the limits; `commit_examples` of proofs/Examples.antt proves
-- them.
use Rattle.std.specs.Prelude.{ℕ, ◌≡◌, [], ◌∷◌, replicate}
use Rattle.base.specs.Outcomes.{code, answered, refused}
use Rattle.list.specs.DayLists.{blank}
use Rattle.list.specs.declared.types.Entry.{Entry}
use Rattle.list.specs.declared.types.DayList.{DayList}
use Rattle.jackson.specs.Minutes.{schedule}
use Rattle.narrow.specs.Calls.{listed}
use Rattle.planner.specs.Calls.{settled_or}
use Rattle.planner.specs.Examples.{pause_entry, whole_entry, day}
use Rattle.commits.specs.Days.{with_entry}
use Rattle.commits.specs.Calls.{fresh_of, empty_day, ask_of, commit_of, day_after}
use Rattle.commits.specs.declared.types.StampedDay.{StampedDay}

-- the list in the morning, with serials 1 and 2, and two late boxes, serials 3 and 4
abbrev pub morning : DayList
morning = day 6 (pause_entry 1 0 6 2 ∷ whole_entry 2 1 4 2 ∷ [])

abbrev pub third : Entry
third = whole_entry 3 2 6 2

abbrev pub fourth : Entry
fourth = pause_entry 4 0 6 1

-- the fresh day, and the day after the commit of serial 3
abbrev pub day_zero : StampedDay
day_zero = record { list = morning; stamp = 0 }

abbrev pub day_one : StampedDay
day_one = record { list = day 6 (pause_entry 1 0 6 2 ∷ whole_entry 2 1 4 2 ∷ whole_entry 3 2 6 2 ∷ []); stamp = 1 }

-- a day that no call makes: H 0, and n entries
abbrev pub bad_day : ℕ → StampedDay
bad_day n = record { list = record { frame = record { h = 0; opening = 0 }; n = n; entries = replicate 64 blank }; stamp = 3 }

-- another: the list in the morning with the largest stamp
abbrev pub last_day : StampedDay
last_day = record { list = morning; stamp = 65535 }

pub record CommitExamples : Type 0 where
  pub fresh : fresh_of morning ≡ answered day_zero
  pub beside : empty_day ≡ record { list = day 0 []; stamp = 0 }
  pub not_planned : fresh_of (day 1 (pause_entry 1 0 1 1 ∷ pause_entry 2 0 1 1 ∷ [])) ≡ refused (code 9 (0 ∷ 1 ∷ 2 ∷ []))
  -- asking for serial 3, which is narrowed to [3, 6), in one move
  pub asks : listed (with_entry morning third) (ask_of day_zero third 6)
      ≡ answered (day 6 (pause_entry 1 0 6 2 ∷ whole_entry 2 1 4 2 ∷ whole_entry 3 3 6 2 ∷ []), 1)
  pub plan : settled_or [] schedule (ask_of day_zero third 6) ≡ 0 ∷ 1 ∷ 1 ∷ 0 ∷ 2 ∷ 2 ∷ []
  -- another dispatcher asks for serial 4, which would have its minute
  pub asks_fourth : settled_or [] schedule (ask_of day_zero fourth 6) ≡ 2 ∷ 1 ∷ 1 ∷ 0 ∷ 0 ∷ 255 ∷ []
  -- committing serial 3 with the stamp answered: the entry is appended as it was given
  pub commits : day_after day_zero third (commit_of day_zero third 0 6) ≡ day_one
  -- the other dispatcher, who asked before that commit, has the stamp 0
  pub stale : commit_of day_one fourth 0 6 ≡ refused (code 17 (1 ∷ []))
  -- with the stamp 1 there is no plan any more, and the day stays
  pub no_plan : commit_of day_one fourth 1 6 ≡ refused (code 9 (0 ∷ 6 ∷ 7 ∷ []))
  pub stays : day_after day_one fourth (commit_of day_one fourth 1 6) ≡ day_one
  -- a short buffer is no success
  pub short : commit_of day_zero third 0 5 ≡ refused (code 11 (6 ∷ []))
  -- the new entry is at place 2
  pub no_minutes : ask_of day_zero (whole_entry 3 2 6 0) 6 ≡ refused (code 6 (2 ∷ []))
  pub past_day : ask_of day_zero (whole_entry 3 2 7 2) 6 ≡ refused (code 7 (2 ∷ []))
  pub clashes : ask_of day_zero (whole_entry 2 3 6 2) 6 ≡ refused (code 14 (2 ∷ []))
  -- 17 before all else, then 18 for 64 entries or more, before the longer list's 2
  pub stale_first : commit_of (bad_day 64) third 4 0 ≡ refused (code 17 (3 ∷ []))
  pub then_full : commit_of (bad_day 64) third 3 0 ≡ refused (code 18 (3 ∷ []))
  pub full_ask : ask_of (bad_day 64) third 0 ≡ refused (code 18 (3 ∷ []))
  pub over_full : ask_of (bad_day 255) third 0 ≡ refused (code 18 (3 ∷ []))
  pub then_longer : ask_of (bad_day 63) third 0 ≡ refused (code 2 (0 ∷ []))
  -- at 65,535 the stamp stays
  pub largest : day_after last_day third (commit_of last_day third 65535 6) ≡ record { list = day_one.list; stamp = 65535 }
