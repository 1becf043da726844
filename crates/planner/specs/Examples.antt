-- Document 01's examples, (a) to (h), "a lone joint assertion about the meanings themselves", and days on which document 02's tie rule
-- decides.
use Rattle.std.specs.Prelude.{ℕ, ◌≤◌, ◌≡◌, List, [], ◌∷◌, ◌++◌, map, get_or, None}
use Rattle.base.specs.Outcomes.{Outcome, answered, refused, code}
use Rattle.list.specs.DayLists.{entries_of, day_list, whole_in}
use Rattle.format.specs.Reading.{read_of}
use Rattle.list.specs.declared.types.Kind.TheVariants.{Pause, Whole}
use Rattle.list.specs.declared.types.Entry.{Entry}
use Rattle.list.specs.declared.types.DayList.{DayList}
use Rattle.windows.specs.Windows.{Windows, windows_of}
use Rattle.windows.specs.Plans.{Plan, IsEnd, IsStart}
use Rattle.jackson.specs.Minutes.{schedule}
use Rattle.narrow.specs.Calls.{settle_of, round_of, listed}
use Rattle.bounds.specs.ShownPlans.{shown_plan}
use Rattle.bounds.specs.declared.types.Shown.{Shown}
use Rattle.bounds.specs.declared.types.Shown.TheVariants.{Early, Late}
use Rattle.planner.specs.Calls.{settled_or, planning, ends_of, starts_of, broken_of, shown_of}

-- entries without a seal, by serial, r, d and p
abbrev pub pause_entry : ℕ → ℕ → ℕ → ℕ → Entry
pause_entry serial r d p = record { serial = serial; seal = None; r = r; d = d; p = p; kind = Pause }

abbrev pub whole_entry : ℕ → ℕ → ℕ → ℕ → Entry
whole_entry serial r d p = record { serial = serial; seal = None; r = r; d = d; p = p; kind = Whole }

-- the list with these entries on a day of h minutes
abbrev pub day : ℕ → List Entry → DayList
day h es = day_list (record { h = h; opening = 0 }) es

abbrev pub serials_of : DayList → List ℕ
serials_of l = map (λ (e : Entry). e.serial) (entries_of l)

-- the plan's bytes
abbrev pub planned_bytes : DayList → List ℕ
planned_bytes l = settled_or [] schedule (planning l)

-- narrowing the list, and planning it, give o: the list with the settled windows and the moves, or a refusal
pub record Gives (l : DayList) (o : Outcome (DayList × ℕ)) : Type 0 where
  pub narrowed : listed l (settle_of l) ≡ o
  pub planned : listed l (planning l) ≡ o

-- e is the least end of entry k, s its greatest start, over all plans in the windows w
pub record IsLeastEnd (w : Windows) (k e : ℕ) : Type 0 where
  pub bound : (m : ℕ → ℕ) → Plan w m → (x : ℕ) → IsEnd w.h m k x → e ≤ x
  pub reached : (m : ℕ → ℕ) × Plan w m × IsEnd w.h m k e

pub record IsGreatestStart (w : Windows) (k s : ℕ) : Type 0 where
  pub bound : (m : ℕ → ℕ) → Plan w m → (x : ℕ) → IsStart w.h m k x → x ≤ s
  pub reached : (m : ℕ → ℕ) × Plan w m × IsStart w.h m k s

-- (a) as given, after round one, and after round two
abbrev pub list_a : DayList
list_a = day 4 (whole_entry 1 0 3 2 ∷ whole_entry 2 0 4 2 ∷ [])

abbrev pub list_a1 : DayList
list_a1 = day 4 (whole_entry 1 0 3 2 ∷ whole_entry 2 2 4 2 ∷ [])

abbrev pub list_a2 : DayList
list_a2 = day 4 (whole_entry 1 0 2 2 ∷ whole_entry 2 2 4 2 ∷ [])

abbrev pub list_b : DayList
list_b = day 4 (whole_entry 3 0 3 2 ∷ pause_entry 4 0 4 2 ∷ [])

-- (c) with p 2 twice, and with p 2 and 1
abbrev pub list_c : DayList
list_c = day 10 (pause_entry 5 2 5 2 ∷ pause_entry 6 2 5 2 ∷ [])

abbrev pub list_c1 : DayList
list_c1 = day 10 (pause_entry 7 2 5 2 ∷ pause_entry 8 2 5 1 ∷ [])

abbrev pub list_d : DayList
list_d = day 4 (pause_entry 9 0 4 2 ∷ pause_entry 10 2 4 2 ∷ pause_entry 11 2 4 1 ∷ [])

abbrev pub list_e : DayList
list_e = day 6 (whole_entry 12 0 6 3 ∷ pause_entry 13 2 4 2 ∷ [])

abbrev pub list_f : DayList
list_f = day 6 (pause_entry 14 1 6 2 ∷ pause_entry 15 0 6 3 ∷ [])

abbrev pub list_g : DayList
list_g = day 6 (pause_entry 16 1 5 2 ∷ pause_entry 17 0 6 3 ∷ [])

-- (h)'s bytes, and the list that they say
abbrev pub bytes_h : List ℕ
bytes_h = 1 ∷ 0 ∷ 0 ∷ []

abbrev pub list_h : DayList
list_h = day 1 []

-- the examples
pub record PlanExamples : Type 0 where
  -- "serials all differ"
  pub serials : serials_of list_a ++ serials_of list_b ++ serials_of list_c ++ serials_of list_c1 ++ serials_of list_d
      ++ serials_of list_e ++ serials_of list_f ++ serials_of list_g ++ serials_of list_h
      ≡ 1 ∷ 2 ∷ 3 ∷ 4 ∷ 5 ∷ 6 ∷ 7 ∷ 8 ∷ 9 ∷ 10 ∷ 11 ∷ 12 ∷ 13 ∷ 14 ∷ 15 ∷ 16 ∷ 17 ∷ []
  -- "(a) both whole, H 4, [0,3) p 2 and [0,4) p 2: settled [0,2) and [2,4), 1 move in each of rounds one and two, none in round three":
  -- round one leaves [0,3) and [2,4), round two [0,2) and [2,4)
  pub a_round_one : listed list_a (round_of list_a) ≡ answered (list_a1, 1)
  pub a_round_two : listed list_a1 (round_of list_a1) ≡ answered (list_a2, 1)
  pub a_round_three : listed list_a2 (round_of list_a2) ≡ answered (list_a2, 0)
  pub a_settled : Gives list_a (answered (list_a2, 2))
  -- "(b) the same, second entry pause: no move; its least end is 4, greatest start 2."
  pub b_no_move : Gives list_b (answered (list_b, 0))
  pub b_least_end : IsLeastEnd (windows_of list_b) 1 4
  pub b_greatest_start : IsGreatestStart (windows_of list_b) 1 2
  pub b_end_answered : get_or (ends_of (whole_in list_b) (planning list_b)) 1 0 ≡ 4
  pub b_start_answered : get_or (starts_of (whole_in list_b) (planning list_b)) 1 0 ≡ 2
  -- "(c) H 10, [2,5) p 2 twice: 9, from 2 to 5, work 4. With p 2 and 1: accepted."
  pub c_refused : Gives list_c (refused (code 9 (2 ∷ 5 ∷ 4 ∷ [])))
  pub c_accepted : Gives list_c1 (answered (list_c1, 0))
  -- "(d) H 4, [0,4) p 2, [2,4) p 2, [2,4) p 1: 9, from 2 to 4, work 3."
  pub d_refused : Gives list_d (refused (code 9 (2 ∷ 4 ∷ 3 ∷ [])))
  -- "(e) H 6, whole [0,6) p 3, pause [2,4) p 2: 10, entry 0."
  pub e_refused : Gives list_e (refused (code 10 (0 ∷ [])))
  -- "(f) H 6, pause [1,6) p 2, pause [0,6) p 3: place 1 has minutes 0 to 2, place 0 has 3 and 4."
  pub f_accepted : Gives list_f (answered (list_f, 0))
  pub f_plan : planned_bytes list_f ≡ 1 ∷ 1 ∷ 1 ∷ 0 ∷ 0 ∷ 255 ∷ []
  -- "(g) as (f), place 0 with d 5: place 1 at 0, place 0 at 1 and 2, place 1 at 3 and 4."
  pub g_accepted : Gives list_g (answered (list_g, 0))
  pub g_plan : planned_bytes list_g ≡ 1 ∷ 0 ∷ 0 ∷ 1 ∷ 1 ∷ 255 ∷ []
  -- "(h) `01 00 00`: accepted, one idle minute."
  pub h_read : read_of bytes_h ≡ answered list_h
  pub h_accepted : Gives list_h (answered (list_h, 0))
  pub h_plan : planned_bytes list_h ≡ 255 ∷ []

-- Document 02, request 2.

-- the plan shown of place k, with a buffer of H bytes
abbrev pub shown_bytes : Shown → DayList → ℕ → List ℕ
shown_bytes x l k = settled_or [] (shown_plan x (whole_in l) k) (shown_of l k l.frame.h)

-- the plan of the list is these bytes, and breaks so many entries
pub record PlannedAs (l : DayList) (bytes : List ℕ) (count : ℕ) : Type 0 where
  pub plan : planned_bytes l ≡ bytes
  pub broken : broken_of (whole_in l) (planning l) ≡ count

-- "When several boxes share the smallest latest minute and the running box is not among them, take the one with the fewest minutes left,
-- then the lowest place." The first five are of the smallest days, by minutes and then by entries, on which this and the rule before
-- it, the lowest place among equals, differ: in the plan, in an early and in a late plan, and in the broken entries, which may be more or
-- fewer.
pub record TieExamples : Type 0 where
  -- before: 0 0 1
  pub fewest_left : planned_bytes (day 3 (pause_entry 1 0 3 2 ∷ pause_entry 2 0 3 1 ∷ [])) ≡ 1 ∷ 0 ∷ 0 ∷ []
  -- place 2's early plan; before: 2 0 0 1
  pub early : shown_bytes Early (day 4 (whole_entry 1 0 4 2 ∷ whole_entry 2 0 4 1 ∷ whole_entry 3 0 4 1 ∷ [])) 2 ≡ 2 ∷ 1 ∷ 0 ∷ 0 ∷ []
  -- place 2's late plan: from the day's end back, place 1 has the fewest minutes not yet placed; before: 2 1 0 0
  pub late : shown_bytes Late (day 4 (whole_entry 1 1 4 2 ∷ whole_entry 2 1 4 1 ∷ whole_entry 3 0 1 1 ∷ [])) 2 ≡ 2 ∷ 0 ∷ 0 ∷ 1 ∷ []
  -- before: 0 0 2 1 255, broken 0
  pub more_broken : PlannedAs (day 5 (whole_entry 1 0 5 2 ∷ whole_entry 2 0 5 1 ∷ whole_entry 3 2 4 1 ∷ [])) (1 ∷ 0 ∷ 2 ∷ 0 ∷ 255 ∷ []) 1
  -- before: 1 0 1 2, broken 1
  pub fewer_broken : PlannedAs (day 4 (whole_entry 1 1 3 1 ∷ whole_entry 2 0 4 2 ∷ whole_entry 3 0 4 1 ∷ [])) (2 ∷ 0 ∷ 1 ∷ 1 ∷ []) 0
  -- of equally many minutes left, the lowest place
  pub lowest_place : planned_bytes (day 2 (pause_entry 1 0 2 1 ∷ pause_entry 2 0 2 1 ∷ [])) ≡ 0 ∷ 1 ∷ []
  -- and so from the day's end back
  pub late_lowest : shown_bytes Late (day 3 (pause_entry 1 1 3 1 ∷ pause_entry 2 1 3 1 ∷ pause_entry 3 0 1 1 ∷ [])) 2 ≡ 2 ∷ 1 ∷ 0 ∷ []
  -- the running box goes on, though another has the same d and fewer minutes left
  pub goes_on : planned_bytes (day 4 (pause_entry 1 1 4 1 ∷ pause_entry 2 0 4 3 ∷ [])) ≡ 1 ∷ 1 ∷ 1 ∷ 0 ∷ []
  -- place 1 was interrupted and is not the running box: of places 0 and 1, with 1 and 2 minutes left, place 0 is taken
  pub interrupted : planned_bytes (day 5 (pause_entry 1 1 5 1 ∷ pause_entry 2 0 5 3 ∷ pause_entry 3 1 2 1 ∷ [])) ≡ 1 ∷ 2 ∷ 0 ∷ 1 ∷ 1 ∷ []
  -- minutes left, not p: after the interruption place 1 needs 3 minutes and has 1 left, place 0 has 2
  pub left_not_needed : planned_bytes (day 6 (pause_entry 1 1 6 2 ∷ pause_entry 2 0 6 3 ∷ pause_entry 3 2 3 1 ∷ []))
      ≡ 1 ∷ 1 ∷ 2 ∷ 1 ∷ 0 ∷ 0 ∷ []
