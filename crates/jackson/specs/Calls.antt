-- What the public functions promise: the overload test, a day's minutes, starting a day, and filling a plan buffer.
use Rattle.std.specs.Prelude.{ℕ, ◌<◌, ◌≤◌, ◌≡◌, List, [], ◌∷◌, ◌++◌, length, take, drop, ltb, Result, Ok}
use Rattle.base.specs.Outcomes.{Code, code, Outcome, answered, refused, Row, row, first_of, and_then}
use Rattle.list.specs.Refusals.{outcome_of}
use Rattle.list.specs.Checks.{check_of, WellFormed}
use Rattle.list.specs.declared.types.DayList.{DayList}
use Rattle.list.specs.declared.types.Refusal.{Refusal}
use Rattle.windows.specs.Windows.{Windows, windows_of}
use Rattle.windows.specs.Plans.{Plannable, places_in, PlanBytes}
use Rattle.windows.specs.Intervals.{ShowsOverload, overload_of}
use Rattle.jackson.specs.Minutes.{state_in, day_start, schedule, Takes, minute_of, FollowsJackson}
use Rattle.jackson.specs.declared.types.Day.{Day}
use Rattle.jackson.specs.declared.types.Minute.{Minute}

-- the value check, then row 9
unfoldable pub test_of : DayList → Outcome (Unit {0})
test_of l = and_then (check_of l) (λ _. overload_of (windows_of l))

-- `test_law` of proofs/FillLaws.antt: 9 last
pub record TestLaw (l : DayList) : Type 0 where
  pub before : (k : Code) → check_of l ≡ refused k → test_of l ≡ refused k
  pub then : WellFormed l → test_of l ≡ overload_of (windows_of l)

-- "A plan exists exactly when no interval is overloaded": what an answer whose last row tested is 9 says of plans
pub record Decides (l : DayList) (o : Outcome (Unit {0})) : Type 0 where
  pub planned : o ≡ answered tt → Plannable (windows_of l)
  pub unplanned : (k : Code) → o ≡ refused k → k.number ≡ 9 → Plannable (windows_of l) → ⊥
  pub shown : (k : Code) → o ≡ refused k → k.number ≡ 9 → ShowsOverload (windows_of l) k

-- what the overload test answers
pub record Tests (l : DayList) (v : Result (Unit {0}) Refusal) : Type 0 where
  pub outcome : outcome_of v ≡ test_of l
  pub decides : Decides l (outcome_of v)

-- what a minute gives: the place chosen, which before the day's end is the one that the rule takes, together with the advanced day
pub record Advances (day : Day) (m : Minute) : Type 0 where
  pub place : m.place ≡ (minute_of (state_in day)).place
  pub takes : day.t < day.windows.h → Takes (state_in day) m.place
  pub next : state_in m.day ≡ (minute_of (state_in day)).next
  pub n : m.day.windows.n ≡ day.windows.n

-- what starting a day answers: a refusal of the value check, or the day's first state
pub record Starts (l : DayList) (a : Result Day Refusal) : Type 0 where
  pub refuses : (k : Code) → check_of l ≡ refused k → outcome_of a ≡ refused k
  pub starts : WellFormed l → (day : Day) × (a ≡ Ok day) × (state_in day ≡ day_start (windows_of l)) × (day.windows.n ≡ l.n)

-- "plan buffer under H bytes": row 11, which carries H
abbrev pub buffer_row : ℕ → ℕ → Row
buffer_row h room = row 11 (ltb room h) h

-- filling a plan buffer of the length given: the value check, then rows 11 and 9
unfoldable pub fill_of : DayList → ℕ → Outcome (Unit {0})
fill_of l room = and_then (check_of l) (λ _. first_of (buffer_row l.frame.h room ∷ []) (overload_of (windows_of l)))

-- `fill_law` of proofs/FillLaws.antt: these rows in the table's order, what 11 carries, and 9 last
pub record FillLaw (l : DayList) (room : ℕ) : Type 0 where
  pub before : (k : Code) → check_of l ≡ refused k → fill_of l room ≡ refused k
  pub short : WellFormed l → room < l.frame.h → fill_of l room ≡ refused (code 11 (l.frame.h ∷ []))
  pub then : WellFormed l → l.frame.h ≤ room → fill_of l room ≡ overload_of (windows_of l)

-- "In a longer buffer the bytes after H keep their values." "A refusal writes nothing to any lent buffer."
abbrev pub plan_after : Outcome (Unit {0}) → Windows → List ℕ → List ℕ
plan_after (answered _) w old = schedule w ++ drop w.h old
plan_after (refused _) w old = old

-- what filling a plan buffer that held old answers, and what the buffer holds then
pub record Fills (l : DayList) (old : List ℕ) (v : Result (Unit {0}) Refusal) (new : List ℕ) : Type 0 where
  pub outcome : outcome_of v ≡ fill_of l (length old)
  pub buffer : new ≡ plan_after (fill_of l (length old)) (windows_of l) old
  pub decides : Decides l (outcome_of v)
  pub plan : outcome_of v ≡ answered tt → PlanBytes (windows_of l) (take l.frame.h new)
  pub follows : outcome_of v ≡ answered tt → FollowsJackson (windows_of l) (places_in (take l.frame.h new))

-- row 11 alone, for windows that are not tested
abbrev pub buffer_fault : ℕ → ℕ → Outcome (Unit {0})
buffer_fault h room = first_of (buffer_row h room ∷ []) (answered tt)

-- what filling a plan buffer that held old with the schedule of such windows answers, and what the buffer holds then
pub record FillsWindows (w : Windows) (old : List ℕ) (v : Result (Unit {0}) Refusal) (new : List ℕ) : Type 0 where
  pub outcome : outcome_of v ≡ buffer_fault w.h (length old)
  pub buffer : new ≡ plan_after (buffer_fault w.h (length old)) w old
