-- Jackson's minute and Jackson's preemptive schedule, as an algorithm (`chosen`, `schedule`) and as facts (`Takes`, `FollowsJackson`).
use Rattle.std.specs.Prelude.{ℕ, zero, suc, ◌+◌, ◌-◌, ◌<◌, ◌≤◌, ◌≡◌, Bool, cond, not, ◌&&◌, List, leb, ltb}
use Rattle.base.specs.Counting.{same, best, lex_smaller, list_of}
use Rattle.windows.specs.Windows.{Windows, with_left, windows_in}
use Rattle.windows.specs.Plans.{minutes_of, idle}
use Rattle.jackson.specs.Rules.{Ready, EarliestDeadlineFirst}
use Rattle.jackson.specs.declared.types.Day.{Day}

-- "the day's state": its minute t, the entry that had the minute before (idle for none), and the windows, where p i is the minutes that
-- the entry at place i has left
pub record State : Type 0 where
  pub windows : Windows
  pub t : ℕ
  pub last : ℕ

-- the state that a value of the code's type holds
abbrev pub state_in : Day → State
state_in day = record { windows = windows_in day.windows; t = day.t; last = day.last }

-- the state in which a day begins
abbrev pub day_start : Windows → State
day_start w = record { windows = w; t = 0; last = idle }

module _ (s : State) where
  -- "entries with r reached and minutes left"
  abbrev pub is_ready : ℕ → Bool
  is_ready i = leb (s.windows.r i) s.t && ltb 0 (s.windows.p i)

  -- "take the smallest d", and of several that share it "the one with the fewest minutes left" (document 02): entry i comes before entry k
  abbrev pub comes_before : ℕ → ℕ → Bool
  comes_before = lex_smaller s.windows.d s.windows.p

  -- the ready place before which no other comes, of several "the lowest place"; idle if there is none
  abbrev pub earliest_deadline : ℕ
  earliest_deadline = best idle s.windows.n is_ready comes_before

  -- "The entry that had the minute before, if it has minutes left, goes on unless another d is strictly smaller." Its r was reached then;
  -- in other values of a day it may not be, so it is tested here
  abbrev pub goes_on : Bool
  goes_on = ltb s.last s.windows.n && (is_ready s.last && not (ltb (s.windows.d earliest_deadline) (s.windows.d s.last)))

  -- the place that has the minute
  unfoldable pub chosen : ℕ
  chosen = cond goes_on s.last earliest_deadline

  -- the entry at place i is ready, and its d is that of the entry at place k
  pub record Tied (k i : ℕ) : Type 0 where
    pub ready : Ready s.windows s.t i
    pub deadline : s.windows.d i ≡ s.windows.d k

  -- the same as facts about the place k that has the minute: they leave one place, and `chosen` is that one (`takes_one` and
  -- `chosen_takes` of proofs/Choices.antt)
  pub record Takes (k : ℕ) : Type 0 where
    -- "among entries with r reached and minutes left, take the smallest d"
    pub deadline : EarliestDeadlineFirst s.windows s.t k
    -- "The entry that had the minute before, if it has minutes left, goes on unless another d is strictly smaller."
    pub goes_on : Ready s.windows s.t s.last
        → ((i : ℕ) → Ready s.windows s.t i → s.windows.d i < s.windows.d s.last → ⊥)
        → k ≡ s.last
    -- document 02: "When several boxes share the smallest latest minute and the running box is not among them, take the one with the
    -- fewest minutes left". The running box is the entry that had the minute before, if it is ready.
    pub fewest : (i : ℕ) → (Tied k s.last → ⊥) → Tied k i → s.windows.p k ≤ s.windows.p i
    -- "then the lowest place."
    pub lowest : (i : ℕ) → (Tied k s.last → ⊥) → Tied k i → s.windows.p i ≡ s.windows.p k → k ≤ i
    -- idle is the one value that stands for no place
    pub idles : s.windows.n ≤ k → k ≡ idle

-- one minute less at k; idle is no place, so then no entry has less
abbrev pub less_one : Windows → ℕ → Windows
less_one w k = with_left w (λ i. w.p i - same k i)

-- the state after place k, or idle, had the minute
abbrev pub after : State → ℕ → State
after s k = record { windows = less_one s.windows k; t = s.t + 1; last = k }

-- what a minute gives
pub record MinuteAnswer : Type 0 where
  pub place : ℕ
  pub next : State

-- "Each minute takes the day's state and gives the next one." A day past its end is idle and stays as it is.
unfoldable pub minute_of : State → MinuteAnswer
minute_of s =
    cond (ltb s.t s.windows.h) (let k = chosen s in record { place = k; next = after s k }) (record { place = idle; next = s })

-- the state k minutes later
unfoldable pub later : ℕ → State → State
later zero s = s
later (suc k) s = (minute_of (later k s)).next

-- the place that has the minute k minutes later
abbrev pub place_at : State → ℕ → ℕ
place_at s k = (minute_of (later k s)).place

-- Jackson's preemptive schedule of a day, as the bytes of a plan
unfoldable pub schedule : Windows → List ℕ
schedule w = list_of w.h (place_at (day_start w))

-- The same of minutes alone, a plan's or not.

-- the entry that had the minute before minute t in m, idle for none
abbrev pub had_before : (ℕ → ℕ) → ℕ → ℕ
had_before m zero = idle
had_before m (suc t) = m t

-- the state after the first t minutes of m: each entry has left what m did not give it
abbrev pub state_after : Windows → (ℕ → ℕ) → ℕ → State
state_after w m t = record { windows = with_left w (λ i. w.p i - minutes_of t m i); t = t; last = had_before m t }

-- each minute of m has the place that the rule takes; this leaves one m, and the schedule is that one (`ScheduleLaw` of Laws.antt)
abbrev pub FollowsJackson : Windows → (ℕ → ℕ) → Type 0
FollowsJackson w m = (t : ℕ) → t < w.h → Takes (state_after w m t) (m t)
