-- What private functions promise each other. No public promise cites these.
use Rattle.std.specs.Prelude.{ℕ, ◌+◌, ◌-◌, ◌≤◌, ◌≡◌, cond, eqb}
use Rattle.base.specs.Counting.{better}
use Rattle.windows.specs.Windows.{with_left, windows_in}
use Rattle.windows.specs.Plans.{idle}
use Rattle.windows.specs.declared.types.WindowSet.{WindowSet}
use Rattle.jackson.specs.Minutes.{State, state_in, is_ready, comes_before, after}
use Rattle.jackson.specs.declared.types.Day.{Day}

-- the state at minute t of windows, nobody having had the minute before
abbrev pub state_at : WindowSet → ℕ → State
state_at windows t = record { windows = windows_in windows; t = t; last = idle }

-- the better of place i and the best so far k, idle for none, in the search for the ready entry of earliest deadline
abbrev pub better_ready : State → ℕ → ℕ → ℕ
better_ready s i k = better idle (is_ready s) (comes_before s) i k

-- the state after place k, or idle, had m minutes
abbrev pub after_minutes : State → ℕ → ℕ → State
after_minutes s k m = record { windows = with_left s.windows (λ i. s.windows.p i - cond (eqb k i) m 0); t = s.t + m; last = k }

-- the day after place k, or none, had m minutes
pub record IsAfterMinutes (day : Day) (k m : ℕ) (next : Day) : Type 0 where
  pub state : state_in next ≡ after_minutes (state_in day) k m
  pub n : next.windows.n ≡ day.windows.n

-- the day after place k, or none, had its minute
pub record IsAfter (day : Day) (k : ℕ) (next : Day) : Type 0 where
  pub state : state_in next ≡ after (state_in day) k
  pub n : next.windows.n ≡ day.windows.n

-- h minutes are left of the day, and a buffer of so many bytes has room for them
pub record Fillable (day : Day) (h bytes : ℕ) : Type 0 where
  pub room : h ≤ bytes
  pub rest : day.t + h ≡ day.windows.h
