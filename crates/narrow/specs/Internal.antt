-- What private functions promise each other. No public promise cites these.
use Rattle.std.specs.Prelude.{ℕ, ◌+◌, ◌<◌, ◌≤◌, Bool}
use Rattle.windows.specs.Windows.{windows_in, Formed}
use Rattle.windows.specs.Plans.{Plannable}
use Rattle.windows.specs.declared.types.WindowSet.{WindowSet}
use Rattle.narrow.specs.Rounds.{slack}
use Rattle.narrow.specs.declared.types.NarrowedWindows.{NarrowedWindows}

-- windows with room that have a plan, and an entry. They have one at every visit: the windows given passed the test for row 9, and each
-- search leaves a window that holds the plan it found.
pub record Visitable (s : WindowSet) (k : ℕ) : Type 0 where
  pub formed : Formed (windows_in s)
  pub place : k < (windows_in s).n
  pub planned : Plannable (windows_in s)

-- windows with room that have a plan, and moves so few that counting on does not pass 32 bits: with the minutes that can still be cut they
-- are at most 64 times 65,535
pub record Countable (whole : ℕ → Bool) (s : NarrowedWindows) : Type 0 where
  pub formed : Formed (windows_in s.windows)
  pub planned : Plannable (windows_in s.windows)
  pub few : s.moves + slack whole (windows_in s.windows) ≤ 4194240
