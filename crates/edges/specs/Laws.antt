-- What edge-finding finds, said of plans: the two laws by which the crates above know it.
use Rattle.std.specs.Prelude.{ℕ, ◌+◌, ◌<◌, ◌≤◌, None, Option, Some}
use Rattle.windows.specs.Windows.{Windows, with_d}
use Rattle.windows.specs.Plans.{Plannable}
use Rattle.windows.specs.FixedEntries.{IsLeastStart, NoStart}
use Rattle.edges.specs.Ends.{closed_end}

-- what a search finds, of windows with room that have a plan: the least start that has one, or none where none has
abbrev pub StartLaw : Windows → ℕ → Option ℕ → Type 0
StartLaw w k (Some s) = IsLeastStart w k s
StartLaw w k None = NoStart w k

-- the closed form, of windows with room that have a plan: a plan exists with it as entry k's d, and with no smaller one
pub record EndLaw (w : Windows) (k : ℕ) : Type 0 where
  pub room : w.r k + w.p k ≤ closed_end w k
  pub due : closed_end w k ≤ w.d k
  pub plan : Plannable (with_d w k (closed_end w k))
  pub least : (e : ℕ) → w.r k + w.p k ≤ e → e < closed_end w k → Plannable (with_d w k e) → ⊥
