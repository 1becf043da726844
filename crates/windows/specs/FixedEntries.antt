-- The minutes of which document 01's searches speak, said of plans: an entry with its minutes in one piece, the others as they are.
use Rattle.std.specs.Prelude.{ℕ, ◌+◌, ◌<◌, ◌≤◌}
use Rattle.windows.specs.Windows.{Windows, fixed_at, fixed_up_to}
use Rattle.windows.specs.Plans.{Plannable}

-- "the least s, from its r up, with s + p at most its d, for which a plan exists when its window is [s, s + p) and the others keep theirs"
pub record IsLeastStart (w : Windows) (k s : ℕ) : Type 0 where
  pub from_r : w.r k ≤ s
  pub room : s + w.p k ≤ w.d k
  pub plan : Plannable (fixed_at w k s)
  pub least : (x : ℕ) → w.r k ≤ x → x < s → Plannable (fixed_at w k x) → ⊥

abbrev pub NoStart : Windows → ℕ → Type 0
NoStart w k = (s : ℕ) → w.r k ≤ s → s + w.p k ≤ w.d k → Plannable (fixed_at w k s) → ⊥

-- "the greatest e, from its d down, with the r just found plus p at most e, for which a plan exists when its window is [e - p, e) and
-- the others keep theirs"
pub record IsGreatestEnd (w : Windows) (k e : ℕ) : Type 0 where
  pub to_d : e ≤ w.d k
  pub room : w.r k + w.p k ≤ e
  pub plan : Plannable (fixed_up_to w k e)
  pub greatest : (x : ℕ) → e < x → x ≤ w.d k → Plannable (fixed_up_to w k x) → ⊥

abbrev pub NoEnd : Windows → ℕ → Type 0
NoEnd w k = (e : ℕ) → e ≤ w.d k → w.r k + w.p k ≤ e → Plannable (fixed_up_to w k e) → ⊥
