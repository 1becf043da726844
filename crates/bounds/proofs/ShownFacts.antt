-- Bounds and shown plans: they depend on the kind of their own entry alone, and a plan has a byte for each minute.
-- Assumes nothing.
use mathlib.Core.Path.{◌≡◌, ap}
use mathlib.Core.Bool.{Bool}
use Prim.Native.Nat.{ℕ}
use lib.ListN.{length}
use Rattle.base.proofs.Listed.{list_length}
use Rattle.windows.specs.Windows.{Windows}
use Rattle.jackson.proofs.Schedules.{schedule_long}
use Rattle.bounds.specs.Ends.{least_end, greatest_start}
use Rattle.bounds.specs.ShownPlans.{early_plan, late_plan, bound_of, shown_plan}
use Rattle.bounds.specs.declared.types.Shown.{Shown}
use Rattle.bounds.specs.declared.types.Shown.TheVariants.{Early, Late}

-- a bound depends on the kind of its own entry alone
pub bound_kind : (x : Shown) (whole : ℕ → Bool) (b : Bool) (w : Windows) (k : ℕ) → b ≡ whole k
    → bound_of x (λ _. b) k w ≡ bound_of x whole k w
unfolding least_end greatest_start
bound_kind Early whole b w k e = rw e
bound_kind Late whole b w k e = rw e

-- and so has a shown plan
pub shown_long : (x : Shown) (whole : ℕ → Bool) (k : ℕ) (w : Windows) → length (shown_plan x whole k w) ≡ w.h
shown_long Early whole k w = schedule_long _
shown_long Late whole k w = list_length w.h _

-- a plan depends on the kind of its own entry alone
pub plan_kind : (x : Shown) (whole : ℕ → Bool) (b : Bool) (w : Windows) (k : ℕ) → b ≡ whole k
    → shown_plan x (λ _. b) k w ≡ shown_plan x whole k w
plan_kind Early whole b w k e = ap (early_plan w k) (bound_kind Early whole b w k e)
plan_kind Late whole b w k e = ap (late_plan w k) (bound_kind Late whole b w k e)
