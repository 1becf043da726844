-- Settled windows are settled in the mirror.
-- Assumes nothing.
use mathlib.Core.Path.{◌≡◌, refl}
use mathlib.Core.Bool.{Bool}
use Prim.Native.Nat.{ℕ, ◌+◌, ◌-◌, ◌<◌}
use native.Mathlib.Omega.{arith}
use Rattle.windows.specs.Windows.{Windows, with_windows, Formed}
use Rattle.windows.specs.Plans.{Plan, Consecutive}
use Rattle.windows.specs.Mirrors.{mirror}
use Rattle.windows.proofs.PlanFacts.{mirror_plan_lem, plan_room}
use Rattle.narrow.specs.Settling.{Settled, SettledInside}
use Rattle.narrow.specs.Rounds.{Side, earliest, latest}
use Rattle.windows.proofs.MirrorWindows.{plannable_mirror, mirror_r, mirror_d}
use Rattle.windows.proofs.MirrorMinutes.{consecutive_mirror}
use Rattle.windows.proofs.Room.{formed_inside}
use Rattle.narrow.proofs.StepsKeep.{inside_mirror}

-- a plan with the minutes of k consecutive from its r on, or up to its d
abbrev pub SidePlan : Side → Windows → ℕ → Type 0
SidePlan earliest w k = (m : ℕ → ℕ) × Plan w m × Consecutive w.h m k (w.r k) (w.r k + w.p k)
SidePlan latest w k = (m : ℕ → ℕ) × Plan w m × Consecutive w.h m k (w.d k - w.p k) (w.d k)

module _ (w : Windows) (formed : Formed w) (k : ℕ) (place : k < w.n) where
  -- minutes from r on are minutes up to d in the mirror
  pub earliest_mirror : SidePlan earliest w k → SidePlan latest (mirror w) k
  earliest_mirror z =
      let e : w.h - w.r k - w.p k ≡ w.h - (w.r k + w.p k) = omega arith in
      (_, mirror_plan_lem w z.0 z.1, rw (mirror_d w k place, e) (consecutive_mirror w.h z.0 k _ _ z.2))

  -- and those up to d are from r on
  latest_mirror : SidePlan latest w k → SidePlan earliest (mirror w) k
  latest_mirror z =
      let e : w.h - w.d k + w.p k ≡ w.h - (w.d k - w.p k) = omega (arith, formed.in_day k place, formed.room k place) in
      (_, mirror_plan_lem w z.0 z.1, rw (mirror_r w k place, e) (consecutive_mirror w.h z.0 k _ _ z.2))

pub settled_mirror : (whole : ℕ → Bool) (w : Windows) → Formed w → Settled whole w → Settled whole (mirror w)
settled_mirror whole w formed settled =
    record {
      plan = plannable_mirror w settled.plan;
      from_r = λ k place q. latest_mirror w formed k place (settled.up_to_d k place q);
      up_to_d = λ k place q. earliest_mirror w formed k place (settled.from_r k place q);
    }

module _ (whole : ℕ → Bool) (w : Windows) (formed : Formed w) (r d : ℕ → ℕ) (set : SettledInside whole w r d) where
  -- a settled set has a plan, so it leaves each entry room
  pub set_formed : Formed (with_windows w r d)
  set_formed =
      let z = set.settled.plan in
      formed_inside w formed r d set.inside
      (λ i place. plan_room (with_windows w r d) z.0 z.1 i place (formed.minutes i place))

  -- its mirror is settled inside the mirror
  pub set_mirror : SettledInside whole (mirror w) (mirror (with_windows w r d)).r (mirror (with_windows w r d)).d
  set_mirror =
      record {
        inside = let z = inside_mirror (with_windows w r d) w refl refl set.inside in record { r = z.r; d = z.d };
        settled = settled_mirror whole (with_windows w r d) set_formed set.settled;
      }
