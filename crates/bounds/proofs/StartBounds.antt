-- In settled windows no plan has a start after the greatest start, and the late plan has that: the mirror of EndBounds.antt.
-- Assumes nothing.
use mathlib.Core.Path.{◌≡◌, sym}
use mathlib.Core.Bool.{Bool}
use mathlib.Core.List.{List}
use Prim.Native.Nat.{ℕ, ◌+◌, ◌-◌, ◌<◌, ◌≤◌, min}
use native.Mathlib.Omega.{arith}
use Rattle.windows.specs.Windows.{Windows, Formed}
use Rattle.windows.specs.Plans.{IsStart, places_in, PlanBytes, Consecutive}
use Rattle.windows.specs.Mirrors.{mirror, mirror_bytes}
use Rattle.windows.proofs.PlanFacts.{minutes_within, mirror_plan_lem, mirror_at, mirror_bytes_lem}
use Rattle.narrow.specs.Searching.{Test}
use Rattle.narrow.specs.Settling.{Settled}
use Rattle.narrow.proofs.Planners.{Planner}
use Rattle.windows.proofs.MirrorWindows.{formed_mirror, mirror_back, with_d_mirror}
use Rattle.windows.proofs.MirrorMinutes.{mirror_bytes_twice, start_in_mirror, end_in_mirror, consecutive_same, consecutive_mirror}
use Rattle.jackson.proofs.OneSchedule.{follows_same}
use Rattle.narrow.proofs.MirrorSettled.{settled_mirror}
use Rattle.bounds.specs.Ends.{least_end, greatest_start, Keeping}
use Rattle.bounds.specs.ShownPlans.{early_plan, late_plan, IsEarly, IsLate}
use Rattle.bounds.proofs.MirrorEnds.{start_by_mirror, late_by_mirror}
use Rattle.bounds.proofs.EndBounds.{end_least, early_is}

module _ (whole : ℕ → Bool) (w : Windows) (formed : Formed w) (k : ℕ) (place : k < w.n) (bs : List ℕ) where
  -- bytes whose minutes of k are in one piece have them so in the mirror
  keeping_mirror : PlanBytes w bs → Keeping whole w k (places_in bs) → Keeping whole (mirror w) k (places_in (mirror_bytes w.h bs))
  keeping_mirror bytes keeping =
      record { plan = (mirror_bytes_lem w bs bytes).plan; unbroken = λ is. turned (keeping.unbroken is).0 (keeping.unbroken is).1 }
    where
      -- p minutes from s on are in the day
      in_day : (s : ℕ) → Consecutive w.h (places_in bs) k s (s + w.p k) → s + w.p k ≤ w.h
      in_day s run =
          let b = min (s + w.p k) w.h in
          let most = minutes_within w.h (places_in bs) k s b (λ t below q. let z = run.only t below q in (z.0, omega (arith, z.1))) in
          omega (arith, formed.minutes k place, bytes.plan.exact k place)

      turned : (s : ℕ) → Consecutive w.h (places_in bs) k s (s + w.p k)
          → (s : ℕ) × Consecutive w.h (places_in (mirror_bytes w.h bs)) k s (s + w.p k)
      turned s run =
          let e : w.h - (s + w.p k) + w.p k ≡ w.h - s = omega (arith, in_day s run) in
          let back = consecutive_mirror w.h (places_in bs) k s (s + w.p k) run in
          (w.h - (s + w.p k), rw e (consecutive_same w.h _ _ k _ _ (mirror_at w.h bs) back))

module _ {test : Test} (planner : Planner test) (whole : ℕ → Bool) (w : Windows) (formed : Formed w) (k : ℕ) (place : k < w.n) where
  -- the least end of the mirror
  abbrev least : ℕ
  least = least_end test whole (mirror w) k

  pub start_bound : (m : ℕ → ℕ) → Keeping whole w k m → (s : ℕ) → IsStart w.h m k s → s ≤ greatest_start test whole w k
  start_bound m keeping s start =
      let there = formed_mirror w formed in
      let plan = mirror_plan_lem w m keeping.plan in
      let bound = end_least planner whole (mirror w) there k place _ plan _ (start_in_mirror w.h m k s start) in
      omega (arith, start.below, start_by_mirror planner w formed k place whole)

  pub late_is : Settled whole w → IsLate whole w k (greatest_start test whole w k) (late_plan w k (greatest_start test whole w k))
  late_is settled =
      rw (start_by_mirror planner w formed k place whole, late_by_mirror w k place least early.end.within)
      (record {
        rule = sym (late_by_mirror w k place least early.end.within);
        follows =
            rw (with_d_mirror w k place least early.end.within)
            (follows_same _ (places_in bs) _ (mirror_bytes_twice w.h bs) early.follows);
        plan = rw (mirror_back w formed) at (mirror_bytes_lem (mirror w) bs early.plan);
        keeping = rw (mirror_back w formed) at (keeping_mirror whole (mirror w) there k place bs early.plan early.keeping);
        start = end_in_mirror w.h bs k least early.end;
      })
    where
      there : Formed (mirror w)
      there = formed_mirror w formed

      bs : List ℕ
      bs = early_plan (mirror w) k least

      early : IsEarly whole (mirror w) k least bs
      early = early_is planner whole (mirror w) there k place (settled_mirror whole w formed settled)
