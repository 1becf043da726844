-- Greatest starts and late plans are the least ends and early plans of the mirrored windows, mirrored.
-- Assumes nothing.
use mathlib.Core.Path.{◌≡◌, sym, ap}
use mathlib.Core.Bool.{Bool, true, false, cond}
use Prim.Native.Nat.{ℕ, ◌+◌, ◌-◌, ◌<◌, ◌≤◌}
use native.Mathlib.Omega.{arith}
use Rattle.windows.specs.Windows.{Windows, with_r, with_d, Formed}
use Rattle.windows.specs.Mirrors.{mirror, mirror_bytes}
use Rattle.jackson.specs.Minutes.{schedule}
use Rattle.base.proofs.Searches.{first_cong}
use Rattle.narrow.specs.Searching.{Test}
use Rattle.base.specs.Outcomes.{accepts}
use Rattle.narrow.proofs.Planners.{Planner}
use Rattle.windows.proofs.MirrorWindows.{with_r_mirror, with_d_mirror}
use Rattle.narrow.proofs.MirrorSearches.{planner_in_mirror}
use Rattle.narrow.proofs.StepsKeep.{keeps_r}
use Rattle.narrow.proofs.Exact.{in_mirror}
use Rattle.bounds.specs.Ends.{spare, failed_deadlines, failed_releases, least_end, greatest_start}
use Rattle.bounds.specs.ShownPlans.{early_plan, late_plan}

module _ {test : Test} (planner : Planner test) (w : Windows) (formed : Formed w) (k : ℕ) (place : k < w.n) where
  -- the mirrored entry has as many minutes that it does not need
  spare_mirror : spare (mirror w) k ≡ spare w k
  spare_mirror = omega (arith, in_mirror w formed k place)

  -- a start is accepted exactly when the mirrored end is
  release_mirror : (j : ℕ) → j < spare w k
      → accepts (test (with_r w k (w.d k - w.p k - j))) ≡ accepts (test (with_d (mirror w) k ((mirror w).r k + w.p k + j)))
  release_mirror j below =
      let s = w.d k - w.p k - j in
      let from : w.r k ≤ s = omega arith in
      let room : s + w.p k ≤ w.d k = omega arith in
      let e : (mirror w).r k + w.p k + j ≡ w.h - s = omega (arith, in_mirror w formed k place) in
      rw (e, with_r_mirror w k place s)
      (sym ((planner_in_mirror planner).accepted (with_r w k s) (keeps_r w formed k place s (from, room)).formed))

  releases_mirror : failed_releases test w k ≡ failed_deadlines test (mirror w) k
  unfolding failed_releases failed_deadlines
  releases_mirror = rw spare_mirror (first_cong (spare w k) _ _ release_mirror)

  pub start_by_mirror : (whole : ℕ → Bool) → greatest_start test whole w k ≡ w.h - least_end test whole (mirror w) k
  unfolding greatest_start least_end
  start_by_mirror whole = rw releases_mirror (go (whole k) (failed_deadlines test (mirror w) k))
    where
      go : (t : Bool) (j : ℕ) → cond t (w.d k - w.p k) (w.d k - w.p k - j)
          ≡ w.h - cond t ((mirror w).r k + w.p k) ((mirror w).r k + w.p k + j)
      go true j = omega (arith, in_mirror w formed k place)
      go false j = omega (arith, in_mirror w formed k place)

pub late_by_mirror : (w : Windows) (k : ℕ) → k < w.n → (e : ℕ) → e ≤ w.h
    → late_plan w k (w.h - e) ≡ mirror_bytes w.h (early_plan (mirror w) k e)
late_by_mirror w k place e in_day = ap (λ v. mirror_bytes w.h (schedule v)) (with_d_mirror w k place e in_day)
