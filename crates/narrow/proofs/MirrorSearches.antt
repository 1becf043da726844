-- The search for an entry's d is the search for its r in the mirrored windows.
-- Assumes nothing.
use mathlib.Core.Path.{◌≡◌, refl, sym, ap}
use mathlib.Core.Bool.{Bool, true, false}
use mathlib.Core.List.{[], ◌∷◌}
use Prim.Native.Nat.{ℕ, ◌+◌, ◌-◌, ◌<◌}
use native.Mathlib.Omega.{arith}
use lib.Dec.{eqb}
use Rattle.base.specs.Outcomes.{Outcome, answered, refused, and_then, row, first_of, accepts}
use Rattle.windows.specs.Windows.{Windows, with_r, with_d, fixed_at, fixed_up_to, Formed}
use Rattle.windows.specs.Mirrors.{mirror}
use Rattle.base.proofs.Searches.{first_cong}
use Rattle.narrow.specs.Searching.{Test, start_count, failed_starts, failed_ends, least_start, greatest_end}
use Rattle.narrow.specs.Rounds.{earliest, latest, step}
use Rattle.windows.proofs.MirrorWindows.{plannable_mirror, formed_mirror, mirror_back, mirror_plannable, mirror_r, mirror_d}
use Rattle.windows.proofs.MirrorWindows.{fixed_at_mirror, with_r_mirror}
use Rattle.narrow.proofs.Planners.{Planner}
use Rattle.windows.proofs.Puts.{up_to_formed}

-- two outcomes of a test are alike if one accepts exactly when the other does
alike : (a b : Outcome (Unit {0})) → (a ≡ answered tt → b ≡ answered tt) → (b ≡ answered tt → a ≡ answered tt) → accepts a ≡ accepts b
alike (answered _) (answered _) f g = refl
alike (answered _) (refused k) f g = ap accepts (sym (f refl))
alike (refused k) (answered _) f g = ap accepts (g refl)
alike (refused k) (refused x) f g = refl

module _ (w : Windows) (formed : Formed w) (k : ℕ) (place : k < w.n) where
  -- as many starts are tried in the mirror
  pub count_mirror : start_count (mirror w) k ≡ start_count w k
  count_mirror = omega (arith, mirror_r w k place, mirror_d w k place, formed.in_day k place, formed.room k place)

  -- the start j minutes after the mirrored r is the mirror of the end j minutes before d
  fixed_mirror : (j : ℕ) → j < start_count w k → fixed_at (mirror w) k ((mirror w).r k + j) ≡ mirror (fixed_up_to w k (w.d k - j))
  fixed_mirror j below =
      let due = formed.in_day k place in
      let a : (mirror w).r k + j ≡ w.h - (w.d k - j) = omega (arith, mirror_r w k place) in
      rw a (fixed_at_mirror w k place (w.d k - j) (omega arith) (omega arith))

-- f accepts the mirror of windows exactly when g accepts them
pub record InMirror (f g : Test) : Type 0 where
  pub accepted : (u : Windows) → Formed u → accepts (f (mirror u)) ≡ accepts (g u)

-- for any test g there is one
abbrev pub mirror_test : Test → Test
mirror_test g u = g (mirror u)

pub any_in_mirror : (g : Test) → InMirror (mirror_test g) g
any_in_mirror g = record { accepted = λ u formed. ap (λ x. accepts (g x)) (mirror_back u formed) }

-- and for a planner's test it is the test itself
pub planner_in_mirror : {test : Test} → Planner test → InMirror test test
planner_in_mirror {test} planner =
    record {
      accepted =
          λ u formed.
          let here = planner.exact u formed in
          let there = planner.exact (mirror u) (formed_mirror u formed) in
          alike (test (mirror u)) (test u)
          (λ e. here.0 (mirror_plannable u formed (there.1 e)))
          (λ e. there.0 (plannable_mirror u (here.1 e)));
    }

module _ {f g : Test} (same : InMirror f g) (w : Windows) (formed : Formed w) (k : ℕ) (place : k < w.n) where
  -- as many ends fail as starts in the mirror
  ends_mirror : failed_ends g w k ≡ failed_starts f (mirror w) k
  unfolding failed_starts failed_ends
  ends_mirror = rw (count_mirror w formed k place) (first_cong (start_count w k) _ _ each)
    where
      each : (j : ℕ) → j < start_count w k
          → accepts (g (fixed_up_to w k (w.d k - j))) ≡ accepts (f (fixed_at (mirror w) k ((mirror w).r k + j)))
      each j below =
          let e = w.d k - j in
          rw (fixed_mirror w formed k place j below)
          (sym (same.accepted (fixed_up_to w k e) (up_to_formed w formed k e place (omega arith) (omega arith))))

  -- the greatest end is the least start of the mirror, mirrored
  end_mirror : greatest_end g w k ≡ and_then (least_start f (mirror w) k) (λ s. answered (w.h - s))
  unfolding least_start greatest_end
  end_mirror = rw (count_mirror w formed k place, ends_mirror) (go (eqb j (start_count w k)))
    where
      j : ℕ
      j = failed_starts f (mirror w) k

      at_d : w.d k - j ≡ w.h - ((mirror w).r k + j)
      at_d = omega (arith, mirror_r w k place, formed.in_day k place)

      go : (t : Bool) → first_of (row 10 t k ∷ []) (answered (w.d k - j))
          ≡ and_then (first_of (row 10 t k ∷ []) (answered ((mirror w).r k + j))) (λ s. answered (w.h - s))
      go true = refl
      go false = ap answered at_d

  -- so the step for d is the step for r in the mirror, mirrored
  pub step_mirror : step g latest k w ≡ and_then (step f earliest k (mirror w)) (λ v. answered (mirror v))
  step_mirror = rw end_mirror (go (least_start f (mirror w) k))
    where
      go : (o : Outcome ℕ) → and_then (and_then o (λ s. answered (w.h - s))) (λ e. answered (with_d w k e))
          ≡ and_then (and_then o (λ s. answered (with_r (mirror w) k s))) (λ v. answered (mirror v))
      go (answered s) = ap answered (rw (mirror_back w formed) at (with_r_mirror (mirror w) k place s))
      go (refused x) = refl

pub end_by_mirror : {test : Test} → Planner test → (w : Windows) → Formed w → (k : ℕ) → k < w.n
    → greatest_end test w k ≡ and_then (least_start test (mirror w) k) (λ s. answered (w.h - s))
end_by_mirror planner = end_mirror (planner_in_mirror planner)
