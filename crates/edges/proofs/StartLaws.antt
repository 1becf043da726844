-- The search by jumps finds the least start that has a plan, or that there is none.
-- Assumes nothing.
use mathlib.Core.Path.{◌≡◌, refl, ap}
use mathlib.Core.Bool.{Bool, true, false, cond, true≢false}
use Prim.Native.Nat.{ℕ, zero, suc, ◌+◌, ◌-◌, ◌<◌, ◌≤◌, min}
use native.Mathlib.Omega.{arith}
use borrow.Author.Tests.{lt-ltb, ltb-true, ltb-false, eqb-true, eqb-false}
use lib.Dec.{eqb, ltb}
use Rattle.base.proofs.Sums.{le_or_lt, cond_cases}
use Rattle.windows.specs.Windows.{Windows, fixed_at, Formed}
use Rattle.windows.specs.Plans.{Plannable}
use Rattle.windows.specs.Intervals.{Fits}
use Rattle.windows.specs.RunningSums.{LatestReleaseFirst}
use Rattle.windows.proofs.Endpoints.{work_wider}
use Rattle.windows.proofs.Puts.{put_other, fixed_formed}
use Rattle.windows.proofs.Room.{formed_roomy}
use Rattle.jackson.proofs.Law.{plan_law}
use Rattle.edges.specs.Starts.{others, considers, passed, start_from, start_by_jumps}
use Rattle.windows.specs.FixedEntries.{IsLeastStart}
use Rattle.edges.specs.Laws.{StartLaw}
use Rattle.std.specs.Prelude.{None, Some}
use Rattle.edges.proofs.OtherWork.{others_fit, fit_with_own, plan_clears, clear_plan}
use Rattle.edges.proofs.Jumps.{Barred, Quiet, Busy, passed_up, passed_barred, passed_quiet, quiet_clear, low_quiet}

module _ (w : Windows) (formed : Formed w) (k : ℕ) (place : k < w.n) where
  -- a barred start has no plan
  pub barred_none : (s : ℕ) → s + w.p k ≤ w.d k → Barred (others w k) (w.p k) s → Plannable (fixed_at w k s) → ⊥
  barred_none s room bar plan =
      omega (
        arith,
        bar.left,
        bar.right,
        bar.full,
        plan_clears w k s (s + w.p k) place (fixed_formed w formed k s place room) plan bar.a bar.b bar.left bar.right,
      )

  others_busy : (s : ℕ) → w.r k ≤ s → Busy (others w k) s
  others_busy s from i below high =
      rw (put_other k 0 w.p i (λ e. omega (arith, from, high, ap w.r e))) (formed.minutes i below)

  module _ (planned : Plannable w) where
    fits : Fits w
    fits = (plan_law w (formed_roomy w formed) formed.few).fits.0 planned

    -- from its r, a right end at k's d or later makes no jump
    high_quiet : (b : ℕ) → w.d k ≤ b → Quiet (others w k) (w.p k) b (w.r k)
    high_quiet b high a some over up =
        omega (
          arith,
          over,
          up,
          fit_with_own w k place fits (min a (w.r k)) b (omega arith) high,
          work_wider (others w k) a b (min a (w.r k)) b (omega arith) (omega arith),
        )

    module _ (o : ℕ → ℕ) (order : LatestReleaseFirst w o) where
      abbrev next : ℕ → ℕ
      next s = passed (others w k) o (w.p k) (eqb s (w.r k)) (w.d k) w.n s

      -- if a pass from s changes nothing, no right end makes a jump
      all_quiet : (s : ℕ) → next s ≡ s → (j : ℕ) → j < w.n → Quiet (others w k) (w.p k) (w.d j) s
      all_quiet s e j below =
          le_or_lt (w.d j) s
          (λ low. low_quiet (others w k) (w.p k) (w.d j) s (others_fit w k place fits) low)
          (λ up. go (considers (eqb s (w.r k)) (w.d k) (w.d j)) refl up)
        where
          beyond : (t : Bool) → eqb s (w.r k) ≡ t → considers t (w.d k) (w.d j) ≡ false → (s ≡ w.r k) × (w.d k ≤ w.d j)
          beyond true at_r out = (eqb-true s (w.r k) at_r, ltb-false (w.d j) (w.d k) out)
          beyond false _ out = absurd (true≢false out)

          go : (t : Bool) → considers (eqb s (w.r k)) (w.d k) (w.d j) ≡ t → s < w.d j → Quiet (others w k) (w.p k) (w.d j) s
          go true asked up =
              passed_quiet (others w k) o (record { sorted = order.sorted; once = order.once }) (w.p k) (eqb s (w.r k)) (w.d k) s e j
              below up asked
          go false out up = let z = beyond (eqb s (w.r k)) refl out in rw z.0 (high_quiet (w.d j) z.1)

      -- all starts passed are barred
      abbrev Passed : ℕ → Type 0
      Passed s = (x : ℕ) → w.r k ≤ x → x < s → Barred (others w k) (w.p k) x

      none_passed : (s : ℕ) → Passed s → (x : ℕ) → w.r k ≤ x → x < s → x + w.p k ≤ w.d k → Plannable (fixed_at w k x) → ⊥
      none_passed s so x from less room = barred_none x room (so x from less)

      found_least : (s : ℕ) → w.r k ≤ s → Passed s → s + w.p k ≤ w.d k → next s ≡ s → IsLeastStart w k s
      found_least s from so room e =
          record {
            from_r = from;
            room = room;
            plan =
                clear_plan w k s (s + w.p k) place (fixed_formed w formed k s place room) (others_fit w k place fits)
                (quiet_clear (others w k) (w.p k) s (all_quiet s e));
            least = λ x l less. none_passed s so x l less (omega (arith, less, room));
          }

      search_finds : (fuel s : ℕ) → w.r k ≤ s → suc (w.d k) - (s + w.p k) < fuel → Passed s
          → StartLaw w k (start_from (others w k) o (w.r k) (w.d k) (w.p k) fuel s)
      unfolding start_from
      search_finds zero s from enough so = absurd (omega (arith, enough))
      search_finds (suc fuel) s from enough so =
          let rest = start_from (others w k) o (w.r k) (w.d k) (w.p k) fuel (next s) in
          cond_cases (StartLaw w k) (ltb (w.d k) (s + w.p k)) None (cond (eqb (next s) s) (Some s) rest)
          (λ used x l room. none_passed s so x l (omega (arith, room, ltb-true (w.d k) (s + w.p k) used)) room)
          (λ left.
          let room : s + w.p k ≤ w.d k = ltb-false (w.d k) (s + w.p k) left in
          cond_cases (StartLaw w k) (eqb (next s) s) (Some s) rest
          (λ e. found_least s from so room (eqb-true (next s) s e))
          (λ e.
          let up = passed_up (others w k) o (w.p k) (eqb s (w.r k)) (w.d k) w.n s in
          let ne = eqb-false (next s) s e in
          search_finds fuel (next s) (omega (arith, from, up)) (omega (arith, enough, up, ne, room))
          (λ x l less.
          le_or_lt s x
          (λ q. passed_barred (others w k) o (record { sorted = order.sorted; once = order.once }) (w.p k) (eqb s (w.r k)) (w.d k) s
          (others_busy s from) w.n x q less)
          (λ q. so x l q))))

      pub start_law : StartLaw w k (start_by_jumps w o k)
      unfolding start_by_jumps
      start_law =
          rw (lt-ltb k w.n place)
          (search_finds _ (w.r k) (omega arith) (omega arith) (λ x l less. absurd (omega (arith, l, less))))
