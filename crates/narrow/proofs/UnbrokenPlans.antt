-- A plan that keeps every whole entry in one piece makes settled windows of its own, so it is a plan in the widest ones.
-- Assumes nothing.
use mathlib.Core.Path.{◌≡◌, refl, ap}
use mathlib.Core.Bool.{Bool, true, false, cond}
use Prim.Native.Nat.{ℕ, ◌+◌, ◌-◌, ◌<◌, ◌≤◌}
use native.Mathlib.Omega.{arith}
use Rattle.windows.specs.Windows.{Windows, with_windows, Formed}
use Rattle.windows.specs.Plans.{Plan, start_of, Consecutive}
use Rattle.windows.proofs.PlanFacts.{other_windows, widen, run_start, run_due, plan_start, start_released}
use Rattle.narrow.specs.Settling.{SettledInside, NoneSettled, Widest, Unbroken}

module _ (whole : ℕ → Bool) (w : Windows) (formed : Formed w) (m : ℕ → ℕ) (plan : Plan w m) (unbroken : Unbroken whole w m) where
  -- an entry's first minute
  abbrev start : ℕ → ℕ
  start = start_of w.h m

  -- [start, start + p) for whole entries, their own windows for the others
  abbrev own_r : ℕ → ℕ
  own_r i = cond (whole i) (start i) (w.r i)

  abbrev own_d : ℕ → ℕ
  own_d i = cond (whole i) (start i + w.p i) (w.d i)

  -- One whole entry.

  module _ (k : ℕ) (place : k < w.n) (is_whole : whole k ≡ true) where
    -- its minutes are consecutive from its start on
    run : Consecutive w.h m k (start k) (start k + w.p k)
    run =
        let z = unbroken k place is_whole in
        let some = formed.minutes k place in
        rw (run_start w.h m k (start k) z.0 _ (plan_start w m plan k place some) z.1 (omega arith)) at z.1

    -- they end by its d
    due : start k + w.p k ≤ w.d k
    due = run_due w m plan k place (formed.minutes k place) (start k) run

  -- All entries.

  -- what holds of [start, start + p) where the entry is whole, and of its own window
  own_cases : (i : ℕ) (P : ℕ → ℕ → Type 0) → (whole i ≡ true → P (start i) (start i + w.p i)) → P (w.r i) (w.d i) → P (own_r i) (own_d i)
  own_cases i P f g = go (whole i) refl
    where
      go : (t : Bool) → whole i ≡ t → P (cond t (start i) (w.r i)) (cond t (start i + w.p i) (w.d i))
      go true e = f e
      go false e = g

  own_plan : Plan (with_windows w own_r own_d) m
  own_plan =
      other_windows w own_r own_d m plan
      (λ i t place below e. own_cases i (λ r d. (r ≤ t) × (t < d)) (λ q. (run i place q).only t below e) (plan.inside i t place below e))

  own_settled : SettledInside whole w own_r own_d
  own_settled =
      record {
        inside =
            record {
              r = λ i place. own_cases i (λ r d. w.r i ≤ r) (λ _. start_released w m plan i place (formed.minutes i place)) (omega arith);
              d = λ i place. own_cases i (λ r d. d ≤ w.d i) (λ q. due i place q) (omega arith);
            };
        settled =
            record {
              plan = (m, own_plan);
              from_r = λ k place q. (m, own_plan, rw q (run k place q));
              up_to_d =
                  λ k place q.
                  let back : start k + w.p k - w.p k ≡ start k = omega arith in
                  (m, own_plan, rw (q, back) (run k place q));
            };
      }

  -- so some set is settled
  pub unbroken_some : NoneSettled whole w → ⊥
  unbroken_some none = none own_r own_d own_settled

  -- and it is a plan for the widest settled windows, since its own set lies inside them
  pub unbroken_widest : (v : Windows) → Widest whole w v → Plan v m
  unbroken_widest v best =
      let own = best.widest own_r own_d own_settled in
      rw best.entries
      (widen (with_windows w v.r v.d) own_r own_d m
      (record { r = λ i place. own.r i (rw same_n place); d = λ i place. own.d i (rw same_n place) })
      own_plan)
    where
      same_n : v.n ≡ w.n
      same_n = ap (λ (u : Windows). u.n) best.entries
