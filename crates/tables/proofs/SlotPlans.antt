-- A plan of the slots is a plan of the tables, and back.
-- Assumes nothing.
use mathlib.Core.Path.{◌≡◌, sym, ap, ◌∙◌}
use mathlib.Core.Logic.{◌↔◌}
use Prim.Native.Nat.{ℕ, ◌+◌, ◌*◌, ◌/◌, ◌%◌, ◌≤◌, ◌<◌}
use native.Mathlib.Omega.{arith}
use Rattle.base.specs.Counting.{same}
use Rattle.base.proofs.Sums.{sum_cong}
use Rattle.base.proofs.Multiples.{multiple_le, multiple_lt, of_multiple_le, of_multiple_lt, quotient_is, rest_is, quotient_rest, rest_below}
use Rattle.base.proofs.Multiples.{quotient_below, sum_multiple}
use Rattle.windows.specs.Windows.{Windows}
use Rattle.windows.specs.Plans.{Plan, Plannable}
use Rattle.tables.specs.TablePlans.{TablePlan, TablePlannable}
use Rattle.tables.specs.Slots.{slots, at_tables}

-- what agrees in the day's tables with a plan is one
pub tables_same : (c : ℕ) (w : Windows) (m x : ℕ → ℕ → ℕ) → ((t j : ℕ) → t < w.h → j < c → x t j ≡ m t j)
    → TablePlan c w m → TablePlan c w x
tables_same c w m x agrees plan =
    record {
      exact = λ i l.
          sum_cong w.h _ _ (λ t h. sum_cong c _ _ (λ j k. ap (λ (z : ℕ). same z i) (agrees t j h k)))
          ∙ plan.exact i l;
      inside = λ i t j l h k e. plan.inside i t j l h k (sym (agrees t j h k) ∙ e);
    }

module _ (c : ℕ) (some : 1 ≤ c) (w : Windows) where
  pub tables_of_slots : (m : ℕ → ℕ) → Plan (slots c w) m → TablePlan c w (at_tables c m)
  tables_of_slots m plan =
      record {
        exact = λ i l. sym (sum_multiple c w.h (λ s. same (m s) i)) ∙ plan.exact i l;
        inside =
            λ i t j l h k e.
            let z = plan.inside i (c * t + j) l (multiple_lt c w.h t j k h) e in
            (of_multiple_le c (w.r i) t j k z.0, of_multiple_lt c (w.d i) t j z.1);
      }

  pub slots_of_tables : (m : ℕ → ℕ) → TablePlan c w (at_tables c m) → Plan (slots c w) m
  slots_of_tables m plan =
      record {
        exact = λ i l. sum_multiple c w.h (λ s. same (m s) i) ∙ plan.exact i l;
        inside =
            λ i s l h e.
            let split = quotient_rest c some s in
            let z = plan.inside i (s / c) (s % c) l (quotient_below c some w.h s h) (rest_below c some s) (ap m split ∙ e) in (
              omega (arith, split, multiple_le c (w.r i) (s / c) (s % c) z.0),
              omega (arith, split, multiple_lt c (w.d i) (s / c) (s % c) (rest_below c some s) z.1),
            );
      }

  -- the slots with the places that the tables have
  abbrev pub at_slots : (ℕ → ℕ → ℕ) → ℕ → ℕ
  at_slots m s = m (s / c) (s % c)

  pub at_slots_lem : (m : ℕ → ℕ → ℕ) (t j : ℕ) → j < c → at_tables c (at_slots m) t j ≡ m t j
  at_slots_lem m t j l = λ x. m (quotient_is c some t j l x) (rest_is c some t j l x)

  pub plans_are : Plannable (slots c w) ↔ TablePlannable c w
  plans_are = (
    λ z. (_, tables_of_slots z.0 z.1),
    λ z. (_, slots_of_tables (at_slots z.0) (tables_same c w z.0 _ (λ t j _ k. at_slots_lem z.0 t j k) z.1)),
  )
