-- With one table: today's plans, rule, schedule, intervals and refusals.
-- Assumes nothing.
use mathlib.Core.Path.{◌≡◌, refl, sym, ap, subst, ◌∙◌}
use mathlib.Core.Logic.{◌↔◌}
use Prim.Native.Nat.{ℕ, ◌*◌, ◌≤◌, ◌<◌}
use native.Mathlib.Nat.{one-mul, div-one}
use native.Mathlib.Omega.{arith}
use mathlib.Core.List.{[], ◌∷◌}
use Rattle.base.specs.Outcomes.{Outcome, answered, refused, code}
use Rattle.windows.specs.Windows.{Windows}
use Rattle.windows.specs.Plans.{Plan}
use Rattle.windows.specs.Intervals.{work, Overloaded, overload_of}
use Rattle.windows.proofs.ShownInterval.{refused_shown}
use Rattle.jackson.specs.Minutes.{schedule, FollowsJackson}
use Rattle.tables.specs.TablePlans.{TablePlan}
use Rattle.tables.specs.Fillings.{FollowsTables}
use Rattle.tables.specs.Slots.{slots, at_tables, SlotLaw}
use Rattle.tables.specs.TableIntervals.{table_overload_of}
use Rattle.tables.specs.Laws.{OneTableLaw}
use Rattle.tables.proofs.SlotPlans.{tables_same}
use Rattle.tables.proofs.SlotStates.{tables_follow}
use Rattle.tables.proofs.SlotIntervals.{accepted_is, divided_is}
use Rattle.tables.proofs.SlotLaws.{slot_law}

module _ (w : Windows) where
  some : 1 ≤ 1
  some = omega arith

  slot : SlotLaw 1 w
  slot = slot_law 1 some w

  -- its slots are the minutes
  one_slots : slots 1 w ≡ w
  one_slots =
      λ x.
      record {
        h = one-mul w.h x;
        n = w.n;
        r = λ i. one-mul (w.r i) x;
        d = λ i. one-mul (w.d i) x;
        p = w.p;
      }

  at_minute : (m : ℕ → ℕ) (t j : ℕ) → j < 1 → at_tables 1 m t j ≡ m t
  at_minute m t j l = ap m (omega arith)

  plan_is : (m : ℕ → ℕ) → TablePlan 1 w (λ t _. m t) ↔ Plan w m
  plan_is m = (
    λ p. subst (λ v. Plan v m) one_slots ((slot.plan m).1 (tables_same 1 w _ _ (λ t j _ l. at_minute m t j l) p)),
    λ p. tables_same 1 w _ _ (λ t j _ l. sym (at_minute m t j l)) ((slot.plan m).0 (subst (λ v. Plan v m) (sym one_slots) p)),
  )

  follows_is : (m : ℕ → ℕ) → FollowsTables 1 w (λ t _. m t) ↔ FollowsJackson w m
  follows_is m = (
    λ f. subst (λ v. FollowsJackson v m) one_slots ((slot.follows m).1 (tables_follow 1 w _ _ (λ t j _ l. at_minute m t j l) f)),
    λ f.
        tables_follow 1 w _ _ (λ t j _ l. sym (at_minute m t j l))
        ((slot.follows m).0 (subst (λ v. FollowsJackson v m) (sym one_slots) f)),
  )

  -- an interval, and row 9
  ends_are : (a b : ℕ) → Overloaded (slots 1 w) (1 * a) (1 * b) ≡ Overloaded w a b
  ends_are a b = λ x. Overloaded (one_slots x) (one-mul a x) (one-mul b x)

  row_nine : table_overload_of 1 w ≡ overload_of w
  row_nine = go (overload_of w) refl
    where
      same_row : overload_of (slots 1 w) ≡ overload_of w
      same_row = ap overload_of one_slots

      go : (o : Outcome (Unit {0})) → overload_of w ≡ o → table_overload_of 1 w ≡ o
      go (answered t) e = (accepted_is 1 some w).0 (same_row ∙ e)
      go (refused k) e =
          let s = refused_shown w k e in
          let is = divided_is 1 some w s.a s.b _ (same_row ∙ e ∙ ap refused s.carries) in
          is ∙ (λ x. refused (code 9 (div-one s.a x ∷ div-one s.b x ∷ work w s.a s.b ∷ []))) ∙ ap refused (sym s.carries)

  pub one_table_law : OneTableLaw w
  one_table_law =
      record {
        plan = plan_is;
        follows = follows_is;
        filled = slot.filled ∙ ap schedule one_slots;
        overloaded = λ a b. (
          λ o. subst (λ z. z) (ends_are a b) ((slot.overloaded a b).1 o),
          λ o. (slot.overloaded a b).0 (subst (λ z. z) (sym (ends_are a b)) o),
        );
        row_nine = row_nine;
      }
