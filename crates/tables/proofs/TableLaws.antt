-- The law of plans for c tables and that of Jackson's filling, from the laws of the slots.
-- Assumes nothing.
use mathlib.Core.Path.{ap, sym, ◌∙◌}
use Prim.Native.Nat.{ℕ, ◌+◌, ◌*◌, ◌≤◌}
use native.Mathlib.Nat.{mul-sub, mul-le-mul_left}
use native.Mathlib.Omega.{arith}
use Rattle.base.proofs.Multiples.{multiple_lt}
use Rattle.windows.specs.Windows.{Windows, Roomy}
use Rattle.windows.specs.Plans.{PlanBytes, places_in}
use Rattle.jackson.specs.Minutes.{schedule}
use Rattle.jackson.specs.Laws.{PlanLaw, ScheduleLaw}
use Rattle.jackson.proofs.Law.{plan_law, schedule_law}
use Rattle.tables.specs.TablePlans.{TablePlanBytes, tables_in}
use Rattle.tables.specs.Fillings.{filling}
use Rattle.tables.specs.Slots.{slots, at_tables, SlotLaw}
use Rattle.tables.specs.Laws.{TableRoomy, TableLaw, FillingLaw}
use Rattle.tables.proofs.SlotPlans.{at_slots, at_slots_lem}
use Rattle.tables.proofs.SlotStates.{tables_follow}
use Rattle.tables.proofs.SlotIntervals.{none_is, accepted_is, refused_is, is_refused, shows_is}
use Rattle.tables.proofs.SlotLaws.{slot_law}

module _ (c : ℕ) (some : 1 ≤ c) (w : Windows) (roomy : TableRoomy c w) (few : w.n ≤ 255) where
  -- the slots have room
  slots_roomy : Roomy (slots c w)
  slots_roomy =
      record {
        in_day = λ i l p. mul-le-mul_left {m = w.d i} {n = w.h} c (roomy.in_day i l p);
        room =
            λ i l p.
            let order = mul-le-mul_left {m = w.r i} {n = w.d i} c (roomy.order i l p) in
            omega (arith, roomy.room i l p, mul-sub c (w.d i) (w.r i), order);
      }

  law : PlanLaw (slots c w)
  law = plan_law (slots c w) slots_roomy few

  schedules : ScheduleLaw (slots c w)
  schedules = schedule_law (slots c w) slots_roomy few

  slot : SlotLaw c w
  slot = slot_law c some w

  pub table_law : TableLaw c w
  table_law =
      record {
        exists = (
          λ p. (none_is c some w).0 (law.exists.0 (slot.exists.1 p)),
          λ none. slot.exists.0 (law.exists.1 ((none_is c some w).1 none)),
        );
        accepted = (
          λ p. (accepted_is c some w).0 (law.accepted.0 (slot.exists.1 p)),
          λ e. slot.exists.0 (law.accepted.1 ((accepted_is c some w).1 e)),
        );
        turned_back = (
          λ without.
              let z = law.turned_back.0 (λ p. without (slot.exists.0 p)) in
              (_, (refused_is c some w z.0 z.1).1),
          λ z p. law.turned_back.1 (_, (is_refused c some w z.0 z.1).1) (slot.exists.1 p),
        );
        shown = shows_is c some w law.shown;
      }

  -- bytes that are a plan of the slots are one of the tables
  bytes_are : PlanBytes (slots c w) (schedule (slots c w)) → TablePlanBytes c w (filling c w)
  bytes_are bytes =
      rw slot.filled
      (record {
        long = bytes.long;
        places = λ t j h k. bytes.places (c * t + j) (multiple_lt c w.h t j k h);
        plan = (slot.plan (places_in (schedule (slots c w)))).0 bytes.plan;
      })

  pub filling_law : FillingLaw c w
  filling_law =
      record {
        plan = (λ p. bytes_are (schedules.plan.0 (slot.exists.1 p)), λ bytes. (_, bytes.plan));
        follows = rw slot.filled ((slot.follows (places_in (schedule (slots c w)))).0 schedules.follows);
        one =
            λ m follows t j h l.
            let same = tables_follow c w m (at_tables c (at_slots c some w m)) (λ t j _ k. at_slots_lem c some w m t j k) follows in
            let is = schedules.one (at_slots c some w m) ((slot.follows _).1 same) (c * t + j) (multiple_lt c w.h t j l h) in
            sym (at_slots_lem c some w m t j l) ∙ is ∙ ap (λ xs. tables_in c xs t j) (sym slot.filled);
      }
