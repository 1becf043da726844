-- What holds of the slots holds of the tables.
-- Assumes nothing.
use Prim.Native.Nat.{ℕ, ◌≤◌}
use Rattle.windows.specs.Windows.{Windows}
use Rattle.tables.specs.Slots.{SlotLaw}
use Rattle.tables.proofs.SlotPlans.{tables_of_slots, slots_of_tables, plans_are}
use Rattle.tables.proofs.SlotStates.{follows_tables, follows_slots}
use Rattle.tables.proofs.SlotFillings.{filling_is}
use Rattle.tables.proofs.SlotIntervals.{slot_work, to_slots, of_slots, slot_ends}

pub slot_law : (c : ℕ) → 1 ≤ c → (w : Windows) → SlotLaw c w
slot_law c some w =
    record {
      plan = λ m. (tables_of_slots c some w m, slots_of_tables c some w m);
      exists = plans_are c some w;
      follows = λ m. (follows_tables c some w m, follows_slots c some w m);
      filled = filling_is c some w;
      work_is = slot_work c some w;
      overloaded = λ a b. (of_slots c some w a b, to_slots c some w a b);
      ends = slot_ends c some w;
    }
