-- A room with c tables as a day of one table: slot c * t + j is table j of minute t.
use Rattle.std.specs.Prelude.{ℕ, ◌+◌, ◌*◌, ◌≡◌, ◌↔◌}
use Rattle.windows.specs.Windows.{Windows}
use Rattle.windows.specs.Plans.{Plan, Plannable}
use Rattle.windows.specs.Intervals.{work, Overloaded}
use Rattle.jackson.specs.Minutes.{schedule, FollowsJackson}
use Rattle.tables.specs.TablePlans.{TablePlan, TablePlannable}
use Rattle.tables.specs.Fillings.{filling, FollowsTables}
use Rattle.tables.specs.TableIntervals.{TableOverloaded}

-- the windows of the slots: a day of c times H minutes, each window from c * r to c * d
abbrev pub slots : ℕ → Windows → Windows
slots c w = record { h = c * w.h; n = w.n; r = λ i. c * w.r i; d = λ i. c * w.d i; p = w.p }

-- the places that the tables have, slots with these places given
abbrev pub at_tables : ℕ → (ℕ → ℕ) → ℕ → ℕ → ℕ
at_tables c m t j = m (c * t + j)

-- `slot_law` of proofs/SlotLaws.antt, for at least one table and all windows: plans, Jackson's rule, schedule and overloaded intervals of
-- the slots are those of the tables
pub record SlotLaw (c : ℕ) (w : Windows) : Type 0 where
  pub plan : (m : ℕ → ℕ) → Plan (slots c w) m ↔ TablePlan c w (at_tables c m)
  pub exists : Plannable (slots c w) ↔ TablePlannable c w
  pub follows : (m : ℕ → ℕ) → FollowsJackson (slots c w) m ↔ FollowsTables c w (at_tables c m)
  pub filled : filling c w ≡ schedule (slots c w)
  pub work_is : (a b : ℕ) → work (slots c w) (c * a) (c * b) ≡ work w a b
  pub overloaded : (a b : ℕ) → Overloaded (slots c w) (c * a) (c * b) ↔ TableOverloaded c w a b
  pub ends : (x y : ℕ) → Overloaded (slots c w) x y → (a : ℕ) × (b : ℕ) × (x ≡ c * a) × (y ≡ c * b)
