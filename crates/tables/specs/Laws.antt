-- The law of plans for c tables, that of Jackson's filling, and what they say of one table.
use Rattle.std.specs.Prelude.{ℕ, ◌*◌, ◌-◌, ◌<◌, ◌≤◌, ◌≡◌, ◌↔◌}
use Rattle.base.specs.Outcomes.{Code, answered, refused}
use Rattle.windows.specs.Windows.{Windows}
use Rattle.windows.specs.Plans.{Plan}
use Rattle.windows.specs.Intervals.{Overloaded, overload_of}
use Rattle.jackson.specs.Minutes.{schedule, FollowsJackson}
use Rattle.tables.specs.TablePlans.{TablePlan, TablePlannable, TablePlanBytes, tables_in}
use Rattle.tables.specs.Fillings.{filling, FollowsTables}
use Rattle.tables.specs.TableIntervals.{TableOverloaded, NoTableOverload, ShowsTableOverload, table_overload_of}

-- what row 7 leaves: "d at most H, r at most d, p at most c times d - r". An entry that needs no minute needs no room.
pub record TableRoomy (c : ℕ) (w : Windows) : Type 0 where
  pub in_day : (i : ℕ) → i < w.n → 1 ≤ w.p i → w.d i ≤ w.h
  pub order : (i : ℕ) → i < w.n → 1 ≤ w.p i → w.r i ≤ w.d i
  pub room : (i : ℕ) → i < w.n → 1 ≤ w.p i → w.p i ≤ c * (w.d i - w.r i)

-- `table_law` of proofs/TableLaws.antt, for at least one table and at most 255 windows that have room for it
pub record TableLaw (c : ℕ) (w : Windows) : Type 0 where
  -- "a plan exists exactly when no interval is" overloaded
  pub exists : TablePlannable c w ↔ NoTableOverload c w
  -- exactly when the test accepts the windows, and none exists exactly when it refuses them
  pub accepted : TablePlannable c w ↔ table_overload_of c w ≡ answered tt
  pub turned_back : (TablePlannable c w → ⊥) ↔ (k : Code) × (table_overload_of c w ≡ refused k)
  -- and that refusal is row 9 with the interval shown and its work
  pub shown : (k : Code) → table_overload_of c w ≡ refused k → ShowsTableOverload c w k

-- `filling_law` of proofs/TableLaws.antt, likewise: Jackson's filling is a plan exactly if there is one; each table of each minute has the
-- place that the rule takes, and it is the only filling of which this holds
pub record FillingLaw (c : ℕ) (w : Windows) : Type 0 where
  pub plan : TablePlannable c w ↔ TablePlanBytes c w (filling c w)
  pub follows : FollowsTables c w (tables_in c (filling c w))
  pub one : (m : ℕ → ℕ → ℕ) → FollowsTables c w m → (t j : ℕ) → t < w.h → j < c → m t j ≡ tables_in c (filling c w) t j

-- `one_table_law` of proofs/OneTable.antt, for all windows: "with c = 1 giving today's plans and refusals"
pub record OneTableLaw (w : Windows) : Type 0 where
  pub plan : (m : ℕ → ℕ) → TablePlan 1 w (λ t _. m t) ↔ Plan w m
  pub follows : (m : ℕ → ℕ) → FollowsTables 1 w (λ t _. m t) ↔ FollowsJackson w m
  pub filled : filling 1 w ≡ schedule w
  pub overloaded : (a b : ℕ) → TableOverloaded 1 w a b ↔ Overloaded w a b
  pub row_nine : table_overload_of 1 w ≡ overload_of w
