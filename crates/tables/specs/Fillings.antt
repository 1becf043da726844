-- "Each minute Jackson's rule fills the tables in turn; the box that goes on is the one at the table just filled, for table 0 the last table
-- of the minute before.": as an algorithm (`filling`) and as facts (`FollowsTables`).
use Rattle.std.specs.Prelude.{ℕ, zero, suc, ◌+◌, ◌-◌, ◌<◌, List}
use Rattle.base.specs.Counting.{sum, same}
use Rattle.windows.specs.Windows.{Windows, with_left}
use Rattle.windows.specs.Plans.{idle}
use Rattle.jackson.specs.Minutes.{State, day_start, chosen, Takes, less_one}
use Rattle.tables.specs.TablePlans.{table_minutes_of, table_bytes}

-- the state after a table got place k, or idle: it is the same minute still, and k is what stands at the table just filled
abbrev pub after_table : State → ℕ → State
after_table s k = record { windows = less_one s.windows k; t = s.t; last = k }

-- the state after j tables of the minute; each gets the place that Jackson's rule takes
unfoldable pub after_tables : ℕ → State → State
after_tables zero s = s
after_tables (suc j) s = after_table (after_tables j s) (chosen (after_tables j s))

-- the state in which the next minute begins, once all c tables are filled
abbrev pub next_minute : ℕ → State → State
next_minute c s = record { windows = (after_tables c s).windows; t = s.t + 1; last = (after_tables c s).last }

-- the state k minutes later
unfoldable pub later_at : ℕ → ℕ → State → State
later_at c zero s = s
later_at c (suc k) s = next_minute c (later_at c k s)

-- the place that table j has in the minute k minutes later
abbrev pub table_at : ℕ → State → ℕ → ℕ → ℕ
table_at c s k j = chosen (after_tables j (later_at c k s))

-- the filling of the day's tables, as the bytes of a plan
unfoldable pub filling : ℕ → Windows → List ℕ
filling c w = table_bytes c w.h (table_at c (day_start w))

-- The same of places alone, a plan's or not.

-- the entry at the last table of the minute before minute t in m, idle for none
abbrev pub last_before : ℕ → (ℕ → ℕ → ℕ) → ℕ → ℕ
last_before c m zero = idle
last_before c m (suc t) = m t (c - 1)

-- the entry at the table just filled, when table j of minute t comes next
abbrev pub just_filled : ℕ → (ℕ → ℕ → ℕ) → ℕ → ℕ → ℕ
just_filled c m t zero = last_before c m t
just_filled c m t (suc j) = m t j

-- the table minutes that m gives to place i before table j of minute t
abbrev pub given_before : ℕ → (ℕ → ℕ → ℕ) → ℕ → ℕ → ℕ → ℕ
given_before c m t j i = table_minutes_of c t m i + sum j (λ k. same (m t k) i)

-- the state when table j of minute t comes next: each entry has left what m did not give it
abbrev pub state_before : ℕ → Windows → (ℕ → ℕ → ℕ) → ℕ → ℕ → State
state_before c w m t j = record { windows = with_left w (λ i. w.p i - given_before c m t j i); t = t; last = just_filled c m t j }

-- each table of each minute has the place that the rule takes; this leaves one m, and the filling is that one (`FillingLaw` of Laws.antt)
abbrev pub FollowsTables : ℕ → Windows → (ℕ → ℕ → ℕ) → Type 0
FollowsTables c w m = (t j : ℕ) → t < w.h → j < c → Takes (state_before c w m t j) (m t j)
