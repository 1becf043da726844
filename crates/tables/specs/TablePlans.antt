-- Plans for c tables. "Minutes needed become table minutes": w.p i is those that the entry at place i needs.
use Rattle.std.specs.Prelude.{ℕ, ◌+◌, ◌*◌, ◌<◌, ◌≤◌, ◌≡◌, ◌⊎◌, List, length}
use Rattle.base.specs.Counting.{sum, same, list_of, concat_of}
use Rattle.windows.specs.Windows.{Windows}
use Rattle.windows.specs.Plans.{idle, places_in}

-- How many of the minutes below h, at c tables, m gives to place i: m t j is the place that has table j in minute t; a number that is no
-- place is none.
abbrev pub table_minutes_of : ℕ → ℕ → (ℕ → ℕ → ℕ) → ℕ → ℕ
table_minutes_of c h m i = sum h (λ t. sum c (λ j. same (m t j) i))

-- "entry i has exactly p minutes, all in [r, d)", here table minutes; "one box may be spread over several in the same minute": m t j and
-- m t k may be the same place
pub record TablePlan (c : ℕ) (w : Windows) (m : ℕ → ℕ → ℕ) : Type 0 where
  pub exact : (i : ℕ) → i < w.n → table_minutes_of c w.h m i ≡ w.p i
  pub inside : (i t j : ℕ) → i < w.n → t < w.h → j < c → m t j ≡ i → (w.r i ≤ t) × (t < w.d i)

-- there is a plan
abbrev pub TablePlannable : ℕ → Windows → Type 0
TablePlannable c w = (m : ℕ → ℕ → ℕ) × TablePlan c w m

-- "A plan is c times H bytes, minute by minute, table by table": the bytes of m, and the places that bytes give to the tables
abbrev pub table_bytes : ℕ → ℕ → (ℕ → ℕ → ℕ) → List ℕ
table_bytes c h m = concat_of h (λ t. list_of c (m t))

abbrev pub tables_in : ℕ → List ℕ → ℕ → ℕ → ℕ
tables_in c bytes t j = places_in bytes (c * t + j)

-- bytes that are a plan
pub record TablePlanBytes (c : ℕ) (w : Windows) (bytes : List ℕ) : Type 0 where
  pub long : length bytes ≡ c * w.h
  pub places : (t j : ℕ) → t < w.h → j < c → (tables_in c bytes t j < w.n) ⊎ (tables_in c bytes t j ≡ idle)
  pub plan : TablePlan c w (tables_in c bytes)
