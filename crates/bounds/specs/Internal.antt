-- What private functions promise each other, beside `Formed` and `Searchable` of the crate windows. No public promise cites these.
use Rattle.std.specs.Prelude.{ℕ, ◌<◌, ◌≡◌, Bool, true, false, List, ◌++◌, get_or, drop}
use Rattle.base.specs.Outcomes.{accepts}
use Rattle.windows.specs.Windows.{Windows}
use Rattle.windows.specs.Intervals.{overload_of}
use Rattle.edges.specs.Ends.{closed_end}
use Rattle.bounds.specs.ShownPlans.{bound_of, shown_plan}
use Rattle.bounds.specs.declared.types.Shown.{Shown}

-- the bound of entry k is answered, and the plan shown stands in a plan buffer that held old
pub record StoresShown (x : Shown) (whole : ℕ → Bool) (w : Windows) (k : ℕ) (old : List ℕ) (b : ℕ) (new : List ℕ) : Type 0 where
  pub bound : b ≡ bound_of x whole k w
  pub buffer : new ≡ shown_plan x whole k w ++ drop w.h old

-- a number for each pause entry: its least end in closed form
abbrev pub PauseEnds : (ℕ → Bool) → Windows → List ℕ → Type 0
PauseEnds whole w xs = (k : ℕ) → k < w.n → whole k ≡ false → get_or xs k 0 ≡ closed_end w k

-- if there is a pause entry, whether there is a plan
abbrev pub PausesPlanned : (ℕ → Bool) → Windows → Bool → Type 0
PausesPlanned whole w planned = (k : ℕ) → k < w.n → whole k ≡ false → planned ≡ accepts (overload_of w)

-- all of the first n entries are whole
abbrev pub AllWhole : ℕ → (ℕ → Bool) → Bool → Type 0
AllWhole n whole b = b ≡ true → (i : ℕ) → i < n → whole i ≡ true
