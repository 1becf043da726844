-- What the public functions promise of windows, whatever they are.
use Rattle.std.specs.Prelude.{ℕ, ◌<◌, ◌≡◌, List, Option}
use Rattle.list.specs.DayLists.{by_place}
use Rattle.order.specs.Orders.{value_at, HoldsOrder}
use Rattle.windows.specs.Windows.{Windows, Formed}
use Rattle.windows.specs.Plans.{Plannable}
use Rattle.edges.specs.Starts.{start_by_jumps}
use Rattle.edges.specs.Ends.{closed_end}
use Rattle.edges.specs.Laws.{StartLaw, EndLaw}

-- what `least_start` answers for entry k of the windows w: what the search finds, in the one order of the places with the largest r first
-- and of equals the lowest (there is one, `some_array`, and only one, `one_array` of the crate order)
pub record FindsStart (w : Windows) (k : ℕ) (f : Option ℕ) : Type 0 where
  pub by_jumps : (xs : List ℕ) → HoldsOrder w.n w.r xs → f ≡ start_by_jumps w (value_at xs) k
  -- the law, for windows with room that have a plan
  pub law : Formed w → Plannable w → k < w.n → StartLaw w k f

-- what `closed_ends` answers of the windows w: the closed form of each place, 0 from n on
pub record GivesEnds (w : Windows) (xs : List ℕ) : Type 0 where
  pub ends : xs ≡ by_place w.n (closed_end w)
  -- the law, for windows with room that have a plan
  pub law : Formed w → Plannable w → (k : ℕ) → k < w.n → EndLaw w k
