-- Least ends and greatest starts the fast way (request 7): those of pause entries are the closed form of edge-finding, in the windows and
-- in their mirror. That they are those of Ends.antt, where each end is tried, is `FastBounds`.
use Rattle.std.specs.Prelude.{ℕ, ◌+◌, ◌-◌, ◌≡◌, Bool, cond, List}
use Rattle.list.specs.DayLists.{by_place}
use Rattle.windows.specs.Windows.{Windows}
use Rattle.windows.specs.Mirrors.{mirror}
use Rattle.edges.specs.Ends.{closed_end}
use Rattle.bounds.specs.Ends.{least_ends, greatest_starts}

abbrev pub fast_end : (ℕ → Bool) → Windows → ℕ → ℕ
fast_end whole w k = cond (whole k) (w.r k + w.p k) (closed_end w k)

abbrev pub fast_ends : (ℕ → Bool) → Windows → List ℕ
fast_ends whole w = by_place w.n (fast_end whole w)

abbrev pub fast_starts : (ℕ → Bool) → Windows → List ℕ
fast_starts whole w = by_place w.n (λ k. w.h - fast_end whole (mirror w) k)

-- the law, for windows with room that have a plan
pub record FastBounds (whole : ℕ → Bool) (w : Windows) : Type 0 where
  pub ends : fast_ends whole w ≡ least_ends whole w
  pub starts : fast_starts whole w ≡ greatest_starts whole w
