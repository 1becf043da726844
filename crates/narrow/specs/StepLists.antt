-- Lists of narrowing steps.
use Rattle.std.specs.Prelude.{ℕ, ◌<◌, ◌≡◌, Bool, true, false, not, ◌||◌, List, [], ◌∷◌}
use Rattle.base.specs.Outcomes.{Outcome, answered, refused, accepts}
use Rattle.windows.specs.Windows.{Windows}
use Rattle.narrow.specs.Searching.{Test}
use Rattle.narrow.specs.Rounds.{Side, step}

-- "A narrowing step .. names a whole entry and a side"
pub record Step : Type 0 where
  pub place : ℕ
  pub side : Side

-- each step names a whole entry
abbrev pub NamesWhole : (ℕ → Bool) → ℕ → List Step → Type 0
NamesWhole whole n [] = Unit {0}
NamesWhole whole n (s ∷ ss) = (s.place < n) × (whole s.place ≡ true) × NamesWhole whole n ss

-- "A step that finds no minute is refused and changes no window."
abbrev pub left_by : Outcome Windows → Windows → Windows
left_by (answered v) w = v
left_by (refused k) w = w

-- "A list of steps, the empty one too, starts from the given windows; each step gets the windows that the last one left, and nothing
-- else changes them": the windows that it leaves
unfoldable pub steps_leave : Test → List Step → Windows → Windows
steps_leave test [] w = w
steps_leave test (s ∷ ss) w = steps_leave test ss (left_by (step test s.side s.place w) w)

-- whether one of its steps is refused
unfoldable pub some_refused : Test → List Step → Windows → Bool
some_refused test [] w = false
some_refused test (s ∷ ss) w = let o = step test s.side s.place w in not (accepts o) || some_refused test ss (left_by o w)

-- no step would now change a window or be refused
abbrev pub NothingLeft : Test → (ℕ → Bool) → Windows → Type 0
NothingLeft test whole w = (k : ℕ) (side : Side) → k < w.n → whole k ≡ true → step test side k w ≡ answered w

-- a list of steps from w after which nothing is left to do; that then none of them was refused is part of the law (`refused_once`)
pub record Completes (test : Test) (whole : ℕ → Bool) (w : Windows) (ss : List Step) : Type 0 where
  pub names : NamesWhole whole w.n ss
  pub nothing_left : NothingLeft test whole (steps_leave test ss w)
