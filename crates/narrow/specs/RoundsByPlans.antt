-- Steps and rounds as document 01 has them, said of plans and not of a test.
use Rattle.std.specs.Prelude.{ℕ, zero, suc, ◌≡◌, Bool, cond, List, [], ◌∷◌, ◌++◌}
use Rattle.base.specs.Outcomes.{Code, code, Outcome, answered, refused}
use Rattle.windows.specs.Windows.{Windows, with_r, with_d}
use Rattle.windows.specs.FixedEntries.{IsLeastStart, NoStart, IsGreatestEnd, NoEnd}
use Rattle.narrow.specs.Rounds.{Side, earliest, latest, Narrowed, counted}
use Rattle.narrow.specs.StepLists.{Step}

-- what a step for entry k gives: the windows with the minute found, or row 10, which carries the place, where there is none
pub data StepGives (k : ℕ) (w : Windows) : Side → Outcome Windows → Type 0 where
  start : {s : ℕ} → IsLeastStart w k s → StepGives k w earliest (answered (with_r w k s))
  no_start : NoStart w k → StepGives k w earliest (refused (code 10 (k ∷ [])))
  end : {e : ℕ} → IsGreatestEnd w k e → StepGives k w latest (answered (with_d w k e))
  no_end : NoEnd w k → StepGives k w latest (refused (code 10 (k ∷ [])))

-- what steps give one after the other, with their moves counted; the first that finds no minute is the last
pub data StepsGive : List Step → Narrowed → Outcome Narrowed → Type 0 where
  done : {s : Narrowed} → StepsGive [] s (answered s)
  found : {x : Step} {xs : List Step} {s : Narrowed} {v : Windows} {o : Outcome Narrowed}
      → StepGives x.place s.windows x.side (answered v) → StepsGive xs (counted x.place s v) o → StepsGive (x ∷ xs) s o
  none : {x : Step} {xs : List Step} {s : Narrowed} {k : Code}
      → StepGives x.place s.windows x.side (refused k) → StepsGive (x ∷ xs) s (refused k)

-- "For a whole entry, its r becomes .. Then its d becomes .."
abbrev pub visit_steps : ℕ → List Step
visit_steps k = record { place = k; side = earliest } ∷ record { place = k; side = latest } ∷ []

-- "A round visits places from 0 up; pause entries are passed over.": its steps for the places below n
unfoldable pub round_steps : (ℕ → Bool) → ℕ → List Step
round_steps whole zero = []
round_steps whole (suc k) = round_steps whole k ++ cond (whole k) (visit_steps k) []

-- what one round gives
abbrev pub RoundGives : (ℕ → Bool) → Narrowed → Outcome Narrowed → Type 0
RoundGives whole s = StepsGive (round_steps whole s.windows.n) s

-- "Then rounds follow. .. A round without moves is the last, and what it leaves are the windows answered": what the rounds from s on give
pub data RoundsGive (whole : ℕ → Bool) : Narrowed → Outcome Narrowed → Type 0 where
  last : {s v : Narrowed} → RoundGives whole s (answered v) → v.moves ≡ s.moves → RoundsGive whole s (answered v)
  next : {s v : Narrowed} {o : Outcome Narrowed} → RoundGives whole s (answered v) → (v.moves ≡ s.moves → ⊥)
      → RoundsGive whole v o → RoundsGive whole s o
  stopped : {s : Narrowed} {k : Code} → RoundGives whole s (refused k) → RoundsGive whole s (refused k)

-- the steps of so many rounds
abbrev pub rounds_steps : (ℕ → Bool) → ℕ → ℕ → List Step
rounds_steps whole n zero = []
rounds_steps whole n (suc rounds) = round_steps whole n ++ rounds_steps whole n rounds
