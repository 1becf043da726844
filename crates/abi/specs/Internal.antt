-- What private functions promise each other. No public promise cites these.
use Rattle.std.specs.Prelude.{ℕ, ◌≡◌, cond, List, ◌++◌, Result, Ok, Err}
use Rattle.base.specs.Outcomes.{Outcome, answered, and_then}
use Rattle.list.specs.Refusals.{code_of, outcome_of}
use Rattle.list.specs.declared.types.Refusal.{Refusal}
use Rattle.narrow.specs.Calls.{narrow_answer_of}
use Rattle.planner.specs.declared.types.PlannedDay.{PlannedDay}
use Rattle.planner.specs.declared.types.ShownPlan.{ShownPlan}
use Rattle.commits.specs.declared.types.StampedDay.{StampedDay}
use Rattle.commits.specs.declared.types.CommitAnswer.{CommitAnswer}
use Rattle.backtracking.specs.Calls.{is_found, ending_number}
use Rattle.unbroken.specs.declared.types.UnbrokenSearch.{UnbrokenSearch}
use Rattle.codes.specs.Codes.{three}
use Rattle.abi.specs.Calls.{NarrowCall}
use Rattle.abi.specs.declared.Answer.{Answer}

-- an answer made of a refusal
abbrev pub RefusedAs : Refusal → Answer → Type 0
RefusedAs x b = b ≡ record { number = (code_of x).number; values = three (code_of x).carries }

-- what planning answered, as numbers, with a third value, and what that leaves in a row and bounds that held the old ones
abbrev pub GivesPlanned : Result PlannedDay Refusal → (third : ℕ) (old_fields old_bounds : List ℕ) → Answer
    → (new_fields new_bounds : List ℕ) → Type 0
GivesPlanned (Ok p) third old_fields old_bounds b new_fields new_bounds =
    NarrowCall (narrow_answer_of (Ok p.narrowed)) p.broken third old_fields b new_fields × (new_bounds ≡ p.ends ++ p.starts)
GivesPlanned (Err x) third old_fields old_bounds b new_fields new_bounds =
    RefusedAs x b × (new_fields ≡ old_fields) × (new_bounds ≡ old_bounds)

-- what showing a plan answered, likewise
abbrev pub GivesShown : Result ShownPlan Refusal → List ℕ → Answer → List ℕ → Type 0
GivesShown (Ok p) old b new = NarrowCall (narrow_answer_of (Ok p.narrowed)) p.bound 0 old b new
GivesShown (Err x) old b new = RefusedAs x b × (new ≡ old)

-- what looking for an unbroken day answered, likewise
abbrev pub GivesSearch : Result UnbrokenSearch Refusal → (old_fields old_starts : List ℕ) → Answer → (new_fields new_starts : List ℕ) → Type 0
GivesSearch (Ok u) old_fields old_starts b new_fields new_starts =
    NarrowCall (narrow_answer_of (Ok u.narrowed)) (ending_number u.ending) u.trials old_fields b new_fields
    × (new_starts ≡ cond (is_found u.ending) u.starts old_starts)
GivesSearch (Err x) old_fields old_starts b new_fields new_starts = RefusedAs x b × (new_fields ≡ old_fields) × (new_starts ≡ old_starts)

-- the day that a commit answered, if it succeeded
abbrev pub committed_day : CommitAnswer → Outcome StampedDay
committed_day a = and_then (outcome_of a.planned) (λ _. answered a.day)
