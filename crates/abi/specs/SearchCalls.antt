-- What the exported call about unbroken days answers, as numbers, and what it leaves in the lent buffers.
use Rattle.std.specs.Prelude.{ℕ, ◌≡◌, Bool, List, length}
use Rattle.base.specs.Outcomes.{Outcome, answered, refused, and_then}
use Rattle.list.specs.DayLists.{whole_in}
use Rattle.list.specs.declared.types.DayList.{DayList}
use Rattle.narrow.specs.Rounds.{Narrowed}
use Rattle.narrow.specs.Calls.{listed}
use Rattle.planner.specs.Calls.{plan_of}
use Rattle.backtracking.specs.Searches.{Search, found, none, spent}
use Rattle.backtracking.specs.Calls.{ending_number}
use Rattle.unbroken.specs.Calls.{unbroken_of, ending_after, trials_after, whole_starts, unbroken_after}
use Rattle.flat.specs.Flat.{value_of, flat_beside}
use Rattle.abi.specs.Calls.{NarrowCall}
use Rattle.abi.specs.declared.Answer.{Answer}

-- the lent starts: those of a day that was found, or what was there
abbrev pub starts_given : (ℕ → Bool) → List ℕ → Outcome Search → List ℕ
starts_given whole old (answered (found u t)) = whole_starts whole u
starts_given whole old (answered (none t)) = old
starts_given whole old (answered (spent t)) = old
starts_given whole old (refused k) = old

-- an answer where narrowing the list l has the outcome o and the search in its settled windows ended with x: the moves, the ending and the
-- trials; and what is left in a plan buffer, a row and starts that held the old ones
pub record SearchedCall (l : DayList) (o : Outcome Narrowed) (x : Outcome Search) (old_plan old_fields old_starts : List ℕ)
    (a : Answer) (new_plan new_fields new_starts : List ℕ) : Type 0 where
  pub narrowed : NarrowCall (listed l o) (ending_number (ending_after x)) (trials_after x) old_fields a new_fields
  pub plan : new_plan ≡ unbroken_after old_plan x
  pub starts : new_starts ≡ starts_given (whole_in l) old_starts x

-- what `dock_unbroken` answers of the row xs and a limit of trials, and leaves in what is lent
abbrev pub UnbrokenCall : List ℕ → ℕ → List ℕ → List ℕ → List ℕ → Answer → List ℕ → List ℕ → List ℕ → Type 0
UnbrokenCall xs limit old_plan old_fields =
    let rows = flat_beside xs (length old_fields) in
    SearchedCall (value_of xs) (and_then rows (λ l. plan_of l (length old_plan)))
    (and_then rows (λ l. unbroken_of l limit (length old_plan)))
    old_plan old_fields
