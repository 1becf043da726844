-- What the exported turn at the control desk answers, as numbers, and what it leaves in all that is lent.
use Rattle.std.specs.Prelude.{ℕ, ◌≡◌, List, length}
use Rattle.base.specs.Outcomes.{Outcome}
use Rattle.rooms.specs.Turns.{Lent, Turn}
use Rattle.room_rows.specs.Calls.{lent_in, turn_in, turn_values, RoomsLeft}
use Rattle.abi.specs.Calls.{answer_with}
use Rattle.abi.specs.declared.Answer.{Answer}

-- an answer where a turn over x, whose rooms are the numbers xs, has the outcome o, and what it leaves
pub record TurnedCall (x : Lent) (o : Outcome Turn) (xs old_carried : List ℕ) (a : Answer)
    (new_rooms new_lists new_carried : List ℕ) : Type 0 where
  pub answer : a ≡ answer_with (turn_values (length x.rows)) o
  pub left : RoomsLeft x o xs old_carried new_rooms new_lists new_carried

-- what `dock_turn` answers of the rooms' numbers xs, their lists and a number, and leaves there: row 100 for xs, then as `turn`
abbrev pub TurnCall : (xs lists : List ℕ) (number : ℕ) (carried : List ℕ) → Answer → (new_rooms new_lists new_carried : List ℕ) → Type 0
TurnCall xs lists number carried = TurnedCall (lent_in xs lists) (turn_in xs lists number) xs carried
