-- What private functions promise each other. No public promise cites these.
use Rattle.std.specs.Prelude.{ℕ, List, Result}
use Rattle.list.specs.declared.types.Refusal.{Refusal}
use Rattle.rooms.specs.Turns.{turn_of}
use Rattle.room_rows.specs.Calls.{lent_in, NumbersTurn}

-- a turn over rows of three numbers, whatever stands behind them
abbrev pub TurnsRooms : (xs lists : List ℕ) (number : ℕ) (carried : List ℕ) → Result (List ℕ) Refusal
    → (new_rooms new_lists new_carried : List ℕ) → Type 0
TurnsRooms xs lists number carried = NumbersTurn (lent_in xs lists) (turn_of (lent_in xs lists) number) xs carried
