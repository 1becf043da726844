-- What private functions promise each other. No public promise cites these.
use Rattle.std.specs.Prelude.{ℕ, ◌<◌, ◌≡◌, Bool, List, get_or, Option, Some, None, Result, Ok, Err}
use Rattle.base.specs.Outcomes.{Outcome, answered, refused}
use Rattle.list.specs.Machine.{Bytes}
use Rattle.list.specs.Refusals.{code_of, outcome_of}
use Rattle.list.specs.Checks.{WellFormed}
use Rattle.list.specs.declared.types.DayList.{DayList}
use Rattle.list.specs.declared.types.Refusal.{Refusal}
use Rattle.narrow.specs.Calls.{narrow_answer_of}
use Rattle.narrow.specs.declared.types.NarrowedList.{NarrowedList}
use Rattle.rooms.specs.Cycles.{next_unfinished}
use Rattle.rooms.specs.Rooms.{is_unfinished, round_in, row_after, share_after, said_by}
use Rattle.rooms.specs.Turns.{no_row, share_of, put_share, Turn, took, none_unfinished, answer_of}
use Rattle.rooms.specs.Calls.{turn_by}
use Rattle.rooms.specs.declared.types.Stage.{Stage}
use Rattle.rooms.specs.declared.types.Room.{Room}
use Rattle.rooms.specs.declared.types.RoomAnswer.{RoomAnswer}
use Rattle.rooms.specs.declared.types.TurnTaken.{TurnTaken}

-- what `round_in` answers of a stage and a share; a list answered passes the value check
pub record FindsRound (stage : Stage) (share : List ℕ) (a : Result NarrowedList Refusal) : Type 0 where
  pub outcome : narrow_answer_of a ≡ round_in stage share
  pub formed : (v : NarrowedList) → a ≡ Ok v → WellFormed v.list

-- what `room_round` answers of a row and a share that held old, and what the share then holds
pub record RoundsRoom (r : Room) (old : List ℕ) (a : RoomAnswer) (new : List ℕ) : Type 0 where
  pub row : a.row ≡ row_after r (round_in r.stage old)
  pub share : new ≡ share_after old (round_in r.stage old)
  pub said : outcome_of a.round ≡ said_by (round_in r.stage old)

-- which rooms are unfinished, by rows held by value
abbrev pub unfinished_in : List Room → ℕ → Bool
unfinished_in rows i = is_unfinished (get_or rows i no_row).stage

-- the next unfinished of n rooms from a number, none where nothing is unfinished
abbrev pub FindsNext : (ℕ → Bool) → ℕ → ℕ → Option ℕ → Type 0
FindsNext unfinished n number (Some k) = (k < n) × (k ≡ next_unfinished unfinished n number)
FindsNext unfinished n number None = n ≡ next_unfinished unfinished n number

-- the round of room k
abbrev pub round_at : List Room → ℕ → List ℕ → Outcome (DayList × ℕ)
round_at rows k lists = round_in (get_or rows k no_row).stage (share_of k lists)

-- what a turn of the first n rows answers
unfoldable pub answer_held : List Room → ℕ → ℕ → List ℕ → Outcome Turn
answer_held rows n number lists = answer_of (λ i. get_or rows i no_row) n lists number

-- the place and the row that are to be stored; and the lists afterwards
abbrev pub stored_by : Outcome Turn → List Room → List ℕ → Option (ℕ × Room)
stored_by (answered (took k said next)) rows lists = Some (k, row_after (get_or rows k no_row) (round_at rows k lists))
stored_by (answered (none_unfinished used)) rows lists = None
stored_by (refused k) rows lists = None

abbrev pub lists_by : Outcome Turn → List Room → List ℕ → List ℕ
lists_by (answered (took k said next)) rows lists = put_share k (share_after (share_of k lists) (round_at rows k lists)) lists
lists_by (answered (none_unfinished used)) rows lists = lists
lists_by (refused k) rows lists = lists

-- what an answer of `take_turn` says of the turn
abbrev pub taken_of : Result TurnTaken Refusal → Outcome Turn
taken_of (Ok t) = answered (turn_by t.turn)
taken_of (Err x) = refused (code_of x)

-- what `take_turn` answers of the first n rows and lists, and leaves there
pub record TakesTurn (rows : List Room) (n number : ℕ) (old : List ℕ) (a : Result TurnTaken Refusal) (new : List ℕ) : Type 0 where
  pub answer : taken_of a ≡ answer_held rows n number old
  pub stored : (t : TurnTaken) → a ≡ Ok t → t.stored ≡ stored_by (answer_held rows n number old) rows old
  pub lists : new ≡ lists_by (answer_held rows n number old) rows old
  pub bytes : Bytes old
