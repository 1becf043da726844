-- What the public calls promise.
use Rattle.std.specs.Prelude.{ℕ, ◌<◌, ◌≤◌, ◌≡◌, List, ◌++◌, length, take, drop, Result, Ok, Err}
use Rattle.base.specs.Outcomes.{Outcome, answered, refused}
use Rattle.list.specs.Refusals.{code_of, outcome_of}
use Rattle.list.specs.declared.types.Refusal.{Refusal}
use Rattle.list.specs.declared.types.Refusal.TheVariants.{RoomCount}
use Rattle.rooms.specs.Turns.{most_rooms, Lent, Turn, took, none_unfinished, turn_of, lent_after}
use Rattle.rooms.specs.Laws.{Fit, TurnLaw}
use Rattle.rooms.specs.Runs.{TurnsLaw}
use Rattle.rooms.specs.declared.types.Room.{Room}
use Rattle.rooms.specs.declared.types.HeldAnswer.{HeldAnswer}
use Rattle.rooms.specs.declared.types.Turn as types
use Rattle.rooms.specs.declared.types.Turn.TheVariants.{NoneUnfinished, Took}

-- what a turn did, and what an answer says: document 01, "If an answer is an enum, a definition states this paper's number and values for
-- each of its cases."
abbrev pub turn_by : types.Turn → Turn
turn_by (NoneUnfinished used) = none_unfinished used
turn_by (Took k round next) = took k (outcome_of round) next

abbrev pub turn_answer_of : Result types.Turn Refusal → Outcome Turn
turn_answer_of (Ok t) = answered (turn_by t)
turn_answer_of (Err x) = refused (code_of x)

-- what `turn` answers of what is lent and a number, and leaves there
pub record Turns (x : Lent) (number : ℕ) (a : Result types.Turn Refusal) (y : Lent) : Type 0 where
  pub answer : turn_answer_of a ≡ turn_of x number
  pub lent : y ≡ lent_after x number
  -- the laws, of this turn and of turns one after the other
  pub law : TurnLaw x number
  pub turns : Fit x → TurnsLaw x number

-- what a turn over the first n of eight rows held by value answers, and leaves: `turn` over these lent, and the rows behind them as they
-- were
pub record TurnsFirst (held : List Room) (n : ℕ) (old : List ℕ) (number : ℕ) (a : HeldAnswer) (new : List ℕ) : Type 0 where
  pub first : List Room
  pub turned : Turns (record { rows = take n held; lists = old }) number a.answer (record { rows = first; lists = new })
  pub rows : a.rows ≡ first ++ drop n held

-- what `turn_held` answers of eight rows, a number of rooms, lists and a number, and leaves there: over eight rooms, 19 and all as it was
pub record TurnsHeld (held : List Room) (n : ℕ) (old : List ℕ) (number : ℕ) (a : HeldAnswer) (new : List ℕ) : Type 0 where
  pub few : n ≤ most_rooms → TurnsFirst held n old number a new
  pub many : most_rooms < n → (a ≡ record { rows = held; answer = Err (RoomCount n) }) × (new ≡ old)

-- so it refuses over eight rooms as `turn` refuses as many rows: `held_law` of proofs/HeldLaws.antt
abbrev pub HeldLaw : Type 0
HeldLaw =
    (held : List Room) (n : ℕ) (old : List ℕ) (number : ℕ) (a : HeldAnswer) (new : List ℕ) → TurnsHeld held n old number a new → 8 < n
    → (x : Lent) → length x.rows ≡ n → turn_answer_of a.answer ≡ turn_of x number
