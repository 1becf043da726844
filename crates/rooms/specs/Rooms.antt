-- A room: its row and its share, and its own turn.
use Rattle.std.specs.Prelude.{ℕ, ◌+◌, min, Bool, true, false, cond, List, eqb, leb}
use Rattle.base.specs.Outcomes.{Outcome, answered, refused, and_then}
use Rattle.list.specs.DayLists.{whole_in}
use Rattle.list.specs.declared.types.DayList.{DayList}
use Rattle.windows.specs.Windows.{windows_of}
use Rattle.windows.specs.Intervals.{overload_of}
use Rattle.narrow.specs.Rounds.{slack}
use Rattle.narrow.specs.Calls.{round_of, settle_of, listed}
use Rattle.shares.specs.Shares.{front_of, share_with}
use Rattle.rooms.specs.declared.types.Stage.{Stage}
use Rattle.rooms.specs.declared.types.Stage.TheVariants.{Fresh, Begun, Settled, Refused}
use Rattle.rooms.specs.declared.types.Room.{Room}

-- "its stage (fresh, begun, settled, refused)": a refused room "counts as finished", and so does a settled one
abbrev pub is_unfinished : Stage → Bool
is_unfinished Fresh = true
is_unfinished Begun = true
is_unfinished Settled = false
is_unfinished Refused = false

-- "Rounds and moves stop counting at 100,000 (a larger one handed in stays)."
abbrev pub most_counted : ℕ
most_counted = 100000

unfoldable pub count_on : ℕ → ℕ → ℕ
count_on old more = cond (leb most_counted old) old (min (old + more) most_counted)

-- "A first round starts with the overload test.": the first is told by the stage
abbrev pub first_test : Stage → DayList → Outcome (Unit {0})
first_test Fresh l = overload_of (windows_of l)
first_test Begun l = answered tt
first_test Settled l = answered tt
first_test Refused l = answered tt

-- the round that a turn runs, from the bytes of the share: the list with the windows that it leaves, and its moves; or what refuses the
-- room: "A share that does not read, 9 or 10"
unfoldable pub round_in : Stage → List ℕ → Outcome (DayList × ℕ)
round_in stage share = and_then (front_of share) (λ l. and_then (first_test stage l) (λ _. listed l (round_of l)))

-- document 01: "A round without moves is the last"
abbrev pub stage_after : ℕ → Stage
stage_after moves = cond (eqb moves 0) Settled Begun

-- "makes the room refused: of all that is lent only its stage is written, its share and counts stay"
abbrev pub refused_row : Room → Room
refused_row r = record { stage = Refused; rounds = r.rounds; moves = r.moves }

-- the row after a round with this outcome
abbrev pub row_after : Room → Outcome (DayList × ℕ) → Room
row_after r (answered x) =
    record { stage = stage_after x.1; rounds = count_on r.rounds 1; moves = count_on r.moves x.1 }
row_after r (refused k) = refused_row r

-- the share after it: "where a turn writes the narrowed list in its one form"
abbrev pub share_after : List ℕ → Outcome (DayList × ℕ) → List ℕ
share_after old (answered x) = share_with x.0 old
share_after old (refused k) = old

-- "any refusal"
abbrev pub said_by : {A : Type 0} → Outcome A → Outcome (Unit {0})
said_by o = and_then o (λ _. answered tt)

-- a room's row and share, and what its last own turn answered of it
pub record RoomState : Type 0 where
  pub row : Room
  pub share : List ℕ
  pub said : Outcome (Unit {0})

abbrev pub room_after : RoomState → Outcome (DayList × ℕ) → RoomState
room_after s o = record { row = row_after s.row o; share = share_after s.share o; said = said_by o }

-- a room's own turn: one round
unfoldable pub own_turn : RoomState → RoomState
own_turn s = room_after s (round_in s.row.stage s.share)

abbrev pub unfinished : RoomState → Bool
unfinished s = is_unfinished s.row.stage

-- "the answer it would have alone": that of narrowing the list at the front of its share, with its moves
unfoldable pub answer_alone : List ℕ → Outcome (DayList × ℕ)
answer_alone share = and_then (front_of share) (λ l. listed l (settle_of l))

-- "the sum of d - r - p over its whole entries, 0 where its share does not read"
abbrev pub slack_read : Outcome DayList → ℕ
slack_read (answered l) = slack (whole_in l) (windows_of l)
slack_read (refused k) = 0

unfoldable pub slack_of : List ℕ → ℕ
slack_of share = slack_read (front_of share)
