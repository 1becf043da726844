-- One turn over what the control program lends, and turns one after the other.
use Rattle.std.specs.Prelude.{ℕ, zero, suc, ◌+◌, ◌*◌, cond, ◌||◌, List, [], ◌∷◌, ◌++◌, length, get_or, set, take, drop, eqb, ltb}
use Rattle.base.specs.Outcomes.{Outcome, answered, refused, Row, row, first_of}
use Rattle.list.specs.declared.types.DayList.{DayList}
use Rattle.shares.specs.Shares.{share_bytes}
use Rattle.rooms.specs.Cycles.{number_after, number_used, next_unfinished, put_room, Cycle}
use Rattle.rooms.specs.Rooms.{is_unfinished, RoomState, round_in, row_after, share_after, said_by}
use Rattle.rooms.specs.declared.types.Stage.TheVariants.{Fresh}
use Rattle.rooms.specs.declared.types.Room.{Room}

-- "Eight rooms at one control desk"
abbrev pub most_rooms : ℕ
most_rooms = 8

-- "The control program lends one short row for each room ..; the lists stay in a buffer beside it, 965 bytes a room"
pub record Lent : Type 0 where
  pub rows : List Room
  pub lists : List ℕ

-- what stands for a row past the last
abbrev pub no_row : Room
no_row = record { stage = Fresh; rounds = 0; moves = 0 }

abbrev pub row_in : Lent → ℕ → Room
row_in x i = get_or x.rows i no_row

-- the first eight rows, this one past the last
abbrev pub eight_rows : List Room → Room → List Room
eight_rows rows d =
    get_or rows 0 d ∷ get_or rows 1 d ∷ get_or rows 2 d ∷ get_or rows 3 d
    ∷ get_or rows 4 d ∷ get_or rows 5 d ∷ get_or rows 6 d ∷ get_or rows 7 d ∷ []

-- the share of room i in the buffer
abbrev pub share_of : ℕ → List ℕ → List ℕ
share_of i lists = take share_bytes (drop (i * share_bytes) lists)

-- the buffer with other bytes in the share of room k
abbrev pub put_share : ℕ → List ℕ → List ℕ → List ℕ
put_share k new lists = take (k * share_bytes) lists ++ (new ++ drop (k * share_bytes + share_bytes) lists)

-- "It answers that room, any refusal, and the number after it"; or that nothing is unfinished, with the number as it was used
pub data Turn : Type 0 where
  took : ℕ → Outcome (Unit {0}) → ℕ → Turn
  none_unfinished : ℕ → Turn

-- "No rooms, or over eight, is refused as 19 before all else, carrying that number; a buffer too short for its rooms is 12 next,
-- carrying the bytes needed.", of m rooms and a buffer of this length
abbrev pub turn_rows : ℕ → ℕ → List Row
turn_rows m bytes =
    row 19 (eqb m 0 || ltb most_rooms m) m ∷ row 12 (ltb bytes (m * share_bytes)) (m * share_bytes) ∷ []

-- the room that a turn from this number takes; the number of rooms if nothing is unfinished
abbrev pub room_for : Lent → ℕ → ℕ
room_for x number = next_unfinished (λ i. is_unfinished (row_in x i).stage) (length x.rows) number

-- the round of room k
abbrev pub round_for : Lent → ℕ → Outcome (DayList × ℕ)
round_for x k = round_in (row_in x k).stage (share_of k x.lists)

-- what a turn answers, of m rooms by their rows, lists and a number
unfoldable pub answer_of : (ℕ → Room) → ℕ → List ℕ → ℕ → Outcome Turn
answer_of rows m lists number =
    let k = next_unfinished (λ i. is_unfinished (rows i).stage) m number in
    let said = said_by (round_in (rows k).stage (share_of k lists)) in
    first_of (turn_rows m (length lists))
    (answered (cond (ltb k m) (took k said (number_after m k)) (none_unfinished (number_used m number))))

unfoldable pub turn_of : Lent → ℕ → Outcome Turn
turn_of x number = answer_of (row_in x) (length x.rows) x.lists number

-- what is lent, after a turn that answered this: "runs one round for the next unfinished room .. and touches no other row or list"; "A turn
-- with nothing unfinished changes nothing", and neither does one that is refused
abbrev pub lent_by : Outcome Turn → Lent → Lent
lent_by (answered (took k said next)) x =
    record {
      rows = set x.rows k (row_after (row_in x k) (round_for x k));
      lists = put_share k (share_after (share_of k x.lists) (round_for x k)) x.lists;
    }
lent_by (answered (none_unfinished number)) x = x
lent_by (refused k) x = x

unfoldable pub lent_after : Lent → ℕ → Lent
lent_after x number = lent_by (turn_of x number) x

-- "for the next turn"
abbrev pub number_by : Outcome Turn → ℕ → ℕ
number_by (answered (took k said next)) number = next
number_by (answered (none_unfinished used)) number = used
number_by (refused k) number = number

-- what was last answered of each room
abbrev pub said_on : Outcome Turn → (ℕ → Outcome (Unit {0})) → ℕ → Outcome (Unit {0})
said_on (answered (took k said next)) before = put_room k said before
said_on (answered (none_unfinished used)) before = before
said_on (refused k) before = before

-- a control desk: what it lends, the number that it hands in next, and what was last answered of each room
pub record Desk : Type 0 where
  pub lent : Lent
  pub number : ℕ
  pub said : ℕ → Outcome (Unit {0})

unfoldable pub desk_turn : Desk → Desk
desk_turn d =
    let o = turn_of d.lent d.number in
    record { lent = lent_by o d.lent; number = number_by o d.number; said = said_on o d.said }

-- so many turns, "rows and shares left to the turns and the number handed on"
unfoldable pub desk_turns : ℕ → Desk → Desk
desk_turns zero d = d
desk_turns (suc t) d = desk_turns t (desk_turn d)

-- before the first turn no refusal was answered
abbrev pub starts : Lent → ℕ → Desk
starts x number = record { lent = x; number = number; said = λ _. answered tt }

-- what is lent and answered after t turns, the first from this number
abbrev pub after_turns : Lent → ℕ → ℕ → Desk
after_turns x number t = desk_turns t (starts x number)

-- room i at the desk
abbrev pub room_in : Desk → ℕ → RoomState
room_in d i = record { row = row_in d.lent i; share = share_of i d.lent.lists; said = d.said i }

-- the rooms and the number, as Cycles.antt takes turns over them
abbrev pub cycle_of : Desk → Cycle RoomState
cycle_of d = record { rooms = room_in d; number = d.number }
