-- Rooms, as one statement; `room_examples` of proofs/Examples.antt proves it.
use Rattle.std.specs.Prelude.{ℕ, ◌≡◌, List, [], ◌∷◌, ◌++◌, replicate, take}
use Rattle.base.specs.Outcomes.{code, answered, refused}
use Rattle.rooms.specs.Rooms.{count_on, round_in, RoomState, own_turn, answer_alone, slack_of}
use Rattle.rooms.specs.Turns.{Lent, took, none_unfinished, turn_of, lent_after}
use Rattle.rooms.specs.declared.types.Room.{Room}
use Rattle.rooms.specs.declared.types.Stage.{Stage}
use Rattle.rooms.specs.declared.types.Stage.TheVariants.{Fresh, Begun, Settled, Refused}

-- in bytes, H 2: an entry of serial 1, whole, p 1, in [0, 2), and when it is narrowed in [1, 2)
abbrev pub whole_day : List ℕ
whole_day = 0x31 ∷ 0x01 ∷ 0x00 ∷ 0x00 ∷ 0x00 ∷ 0x01 ∷ 0x00 ∷ []

abbrev pub whole_late : List ℕ
whole_late = 0x35 ∷ 0x01 ∷ 0x00 ∷ 0x00 ∷ 0x00 ∷ 0x01 ∷ 0x00 ∷ 0x01 ∷ 0x00 ∷ []

-- one that is whole or may be paused, p 1, in [0, 1)
abbrev pub first_minute : ℕ → ℕ → List ℕ
first_minute map serial = map ∷ serial ∷ 0x00 ∷ 0x00 ∷ 0x00 ∷ 0x01 ∷ 0x00 ∷ 0x01 ∷ 0x00 ∷ []

abbrev pub two : List ℕ
two = 0x02 ∷ 0x00 ∷ 0x02 ∷ []

-- H 2, whole [0, 2) p 1 and pause [0, 1) p 1; whole and pause, and twice pause, both in [0, 1) with p 1
abbrev pub moving : List ℕ
moving = two ++ (whole_day ++ first_minute 0x19 2)

abbrev pub full_minute : List ℕ
full_minute = two ++ (first_minute 0x39 1 ++ first_minute 0x19 2)

abbrev pub pauses_only : List ℕ
pauses_only = two ++ (first_minute 0x19 1 ++ first_minute 0x19 2)

-- four bytes after the list
abbrev pub trailing : List ℕ
trailing = 0xAA ∷ 0xBB ∷ 0xCC ∷ 0xDD ∷ []

abbrev pub room_with : Stage → ℕ → ℕ → Room
room_with stage rounds moves = record { stage = stage; rounds = rounds; moves = moves }

abbrev pub fresh_room : RoomState
fresh_room = record { row = room_with Fresh 0 0; share = moving ++ trailing; said = answered tt }

-- its list with the window that the first round leaves: two bytes longer
abbrev pub narrowed_bytes : List ℕ
narrowed_bytes = two ++ (whole_late ++ first_minute 0x19 2)

-- a share of 965 bytes
abbrev pub share : List ℕ → List ℕ
share bytes = take 965 (bytes ++ replicate 965 0xEE)

-- two rooms: one whose list does not read, and one with a list
abbrev pub two_rooms : Stage → Stage → Lent
two_rooms a b = record { rows = room_with a 5 6 ∷ room_with b 0 0 ∷ []; lists = share (0x00 ∷ []) ++ share moving }

pub record RoomExamples : Type 0 where
  -- a fresh room: one round with a move, which writes over two of the bytes behind the list, and one without
  pub first_round : own_turn fresh_room
      ≡ record { row = room_with Begun 1 1; share = narrowed_bytes ++ (0xCC ∷ 0xDD ∷ []); said = answered tt }
  pub second_round : own_turn (own_turn fresh_room)
      ≡ record { row = room_with Settled 2 1; share = narrowed_bytes ++ (0xCC ∷ 0xDD ∷ []); said = answered tt }
  -- the sum of d - r - p is 2 - 0 - 1, so that the bound allows two own turns, and both are needed
  pub slack : slack_of (moving ++ trailing) ≡ 1
  -- "A first round starts with the overload test.": by the stage, whatever the counts
  pub overloaded : round_in Fresh full_minute ≡ refused (code 9 (0 ∷ 1 ∷ 2 ∷ []))
  pub begun : round_in Begun full_minute ≡ refused (code 10 (0 ∷ []))
  pub begun_pauses : own_turn (record { row = room_with Begun 7 8; share = pauses_only; said = answered tt })
      ≡ record { row = room_with Settled 8 8; share = pauses_only; said = answered tt }
  -- "of all that is lent only its stage is written, its share and counts stay"
  pub stopped : own_turn (record { row = room_with Fresh 7 8; share = full_minute; said = answered tt })
      ≡ record { row = room_with Refused 7 8; share = full_minute; said = refused (code 9 (0 ∷ 1 ∷ 2 ∷ [])) }
  pub alone_refused : answer_alone full_minute ≡ refused (code 9 (0 ∷ 1 ∷ 2 ∷ []))
  -- "Rounds and moves stop counting at 100,000 (a larger one handed in stays)."
  pub stops : count_on 99999 2 ≡ 100000
  pub larger : count_on 100001 2 ≡ 100001
  -- two rooms: any number past the last counts as 0, and a share that does not read refuses the room, not the turn
  pub unread : turn_of (two_rooms Fresh Fresh) 9 ≡ answered (took 0 (refused (code 2 (0 ∷ []))) 1)
  pub unread_rows : (lent_after (two_rooms Fresh Fresh) 9).rows ≡ room_with Refused 5 6 ∷ room_with Fresh 0 0 ∷ []
  pub unread_lists : (lent_after (two_rooms Fresh Fresh) 9).lists ≡ (two_rooms Fresh Fresh).lists
  -- "the next unfinished room in cyclic order", and "the number after it (after the last, 0)"
  pub passes_over : turn_of (two_rooms Refused Fresh) 0 ≡ answered (took 1 (answered tt) 0)
  pub from_last : turn_of (two_rooms Fresh Settled) 1 ≡ answered (took 0 (refused (code 2 (0 ∷ []))) 1)
  pub second_room : lent_after (two_rooms Refused Fresh) 0
      ≡ record { rows = room_with Refused 5 6 ∷ room_with Begun 1 1 ∷ []; lists = share (0x00 ∷ []) ++ share narrowed_bytes }
  -- nothing unfinished: the number as it was used
  pub nothing : turn_of (two_rooms Refused Settled) 1 ≡ answered (none_unfinished 1)
  pub nothing_past : turn_of (two_rooms Refused Settled) 2 ≡ answered (none_unfinished 0)
  -- 19 before 12
  pub no_rooms : turn_of (record { rows = []; lists = [] }) 0 ≡ refused (code 19 (0 ∷ []))
  pub nine_rooms : turn_of (record { rows = replicate 9 (room_with Fresh 0 0); lists = [] }) 0 ≡ refused (code 19 (9 ∷ []))
  pub short : turn_of (record { rows = replicate 8 (room_with Fresh 0 0); lists = [] }) 0 ≡ refused (code 12 (7720 ∷ []))
