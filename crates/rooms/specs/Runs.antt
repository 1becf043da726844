-- What turns one after the other promise: `turns_law` and `left_law` of proofs/RunLaws.antt.
use Rattle.std.specs.Prelude.{ℕ, ◌+◌, ◌-◌, ◌*◌, ◌<◌, ◌≤◌, ◌≡◌, ◌↔◌, cond, false, List, length, get_or, take, eqb}
use Rattle.base.specs.Outcomes.{Code, Outcome, answered, refused}
use Rattle.base.specs.Counting.{sum}
use Rattle.list.specs.Machine.{Bytes}
use Rattle.list.specs.DayLists.{entries_of, blank, whole_in}
use Rattle.list.specs.declared.types.DayList.{DayList}
use Rattle.format.specs.Writing.{bytes_of}
use Rattle.shares.specs.Shares.{front_of}
use Rattle.rooms.specs.Cycles.{alone, own_turns}
use Rattle.rooms.specs.Rooms.{is_unfinished, RoomState, own_turn, unfinished, answer_alone, slack_of}
use Rattle.rooms.specs.Turns.{Lent, row_in, share_of, Turn, took, none_unfinished, turn_of}
use Rattle.rooms.specs.Turns.{Desk, desk_turn, starts, after_turns, room_in, cycle_of}
use Rattle.rooms.specs.declared.types.Stage.TheVariants.{Fresh, Settled, Refused}

-- "A room that was fresh with both counts 0"
pub record FreshRoom (s : RoomState) : Type 0 where
  pub stage : s.row.stage ≡ Fresh
  pub rounds : s.row.rounds ≡ 0
  pub moves : s.row.moves ≡ 0

-- "its counts stay below 100,000"
pub record FewCounts (s : RoomState) : Type 0 where
  pub rounds : s.row.rounds < 100000
  pub moves : s.row.moves < 100000

-- a room that ended settled, with this list, which stands at the front of its share in its one form, and these moves
pub record EndsSettled (x : DayList × ℕ) (s : RoomState) : Type 0 where
  pub stage : s.row.stage ≡ Settled
  pub list : front_of s.share ≡ answered x.0
  pub form : take (length (bytes_of x.0)) s.share ≡ bytes_of x.0
  pub moves : s.row.moves ≡ x.1
  pub said : s.said ≡ answered tt

-- a room that ended refused, by k
pub record EndsRefused (k : Code) (s : RoomState) : Type 0 where
  pub stage : s.row.stage ≡ Refused
  pub said : s.said ≡ refused k

-- a room that ended with this answer
abbrev pub Ends : Outcome (DayList × ℕ) → RoomState → Type 0
Ends (answered x) s = EndsSettled x s
Ends (refused k) s = EndsRefused k s

-- "the sum of d - r - p over its whole entries, 0 where its share does not read"
pub record SlackLaw (share : List ℕ) : Type 0 where
  pub read : (l : DayList) → front_of share ≡ answered l
      → slack_of share
      ≡ sum (length (entries_of l)) (λ i. let e = get_or (entries_of l) i blank in cond (whole_in l i) (e.d - (e.r + e.p)) 0)
  pub unread : (k : Code) → front_of share ≡ refused k → slack_of share ≡ 0

-- turns over what is lent, all of it left to them and the number handed on, the first from this number
pub record TurnsLaw (x : Lent) (number : ℕ) : Type 0 where
  pub slack : (i : ℕ) → SlackLaw (share_of i x.lists)
  -- "each of m rooms is finished within m times (1 + the sum of d - r - p over its whole entries, 0 where its share does not read) turns",
  -- whatever its row was
  pub finished : (i t : ℕ) → i < length x.rows → length x.rows * (1 + slack_of (share_of i x.lists)) ≤ t
      → is_unfinished (row_in (after_turns x number t).lent i).stage ≡ false
  -- "A room that was fresh with both counts 0 .. ends with the answer it would have alone": the same list and moves, or the same refusal
  pub as_alone : (i t : ℕ) → i < length x.rows → FreshRoom (room_in (starts x number) i)
      → length x.rows * (1 + slack_of (share_of i x.lists)) ≤ t
      → Ends (answer_alone (share_of i x.lists)) (room_in (after_turns x number t) i)
  pub refused_exactly : (i t : ℕ) → i < length x.rows → FreshRoom (room_in (starts x number) i)
      → length x.rows * (1 + slack_of (share_of i x.lists)) ≤ t
      → ((row_in (after_turns x number t).lent i).stage ≡ Refused) ↔ ((k : Code) × (answer_alone (share_of i x.lists) ≡ refused k))
  -- "and its counts stay below 100,000": after each turn
  pub counts : (i t : ℕ) → i < length x.rows → FreshRoom (room_in (starts x number) i) → FewCounts (room_in (after_turns x number t) i)
  -- after each turn a room is as so many of its own turns alone leave it, as many as were its own
  pub own_alone : (i t : ℕ) → i < length x.rows
      → room_in (after_turns x number t) i
      ≡ alone unfinished own_turn (own_turns unfinished own_turn (length x.rows) t (cycle_of (starts x number)) i)
      (room_in (starts x number) i)
  -- and after as many turns as the bound has, its row, its share and what was answered of it do not depend on the other rooms
  pub ends_alone : (i t : ℕ) → i < length x.rows → length x.rows * (1 + slack_of (share_of i x.lists)) ≤ t
      → room_in (after_turns x number t) i ≡ alone unfinished own_turn (1 + slack_of (share_of i x.lists)) (room_in (starts x number) i)

-- whether a turn that answered this was room i's own
abbrev pub own_by : Outcome Turn → ℕ → ℕ
own_by (answered (took k said next)) i = cond (eqb k i) 1 0
own_by (answered (none_unfinished used)) i = 0
own_by (refused c) i = 0

-- "its row and share left to the turns": a room that was s, after turns of which so many were its own. Between two turns the control
-- program may write whatever it lends but this row and share, lend other rows or another buffer beside them, at other places, and hand in
-- any number.
pub data LeftTo (s : RoomState) : ℕ → RoomState → Type 0 where
  no_turn : LeftTo s 0 s
  one_more : (d : Desk) (i k : ℕ) → LeftTo s k (room_in d i) → i < length d.lent.rows → Bytes d.lent.lists
      → LeftTo s (k + own_by (turn_of d.lent d.number) i) (room_in (desk_turn d) i)

-- "A room that was fresh with both counts 0, its row and share left to the turns, ends with the answer it would have alone, and its counts
-- stay below 100,000.": whatever is done to the other rooms
pub record LeftLaw (s : RoomState) (fresh : FreshRoom s) : Type 0 where
  pub counts : (k : ℕ) (u : RoomState) → LeftTo s k u → FewCounts u
  -- it ends within one own turn more than the sum, and whenever it has ended that is its answer
  pub ends : (k : ℕ) (u : RoomState) → LeftTo s k u → 1 + slack_of s.share ≤ k → unfinished u ≡ false
  pub as_alone : (k : ℕ) (u : RoomState) → LeftTo s k u → unfinished u ≡ false → Ends (answer_alone s.share) u
