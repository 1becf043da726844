-- What one turn promises, in facts, over all rows, buffers and numbers: `turn_law` of proofs/TurnLaws.antt.
use Rattle.std.specs.Prelude.{ℕ, ◌+◌, ◌*◌, ◌<◌, ◌≤◌, ◌≡◌, true, false, [], ◌∷◌, length, get_or, take}
use Rattle.base.specs.Outcomes.{Code, code, Outcome, answered, refused}
use Rattle.list.specs.DayLists.{whole_in}
use Rattle.list.specs.declared.types.DayList.{DayList}
use Rattle.format.specs.Writing.{bytes_of}
use Rattle.windows.specs.Windows.{windows_of}
use Rattle.windows.specs.Intervals.{ShowsOverload, overload_of}
use Rattle.narrow.specs.Laws.{WholeRefused}
use Rattle.narrow.specs.Calls.{round_of, listed}
use Rattle.shares.specs.Shares.{front_of}
use Rattle.rooms.specs.Rooms.{is_unfinished}
use Rattle.rooms.specs.Turns.{Lent, row_in, share_of, Turn, took, none_unfinished, turn_of, lent_after}
use Rattle.rooms.specs.declared.types.Stage.TheVariants.{Fresh, Begun, Settled, Refused}

-- what is lent has one to eight rooms, and 965 bytes for each
pub record Fit (x : Lent) : Type 0 where
  pub some : 1 ≤ length x.rows
  pub few : length x.rows ≤ 8
  pub long : length x.rows * 965 ≤ length x.lists

-- room k is the next unfinished one from this number on, upward, and after the last from 0 again: each room passed over is finished
pub record IsNext (x : Lent) (number k : ℕ) : Type 0 where
  pub inside : k < length x.rows
  pub goes : is_unfinished (row_in x k).stage ≡ true
  -- from the number up to k
  pub upward : (i : ℕ) → number ≤ i → i < k → is_unfinished (row_in x i).stage ≡ false
  -- where k is before the number: from the number up to the last, and from 0 up to k
  pub to_last : k < number → (i : ℕ) → number ≤ i → i < length x.rows → is_unfinished (row_in x i).stage ≡ false
  pub from_zero : k < number → (i : ℕ) → i < k → is_unfinished (row_in x i).stage ≡ false

-- "Rounds and moves stop counting at 100,000 (a larger one handed in stays)."
pub record CountsOn (old more new : ℕ) : Type 0 where
  pub counts : old + more ≤ 100000 → new ≡ old + more
  pub stops : old ≤ 100000 → 100000 ≤ old + more → new ≡ 100000
  pub larger : 100000 ≤ old → new ≡ old

-- room k made a round: its list was read, tested if the room was fresh, narrowed by one round and written in its one form
pub record RoundMade (x : Lent) (k : ℕ) (y : Lent) : Type 0 where
  pub given : DayList
  pub reads : front_of (share_of k x.lists) ≡ answered given
  pub tested : (row_in x k).stage ≡ Fresh → overload_of (windows_of given) ≡ answered tt
  pub left : DayList
  pub moved : ℕ
  pub round : listed given (round_of given) ≡ answered (left, moved)
  pub last : moved ≡ 0 → (row_in y k).stage ≡ Settled
  pub more : (moved ≡ 0 → ⊥) → (row_in y k).stage ≡ Begun
  pub rounds : CountsOn (row_in x k).rounds 1 (row_in y k).rounds
  pub moves : CountsOn (row_in x k).moves moved (row_in y k).moves
  pub form : take (length (bytes_of left)) (share_of k y.lists) ≡ bytes_of left
  -- the one form is at least as long as before, so that of the list given no byte is left behind it; other bytes behind it stay
  pub grows : length (bytes_of given) ≤ length (bytes_of left)
  pub behind : (j : ℕ) → length (bytes_of left) ≤ j → get_or (share_of k y.lists) j 0 ≡ get_or (share_of k x.lists) j 0

-- why the round of room k is refused: "A share that does not read, 9 or 10"; 9 only of a fresh room, whose test comes first
pub data Stops (x : Lent) (k : ℕ) (c : Code) : Type 0 where
  unread : front_of (share_of k x.lists) ≡ refused c → Stops x k c
  overloaded : (l : DayList) → front_of (share_of k x.lists) ≡ answered l → (row_in x k).stage ≡ Fresh
      → overload_of (windows_of l) ≡ refused c → ShowsOverload (windows_of l) c → Stops x k c
  no_place : (l : DayList) → front_of (share_of k x.lists) ≡ answered l
      → ((row_in x k).stage ≡ Fresh → overload_of (windows_of l) ≡ answered tt) → round_of l ≡ refused c
      → WholeRefused (whole_in l) (windows_of l).n c → Stops x k c

-- "makes the room refused: of all that is lent only its stage is written, its share and counts stay"
pub record RoomRefused (x : Lent) (k : ℕ) (c : Code) (y : Lent) : Type 0 where
  pub why : Stops x k c
  pub stage : (row_in y k).stage ≡ Refused
  pub rounds : (row_in y k).rounds ≡ (row_in x k).rounds
  pub moves : (row_in y k).moves ≡ (row_in x k).moves
  pub lists : y.lists ≡ x.lists

-- what a turn leaves of the room that had it, by what it says of it
abbrev pub OwnRound : Lent → ℕ → Outcome (Unit {0}) → Lent → Type 0
OwnRound x k (answered t) y = RoundMade x k y
OwnRound x k (refused c) y = RoomRefused x k c y

-- byte j lies in the share of room k
abbrev pub InShare : ℕ → ℕ → Type 0
InShare k j = (k * 965 ≤ j) × (j < k * 965 + 965)

-- a turn that took room k, said this of it, answered this number, and left y
pub record TakesRoom (x : Lent) (number k : ℕ) (said : Outcome (Unit {0})) (next : ℕ) (y : Lent) : Type 0 where
  pub is_next : IsNext x number k
  pub round : OwnRound x k said y
  -- "and touches no other row or list": every byte outside of the room's share
  pub other_rows : (i : ℕ) → (i ≡ k → ⊥) → row_in y i ≡ row_in x i
  pub other_bytes : (j : ℕ) → (InShare k j → ⊥) → get_or y.lists j 0 ≡ get_or x.lists j 0
  -- "the number after it (after the last, 0)"
  pub after : k + 1 < length x.rows → next ≡ k + 1
  pub after_last : k + 1 ≡ length x.rows → next ≡ 0

-- one turn over what is lent, from this number
pub record TurnLaw (x : Lent) (number : ℕ) : Type 0 where
  -- "No rooms, or over eight, is refused as 19 before all else, carrying that number; a buffer too short for its rooms is 12 next,
  -- carrying the bytes needed."
  pub no_rooms : length x.rows ≡ 0 → turn_of x number ≡ refused (code 19 (0 ∷ []))
  pub many_rooms : 8 < length x.rows → turn_of x number ≡ refused (code 19 (length x.rows ∷ []))
  pub short_lists : 1 ≤ length x.rows → length x.rows ≤ 8 → length x.lists < length x.rows * 965
      → turn_of x number ≡ refused (code 12 (length x.rows * 965 ∷ []))
  -- and nothing else is refused: a turn is answered exactly if what is lent fits; a refusal changes nothing
  pub answers : Fit x → (t : Turn) × (turn_of x number ≡ answered t)
  pub fits : (t : Turn) → turn_of x number ≡ answered t → Fit x
  pub refusal : (c : Code) → turn_of x number ≡ refused c → lent_after x number ≡ x
  -- if some room is unfinished, a turn takes one
  pub some : Fit x → (i : ℕ) → i < length x.rows → is_unfinished (row_in x i).stage ≡ true
      → (k : ℕ) × (said : Outcome (Unit {0})) × (next : ℕ) × (turn_of x number ≡ answered (took k said next))
  pub taken : (k : ℕ) (said : Outcome (Unit {0})) (next : ℕ) → turn_of x number ≡ answered (took k said next)
      → TakesRoom x number k said next (lent_after x number)
  -- "A turn with nothing unfinished changes nothing and says so.": with the number as it was used
  pub nothing : Fit x → ((i : ℕ) → i < length x.rows → is_unfinished (row_in x i).stage ≡ false)
      → (used : ℕ) × (turn_of x number ≡ answered (none_unfinished used)) × (lent_after x number ≡ x)
      × (number < length x.rows → used ≡ number) × (length x.rows ≤ number → used ≡ 0)
  -- "any number past the last counts as 0"
  pub past_last : length x.rows ≤ number → turn_of x number ≡ turn_of x 0
  pub rows_stay : length (lent_after x number).rows ≡ length x.rows
  pub lists_stay : length (lent_after x number).lists ≡ length x.lists
