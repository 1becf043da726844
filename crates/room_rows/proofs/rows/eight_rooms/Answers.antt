-- A call for each of the eight places gives its room.
-- Assumes nothing.
use borrow.Author.Rules.{rules}
use Prim.Native.Nat.{ℕ}
use lib.ListN.{get_or}
use Rattle.rooms.specs.Turns.{no_row}
use Rattle.rooms.proofs.EightRows.{given_eight}
use Rattle.room_rows.specs.RoomRows.{rooms_in}
use Rattle.room_rows.proofs.rows.eight_rooms.Goals as goal

pub returns : goal.returns
returns c =
    given_eight _ _ (λ (i : ℕ). get_or (rooms_in c.args.numbers.now) i no_row) (λ i r q call. search rules) c.from_fn.result
    c.from_fn.ensures.items
