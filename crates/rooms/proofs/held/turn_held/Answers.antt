-- More than eight rooms, or `turn` over those held.
-- Assumes nothing.
use mathlib.Core.Path.{refl}
use Rattle.rooms.proofs.LentTurns.{held_many, held_first}
use Rattle.rooms.proofs.held.turn_held.Goals as goal

-- More than eight rooms, or `turn` over those held.
pub returns-then-n-gt-MOST_ROOMS : goal.returns-then-n-gt-MOST_ROOMS
returns-then-n-gt-MOST_ROOMS c = held_many _ _ _ _ c.if-n-gt-MOST_ROOMS.true _ refl

pub returns : goal.returns
returns c =
    held_first _ _ _ _ c.if-n-gt-MOST_ROOMS.false _ _ c.turn_first.ensures
