-- A count stays, stops, or is added to.
-- Assumes nothing.
use mathlib.Core.Path.{◌∙◌}
use native.Mathlib.Omega.{arith}
use Rattle.rooms.proofs.RoomCases.{count_kept, count_more}
use Rattle.rooms.proofs.room.count_on.Goals as goal

pub returns-then-old-ge-MOST_COUNTED : goal.returns-then-old-ge-MOST_COUNTED
returns-then-old-ge-MOST_COUNTED c = count_kept c.args.old c.args.more (omega arith)

pub returns-else-old-ge-MOST_COUNTED : goal.returns-else-old-ge-MOST_COUNTED
returns-else-old-ge-MOST_COUNTED c =
    c.min.ensures ∙ count_more c.args.old c.args.more c.if-old-ge-MOST_COUNTED.false _ c.saturating_add.ensures
