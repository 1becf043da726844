-- The list in the first numbers, and the stamp after them.
-- Assumes nothing.
use mathlib.Core.Path.{sym}
use Rattle.flat.proofs.DayCases.{front_long}
use Rattle.flat.proofs.day.day_value.Goals as goal

-- The list in the first numbers, and the stamp after them.
pub slice_bounds-value_in-end : goal.slice_bounds-value_in-end
slice_bounds-value_in-end c = sym (front_long c.args.row.now c.requires)
