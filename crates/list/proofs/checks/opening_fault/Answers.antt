-- `checks::opening_fault` meets its contract: the test says whether row 15 holds.
-- Assumes nothing.
use mathlib.Core.Path.{sym}
use Rattle.list.proofs.Sound.{opening_passes}
use Rattle.list.proofs.CheckCases.{opens_past_day}
use Rattle.list.proofs.checks.opening_fault.Goals as goal

-- `checks::opening_fault` meets its contract: the test says whether row 15 holds.
pub returns-then-frame : goal.returns-then-frame
returns-then-frame c =
    sym (opening_passes c.args.place c.args.frame c.if-frame.true)

pub returns-else-frame : goal.returns-else-frame
returns-else-frame c =
    opens_past_day c.args.place c.args.frame c.if-frame.false
