-- Row 11, then the schedule from the day's first state.
-- Assumes nothing.
use Rattle.windows.specs.Windows.{windows_in}
use Rattle.jackson.proofs.CallCases.{start_fillable, fill_no_room, fill_room}
use Rattle.jackson.proofs.fill.unchecked_schedule.Goals as goal

pub returns-then-plan-h : goal.returns-then-plan-h
returns-then-plan-h c =
    rw c.from-h.ensures (fill_no_room (windows_in c.args.windows) c.args.plan.now (rw c.from-h.ensures at c.if-plan-h.true))

pub store_places-requires : goal.store_places-requires
store_places-requires c = rw c.from-h.ensures (start_fillable _ _ c.day_start.ensures _ (rw c.from-h.ensures at c.if-plan-h.false))

pub returns : goal.returns
returns c =
    fill_room (windows_in c.args.windows) c.args.plan.now _ (rw c.from-h.ensures at c.if-plan-h.false)
    (rw (c.day_start.ensures, c.from-h.ensures) at c.store_places.ensures)
