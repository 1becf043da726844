-- Windows without room have no bounds; of others both are found.
-- Assumes nothing.
use Rattle.list.specs.DayLists.{marked}
use Rattle.bounds.proofs.EndCases.{room_formed, bounds_none, bounds_held}
use Rattle.bounds.proofs.ends.bounds_of.Goals as goal

pub least_ends-requires : goal.least_ends-requires
least_ends-requires c =
    record { formed = room_formed c.args.windows c.in-Ok.ensures; pauses_planned = c.pauses_planned-planned.ensures }

pub greatest_starts-requires : goal.greatest_starts-requires
greatest_starts-requires c =
    record { formed = room_formed c.args.windows c.in-Ok.ensures; pauses_planned = c.pauses_planned-planned.ensures }

pub returns-in-Ok : goal.returns-in-Ok
returns-in-Ok c =
    bounds_held c.args.windows (marked c.args.whole) _ _ c.in-Ok.ensures c.least_ends.ensures c.greatest_starts.ensures

pub returns-in-Err : goal.returns-in-Err
returns-in-Err c =
    bounds_none c.args.windows (marked c.args.whole) _ _ c.in-Err.ensures c.zeros.ensures c.zeros-in-Err.ensures
