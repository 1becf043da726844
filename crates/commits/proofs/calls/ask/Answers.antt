-- Row 18, then planning the longer list.
-- Assumes nothing.
use mathlib.Core.Path.{refl}
use Rattle.commits.proofs.RowFacts.{ask_passed}
use Rattle.commits.proofs.calls.ask.Goals as goal

pub plan_longer-planned-requires : goal.plan_longer-planned-requires
plan_longer-planned-requires c = rw c.ask_fault.ensures (ask_passed c.args.day)

pub returns : goal.returns
returns c =
    let plans = rw c.ask_fault.ensures at c.plan_longer-planned.ensures in
    record { plans = plans; stamp = refl }
