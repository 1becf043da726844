-- The loop's invariant is `Rounded`, the measure the minutes that can still be cut.
-- Assumes nothing.
use mathlib.Core.Path.{ap, ◌∙◌}
use Rattle.list.specs.DayLists.{marked}
use Rattle.list.proofs.Answered.{passed_on}
use Rattle.narrow.specs.Calls.{narrowed_of}
use Rattle.narrow.proofs.VisitCases.{rounded_none, rounded_stopped, rounded_last, rounded_less, rounded_next}
use Rattle.narrow.proofs.rounds.all_rounds.Goals as goal

pub loop-next-init : goal.loop-next-init
loop-next-init c = rounded_none (marked c.args.whole) c.args.windows c.requires

pub one_round-requires : goal.one_round-requires
one_round-requires c = c.loop-next.invariant.ready

pub loop-next-smaller : goal.loop-next-smaller
loop-next-smaller c =
    rounded_less (marked c.args.whole) c.args.windows c.loop-next.now c.loop-next.invariant _ c.in_ok-next.ensures c.if-next-now.false

pub loop-next-preserved : goal.loop-next-preserved
loop-next-preserved c =
    rounded_next (marked c.args.whole) c.args.windows c.loop-next.now c.loop-next.invariant _ c.in_ok-next.ensures c.if-next-now.false

pub returns-in_err-next : goal.returns-in_err-next
returns-in_err-next c =
    ap narrowed_of (passed_on _ _ c.from_residual.ensures.1)
    ∙ rounded_stopped (marked c.args.whole) c.args.windows c.loop-next.now c.loop-next.invariant c.in_err-next.ensures

pub returns : goal.returns
returns c =
    rounded_last (marked c.args.whole) c.args.windows c.loop-next.now c.loop-next.invariant _ c.in_ok-next.ensures c.if-next-now.true
