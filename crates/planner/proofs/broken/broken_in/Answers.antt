-- The loop's invariant is `BrokenSoFar`.
-- Assumes nothing.
use Rattle.planner.proofs.BrokenCases.{counted_none, counted_next, counted_all}
use Rattle.planner.proofs.broken.broken_in.Goals as goal

pub loop-i-init : goal.loop-i-init
loop-i-init c = counted_none c.requires

pub loop-i-preserved : goal.loop-i-preserved
loop-i-preserved c =
    let place = rw c.places_held-count.ensures at c.loop-i-test.true in
    counted_next c.requires c.loop-i.invariant place c.one_broken-sum.ensures

pub returns : goal.returns
returns c = counted_all c.requires c.loop-i.invariant (rw c.places_held-count.ensures at c.loop-i-test.false)
