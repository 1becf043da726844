-- The walk finds the definition's left end. The loop's invariant is that none was overloaded so far, the measure what is left of the order.
-- Assumes nothing.
use native.Mathlib.Omega.{arith}
use Rattle.windows.proofs.RunningSums.{additions_few}
use Rattle.windows.proofs.LeftEndCases.{left_start, left_next, left_shown, left_none}
use Rattle.windows.proofs.by_release.ByRelease.left_end.Goals as goal

pub loop-sum-init : goal.loop-sum-init
loop-sum-init c = left_start _ _ c.args.self.now.latest_release_first _ c.args.from _ c.start_anew-sum.ensures

pub walk_down-sum-requires-clause-additions_le_passed : goal.walk_down-sum-requires-clause-additions_le_passed
walk_down-sum-requires-clause-additions_le_passed c = additions_few _ _ _ _ c.loop-sum.invariant.so_far

pub returns-then-is_overloaded : goal.returns-then-is_overloaded
returns-then-is_overloaded c =
    left_shown _ _ c.args.self.now.latest_release_first _ _ _ c.start_anew-sum.ensures _ c.loop-sum.invariant _
    (omega (arith, c.loop-sum-test.true, c.places_held-count.ensures)) c.walk_down-sum.ensures _ c.is_overloaded.ensures
    c.if-is_overloaded.true

pub loop-sum-preserved : goal.loop-sum-preserved
loop-sum-preserved c =
    left_next _ _ c.args.self.now.latest_release_first _ c.args.from _ c.start_anew-sum.ensures _ c.loop-sum.invariant _
    (omega (arith, c.loop-sum-test.true, c.places_held-count.ensures)) c.walk_down-sum.ensures _ c.is_overloaded.ensures
    c.if-is_overloaded.false

pub returns : goal.returns
returns c =
    left_none _ _ c.args.self.now.latest_release_first _ _ _ c.start_anew-sum.ensures _ c.loop-sum.invariant
    (omega (arith, c.loop-sum-test.false, c.places_held-count.ensures))
