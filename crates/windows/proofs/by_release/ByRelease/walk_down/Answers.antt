-- All places with the next r are passed. The loop's invariant is what was added since, over places whose r is at least this one.
-- Assumes nothing.
use native.Mathlib.Omega.{arith}
use Rattle.windows.proofs.RunningSums.{places_from, walking_start, walking_next}
use Rattle.windows.proofs.by_release.ByRelease.walk_down.Goals as goal

pub loop-i-init : goal.loop-i-init
loop-i-init c =
    let ready = c.requires in
    let latest_first = c.args.self.now.latest_release_first in
    walking_start _ _ latest_first _ c.args.from ready.passed_lt_n _
    (places_from _ _ latest_first (omega arith) _ _ c.places_held.ensures (omega (arith, ready.passed_lt_n, c.places_held.ensures)))
    ready.kept_bound ready.additions_le_passed

pub loop-i-preserved : goal.loop-i-preserved
loop-i-preserved c =
    let ready = c.requires in
    let latest_first = c.args.self.now.latest_release_first in
    walking_next _ _ latest_first _ c.args.from ready.passed_lt_n _ _ _ c.loop-i.invariant c.loop-i-test.true _
    c.if-windows-i.false c.pass_place-sum.ensures
