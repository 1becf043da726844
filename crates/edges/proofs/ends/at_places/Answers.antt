-- The loop's invariant is what the first x positions stored.
-- Assumes nothing.
use native.Mathlib.Omega.{arith}
use Rattle.edges.proofs.Fronts.{front_below, front_at}
use Rattle.edges.proofs.EndCases.{places_none, places_next}
use Rattle.edges.proofs.ends.at_places.Goals as goal

pub loop-x-init : goal.loop-x-init
loop-x-init c = places_none _ _ _

pub loop-x-preserved : goal.loop-x-preserved
loop-x-preserved c =
    let inside = c.loop-x-test.true in
    rw (front_at _ _ _ inside)
    (places_next _ _ _ _ _ (omega arith) c.args.by_release.now.latest_release_first.once
    (omega (arith, c.places_held.ensures, front_below _ _ _ inside)) c.loop-x.invariant)
