-- The loop's invariant is `Placed`.
-- Assumes nothing.
use mathlib.Core.Path.{refl, ◌∙◌}
use native.Mathlib.Omega.{arith}
use Rattle.list.specs.DayLists.{marked}
use Rattle.list.proofs.ByPlace.{placed_none, placed_next, placed_all}
use Rattle.bounds.proofs.EndCases.{formed_in_mirror, planned_in_mirror, mirror_end_in_day}
use Rattle.bounds.proofs.EndCases.{starts_by_mirror}
use Rattle.bounds.proofs.ends.greatest_starts.Goals as goal

pub least_ends-ends-requires : goal.least_ends-ends-requires
least_ends-ends-requires c =
    record {
      formed = formed_in_mirror c.args.windows c.requires.formed c.mirrored.result c.mirrored.ensures;
      pauses_planned = planned_in_mirror c.args.windows c.requires.formed c.mirrored.result c.mirrored.ensures (marked c.args.whole)
          c.args.planned c.requires.pauses_planned;
    }

pub loop-i-init : goal.loop-i-init
loop-i-init c = placed_none _ _ _ (omega (arith, c.places_held-count.ensures)) c.zeros-starts.ensures

pub overflow_sub-starts : goal.overflow_sub-starts
overflow_sub-starts c =
    let place = rw c.places_held-count.ensures at c.loop-i-test.true in
    mirror_end_in_day c.args.windows c.requires.formed c.mirrored.result c.mirrored.ensures (marked c.args.whole)
    c.least_ends-ends.result
    c.least_ends-ends.ensures _ place

pub loop-i-preserved : goal.loop-i-preserved
loop-i-preserved c = placed_next _ _ _ _ _ c.loop-i.invariant c.loop-i-test.true refl

pub returns : goal.returns
returns c =
    rw c.places_held-count.ensures at (placed_all _ _ _ _ c.loop-i.invariant c.loop-i-test.false)
    ∙ starts_by_mirror c.args.windows c.requires.formed c.mirrored.result c.mirrored.ensures (marked c.args.whole)
    c.least_ends-ends.result
    c.least_ends-ends.ensures
