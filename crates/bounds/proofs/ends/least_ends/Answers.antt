-- The loop's invariant is `Placed`.
-- Assumes nothing.
use borrow.Author.Rules.{rules}
use mathlib.Core.Path.{◌∙◌}
use Prim.Native.Nat.{◌<◌}
use native.Mathlib.Omega.{arith}
use Rattle.list.specs.DayLists.{marked}
use Rattle.list.proofs.ByPlace.{placed_none, placed_next}
use Rattle.windows.specs.Windows.{windows_in}
use Rattle.bounds.proofs.EndCases.{closed_small, end_least}
use Rattle.bounds.proofs.ends.least_ends.Goals as goal

pub loop-i-init : goal.loop-i-init
loop-i-init c = placed_none _ _ _ (omega arith) c.zeros-ends.ensures

pub end_by_kind-requires : goal.end_by_kind-requires
end_by_kind-requires c =
    let windows = c.args.windows in
    let short : windows.h < 65536 = search rules in
    let place = rw c.places_held-count.ensures at c.loop-i-test.true in
    let whole = marked c.args.whole in record {
      p_bound = omega (arith, c.requires.formed.room _ place, c.requires.formed.in_day _ place, short);
      closed_bound =
          closed_small whole (windows_in windows) c.requires.formed _ place c.args.planned _ (c.requires.pauses_planned _ place)
          (c.pause_ends-closed.ensures _ place)
          (omega (arith, short));
    }

pub loop-i-preserved : goal.loop-i-preserved
loop-i-preserved c =
    let place = rw c.places_held-count.ensures at c.loop-i-test.true in
    placed_next _ _ _ _ _ c.loop-i.invariant place
    (c.end_by_kind.ensures
    ∙ end_least (marked c.args.whole) (windows_in c.args.windows) c.requires.formed c.loop-i.i place c.args.planned _
    (c.requires.pauses_planned c.loop-i.i place) (c.pause_ends-closed.ensures c.loop-i.i place))
