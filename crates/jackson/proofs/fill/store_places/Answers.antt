-- The places are stored stretch by stretch. The loop's invariant is `Stored`, the measure what is left of h.
-- Assumes nothing.
use borrow.Author.Rules.{rules}
use mathlib.Core.Path.{refl}
use native.Mathlib.Omega.{arith}
use Rattle.jackson.proofs.FillCases.{store_start, store_next, store_long, turn_some, turn_fits}
use Rattle.jackson.proofs.fill.store_places.Goals as goal

pub loop-i-init : goal.loop-i-init
loop-i-init c = store_start _ _ _ _ c.requires refl

pub slice_bounds-fill-end : goal.slice_bounds-fill-end
slice_bounds-fill-end c =
    let fits = turn_fits _ _ _ _ _ _ c.loop-i.invariant c.loop-i-test.true _ c.stretch-stretch.ensures in
    let long = store_long _ _ _ _ _ _ c.loop-i.invariant in
    search (rules, fits, long)

pub loop-i-smaller : goal.loop-i-smaller
loop-i-smaller c =
    let some = turn_some _ _ _ _ _ _ c.loop-i.invariant c.loop-i-test.true _ c.stretch-stretch.ensures in
    let fits = turn_fits _ _ _ _ _ _ c.loop-i.invariant c.loop-i-test.true _ c.stretch-stretch.ensures in
    search (rules, some, fits)

pub loop-i-preserved : goal.loop-i-preserved
loop-i-preserved c =
    store_next _ _ _ _ _ _ c.loop-i.invariant c.loop-i-test.true _ c.stretch-stretch.ensures _ _ _ c.from.ensures (omega arith)
    (c.fill.ensures.after (λ y e. e))
