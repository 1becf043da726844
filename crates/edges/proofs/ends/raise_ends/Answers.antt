-- The loop's invariant is `Raising`.
-- Assumes nothing.
use borrow.Author.Rules.{rules}
use native.Mathlib.Omega.{arith}
use mathlib.Core.Path.{◌≡◌}
use Prim.Native.Nat.{◌+◌, ◌-◌, ◌≤◌, max}
use lib.ListN.{get_or}
use Rattle.edges.proofs.EndCases.{raising_start, raising_less, raising_next}
use Rattle.edges.proofs.ends.raise_ends.Goals as goal

pub loop-x-init : goal.loop-x-init
loop-x-init c =
    rw c.places_held-x.ensures
    (raising_start _ _ _ _ _ (omega arith) c.args.by_release.now.latest_release_first.once c.requires.ends_len c.work_by-kept.ensures)

pub overflow_sub-kept : goal.overflow_sub-kept
overflow_sub-kept c =
    raising_less _ _ _ _ _ _ _ _ c.loop-x.invariant (omega (arith, c.loop-x.auto.x, c.places_held-x.ensures)) (omega arith)
    c.loop-x-test.true _ c.minutes_by-kept.ensures

pub loop-x-preserved : goal.loop-x-preserved
loop-x-preserved c =
    let r = get_or c.args.by_release.now.windows.r (get_or c.args.by_release.now.order (c.loop-x.x - 1) 0) 0 in
    let small : r ≤ 65535 = search rules in
    let later : c.max-latest.result ≡ max c.loop-x.latest (r + c.loop-x.kept) = search rules in
    raising_next _ _ _ _ _ _ _ _ c.loop-x.invariant (omega (arith, c.loop-x.auto.x, c.places_held-x.ensures)) (omega arith)
    c.loop-x-test.true _ c.minutes_by-kept.ensures _ _ later small c.later_asked.ensures
