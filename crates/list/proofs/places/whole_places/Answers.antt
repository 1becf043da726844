-- The loop's invariant is `Marked`.
-- Assumes nothing.
use borrow.Author.Rules.{rules}
use mathlib.Core.Path.{◌≡◌, refl}
use native.Mathlib.Omega.{arith}
use lib.ListN.{length}
use Rattle.base.proofs.Walk.{length_mapped}
use Rattle.list.proofs.PlaceCases.{mark_start, mark_next, mark_done}
use Rattle.list.proofs.places.whole_places.Goals as goal

pub loop-i-init : goal.loop-i-init
loop-i-init c = mark_start _ _ (omega arith)

pub loop-i-preserved : goal.loop-i-preserved
loop-i-preserved c =
    mark_next _ _ c.loop-i.marks c.loop-i.i _ c.loop-i.invariant (omega (arith, c.places_held-i-end.ensures)) c.is_whole.ensures

pub returns : goal.returns
returns c =
    let long : length c.args.list.entries ≡ 64 = search (rules, length_mapped) in
    mark_done c.args.list long _ _ _ refl c.loop-i.invariant (omega (arith, c.places_held-i-end.ensures))
