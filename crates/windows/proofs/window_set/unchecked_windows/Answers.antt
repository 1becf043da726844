-- The arrays hold the list's windows. The loop's invariant is that those of the first i entries are copied.
-- Assumes nothing.
use borrow.Author.Rules.{rules}
use mathlib.Core.Path.{◌≡◌, refl}
use native.Mathlib.Omega.{arith}
use lib.ListN.{length, length-take}
use Rattle.base.proofs.Walk.{length_mapped}
use Rattle.windows.proofs.WindowSetCases.{copy_start, copy_next, copy_done}
use Rattle.windows.proofs.window_set.unchecked_windows.Goals as goal

pub loop-i-init : goal.loop-i-init
loop-i-init c = (refl, refl, copy_start _ _ _ _ (search rules) (search rules) (search rules) c.no_windows.ensures)

pub loop-i-preserved : goal.loop-i-preserved
loop-i-preserved c =
    let so = c.loop-i.invariant in
    (so.0, so.1, copy_next _ _ _ _ so.2 (omega (arith, c.loop-i-test.true, c.places_held.ensures, simp length-take at c.loop-i-test.true)) refl)

pub returns : goal.returns
returns c =
    let so = c.loop-i.invariant in
    let long : length c.args.list.entries ≡ 64 = search (rules, length_mapped) in
    copy_done c.args.list _ _ _ long c.places_held.ensures so.0 so.1 so.2 c.loop-i-test.false
