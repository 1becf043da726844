-- The loop's invariant is `NumbersPut`.
-- Assumes nothing.
use borrow.Author.Rules.{rules}
use mathlib.Core.Path.{◌≡◌}
use lib.ListN.{length}
use Rattle.base.proofs.Walk.{length_mapped}
use Rattle.flat.proofs.FlatCases.{numbers_start, numbers_next, numbers_done}
use Rattle.flat.proofs.value.put_numbers.Goals as goal

pub loop-i-init : goal.loop-i-init
loop-i-init c =
    let long : length c.args.list.entries ≡ 64 = search (rules, length_mapped) in
    rw (c.from.ensures, c.from-2.ensures, c.from-3.ensures) (numbers_start c.args.list c.args.fields.now c.requires long)

pub loop-i-preserved : goal.loop-i-preserved
loop-i-preserved c =
    numbers_next c.loop-i.invariant _ _ c.loop-i-test.true c.put_entry_numbers.ensures

pub returns : goal.returns
returns c = numbers_done c.loop-i.invariant c.loop-i-test.false
