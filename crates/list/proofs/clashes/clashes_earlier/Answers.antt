-- `clashes::clashes_earlier` meets its contract. The loop's invariant: no entry before place i clashes with the one asked.
-- Assumes nothing.
use mathlib.Core.Path.{refl, ◌∙◌}
use Rattle.base.proofs.Searches.{passed_none, passed_next}
use Rattle.list.proofs.ClashCases.{test_told, earlier_found, earlier_none}
use Rattle.list.proofs.clashes.clashes_earlier.Goals as goal

pub loop-i-init : goal.loop-i-init
loop-i-init c = passed_none _ _

pub returns-then-clashes : goal.returns-then-clashes
returns-then-clashes c =
    earlier_found c.args.list c.args.place c.loop-i.i c.loop-i.invariant c.loop-i-test.true
    (test_told c.args.list c.args.place c.requires _ c.loop-i-test.true _ refl _ c.clashes.ensures ∙ c.if-clashes.true)

pub loop-i-preserved : goal.loop-i-preserved
loop-i-preserved c =
    passed_next _ _ c.loop-i.i c.loop-i.invariant c.loop-i-test.true
    (test_told c.args.list c.args.place c.requires _ c.loop-i-test.true _ refl _ c.clashes.ensures ∙ c.if-clashes.false)

pub returns : goal.returns
returns c = earlier_none c.args.list c.args.place _ c.loop-i.invariant c.loop-i-test.false
