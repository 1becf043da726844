-- The overload test says whether there is a plan.
-- Assumes nothing.
use borrow.Author.Rules.{rules}
use Prim.Native.Nat.{◌<◌}
use Rattle.list.specs.DayLists.{marked}
use Rattle.narrow.proofs.CallCases.{test_countable, test_unplanned}
use Rattle.narrow.proofs.rounds.single_round.Goals as goal

pub one_round-requires : goal.one_round-requires
one_round-requires c =
    let short : c.args.windows.h < 65536 = search rules in
    rw c.unmoved.ensures (test_countable c.args.windows c.requires (marked c.args.whole) c.in-Ok.ensures short)

pub returns-in-Ok : goal.returns-in-Ok
returns-in-Ok c = rw c.unmoved.ensures at c.one_round.ensures

pub unplanned_round-requires : goal.unplanned_round-requires
unplanned_round-requires c = record { formed = c.requires; fact = test_unplanned c.args.windows c.requires c.in-Err.ensures }
