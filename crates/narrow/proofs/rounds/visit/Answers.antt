-- A pause entry changes nothing; the second search goes on from what the first left.
-- Assumes nothing.
use mathlib.Core.Path.{ap, ◌∙◌}
use native.Mathlib.Omega.{arith}
use Rattle.list.proofs.Answered.{passed_on}
use Rattle.narrow.specs.Calls.{narrowed_by, narrowed_of}
use Rattle.narrow.proofs.VisitCases.{visit_passed, visit_stopped, visit_on, visit_moves, visit_ends}
use Rattle.narrow.proofs.rounds.visit.Goals as goal

pub returns-then-not-whole : goal.returns-then-not-whole
returns-then-not-whole c = visit_passed (narrowed_by c.args.now) c.args.k c.args.whole c.if-not-whole.true

pub returns-in_err-started : goal.returns-in_err-started
returns-in_err-started c =
    ap narrowed_of (passed_on _ _ c.from_residual.ensures.1)
    ∙ visit_stopped c.args.now c.args.k c.requires.visitable c.args.whole c.if-not-whole.false c.in_err-started.ensures

pub narrow_end-requires : goal.narrow_end-requires
narrow_end-requires c =
    let moves = visit_moves c.args.now c.args.k c.requires.visitable c.args.whole c.if-not-whole.false _ c.in_ok-started.ensures in
    record {
      visitable = visit_on c.args.now c.args.k c.requires.visitable c.args.whole c.if-not-whole.false _ c.in_ok-started.ensures;
      moves_bound = omega (arith, moves, c.requires.moves_bound);
    }

pub returns : goal.returns
returns c =
    visit_ends c.args.now c.args.k c.requires.visitable c.args.whole c.if-not-whole.false _ c.in_ok-started.ensures _ c.narrow_end.ensures
