-- The loop's invariant is `Visited`.
-- Assumes nothing.
use Prim.Native.Nat.{◌<◌}
use mathlib.Core.Path.{ap, ◌∙◌}
use native.Mathlib.Omega.{arith}
use Rattle.list.specs.DayLists.{marked}
use Rattle.list.proofs.Answered.{passed_on}
use Rattle.windows.specs.Windows.{windows_in}
use Rattle.narrow.specs.Calls.{narrowed_of}
use Rattle.narrow.proofs.VisitCases.{visited_first, visited_all, next_ready, next_few, visited_next, visited_stopped}
use Rattle.narrow.proofs.rounds.one_round.Goals as goal

pub loop-k-init : goal.loop-k-init
loop-k-init c = visited_first (marked c.args.whole) c.args.given c.requires _ c.first_moved-k.ensures

pub visit-requires : goal.visit-requires
visit-requires c =
    let place : c.loop-k.k < (windows_in c.args.given.windows).n = omega (arith, c.loop-k-test.true, c.places_held-count.ensures) in
    record {
      visitable = next_ready (marked c.args.whole) c.args.given c.requires c.loop-k.now c.loop-k.k c.loop-k.invariant place;
      moves_bound = next_few (marked c.args.whole) c.args.given c.requires c.loop-k.now c.loop-k.k c.loop-k.invariant place;
    }

pub returns-in_err-now : goal.returns-in_err-now
returns-in_err-now c =
    let place : c.loop-k.k < (windows_in c.args.given.windows).n = omega (arith, c.loop-k-test.true, c.places_held-count.ensures) in
    ap narrowed_of (passed_on _ _ c.from_residual.ensures.1)
    ∙ visited_stopped (marked c.args.whole) c.args.given c.requires c.loop-k.now c.loop-k.k c.loop-k.invariant place c.in_err-now.ensures

pub loop-k-preserved : goal.loop-k-preserved
loop-k-preserved c =
    let place : c.loop-k.k < (windows_in c.args.given.windows).n = omega (arith, c.loop-k-test.true, c.places_held-count.ensures) in
    visited_next (marked c.args.whole) c.args.given c.requires c.loop-k.now c.loop-k.k c.loop-k.invariant place _ c.in_ok-now.ensures

pub returns : goal.returns
returns c =
    visited_all (marked c.args.whole) c.args.given c.requires c.loop-k.now c.loop-k.k c.loop-k.invariant
    (omega (arith, c.loop-k-test.false, c.places_held-count.ensures))
