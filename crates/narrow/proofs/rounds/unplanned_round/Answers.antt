-- The loop's invariant is that no whole entry was met.
-- Assumes nothing.
use Prim.Native.Nat.{◌<◌, ◌≤◌}
use native.Mathlib.Omega.{arith}
use Rattle.list.specs.DayLists.{marked}
use Rattle.windows.specs.Windows.{windows_in}
use Rattle.narrow.specs.Rounds.{unmoved}
use Rattle.narrow.proofs.UnplannedCases.{pauses_none, pauses_next, pauses_all, first_refused}
use Rattle.narrow.proofs.rounds.unplanned_round.Goals as goal

pub loop-k-init : goal.loop-k-init
loop-k-init c = pauses_none (marked c.args.whole) (unmoved (windows_in c.args.windows))

pub returns-then-whole-k : goal.returns-then-whole-k
returns-then-whole-k c =
    let place : c.loop-k.k < (windows_in c.args.windows).n = omega (arith, c.places_held-k-end.ensures) in
    first_refused (marked c.args.whole) (unmoved (windows_in c.args.windows)) c.loop-k.k c.loop-k.invariant place c.requires.formed
    c.requires.fact c.if-whole-k.true

pub loop-k-preserved : goal.loop-k-preserved
loop-k-preserved c =
    let place : c.loop-k.k < (windows_in c.args.windows).n = omega (arith, c.places_held-k-end.ensures) in
    pauses_next (marked c.args.whole) (unmoved (windows_in c.args.windows)) c.loop-k.k c.loop-k.invariant place c.if-whole-k.false

pub returns : goal.returns
returns c =
    let past : (windows_in c.args.windows).n ≤ c.loop-k.k = omega (arith, c.places_held-k-end.ensures) in
    rw c.unmoved.ensures
    (pauses_all (marked c.args.whole) (unmoved (windows_in c.args.windows)) c.loop-k.k c.loop-k.invariant past)
