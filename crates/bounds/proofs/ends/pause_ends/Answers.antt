-- Where all entries are whole, no number is asked for.
-- Assumes nothing.
use native.Mathlib.Omega.{arith}
use Rattle.list.specs.DayLists.{marked}
use Rattle.bounds.proofs.EndCases.{no_pause, closed_at}
use Rattle.bounds.proofs.ends.pause_ends.Goals as goal

pub returns-then-all_whole : goal.returns-then-all_whole
returns-then-all_whole c =
    λ k place is.
    let whole = marked c.args.whole in
    absurd (no_pause whole c.all_whole.ensures c.if-all_whole.true k (omega (arith, place, c.places_held.ensures)) is)

pub returns : goal.returns
returns c =
    λ k place _.
    closed_at c.args.windows c.closed_ends.result c.closed_ends.ensures.ends k place
