-- The loop's invariant is that the search from s on finds what it finds from the entry's r on; the measure is what is left of the window.
-- Assumes nothing.
use borrow.Author.Rules.{rules}
use mathlib.Core.Path.{◌≡◌, sym, ◌∙◌}
use native.Mathlib.Omega.{arith}
use lib.ListN.{length}
use Rattle.edges.proofs.StartCases.{search_none, search_found, search_less, search_next, none_found, start_found}
use Rattle.edges.proofs.starts.least_start.Goals as goal

pub returns-then-places_held-k : goal.returns-then-places_held-k
returns-then-places_held-k c = none_found c.args.windows _ (omega (arith, c.places_held.ensures, c.if-places_held-k.true))

pub loop-others-smaller : goal.loop-others-smaller
loop-others-smaller c =
    search_less _ _ _ _ _ _ _ c.loop-others.invariant (sym c.is_used_up.ensures.value ∙ c.if-is_used_up.false) _
    (rw c.from.ensures at c.pass-next.ensures) c.if-next-s.false

pub loop-others-preserved : goal.loop-others-preserved
loop-others-preserved c =
    search_next _ _ _ _ _ _ _ c.loop-others.invariant (sym c.is_used_up.ensures.value ∙ c.if-is_used_up.false) _
    (rw c.from.ensures at c.pass-next.ensures) c.if-next-s.false

pub returns-then-is_used_up : goal.returns-then-is_used_up
returns-then-is_used_up c =
    let long : length c.args.windows.p ≡ 64 = search rules in
    let of = c.of-others in
    start_found c.args.windows c.args.k of.result.order (omega (arith, c.places_held.ensures, c.if-places_held-k.false)) long
    of.ensures.holds_order _
    (rw of.ensures.windows_are at
    (search_none _ _ _ _ _ _ _ c.loop-others.invariant (sym c.is_used_up.ensures.value ∙ c.if-is_used_up.true)))

pub returns-then-next-s : goal.returns-then-next-s
returns-then-next-s c =
    let long : length c.args.windows.p ≡ 64 = search rules in
    let of = c.of-others in
    start_found c.args.windows c.args.k of.result.order (omega (arith, c.places_held.ensures, c.if-places_held-k.false)) long
    of.ensures.holds_order _
    (rw of.ensures.windows_are at
    (search_found _ _ _ _ _ _ _ c.loop-others.invariant (sym c.is_used_up.ensures.value ∙ c.if-is_used_up.false) _
    (rw c.from.ensures at c.pass-next.ensures) c.if-next-s.true))
