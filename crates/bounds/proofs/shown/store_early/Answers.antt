-- The windows whose schedule is stored are those with k's d set to its least end.
-- Assumes nothing.
use borrow.Author.Rules.{rules}
use mathlib.Core.Path.{◌≡◌}
use native.Mathlib.Omega.{arith}
use lib.ListN.{length}
use Rattle.windows.specs.Windows.{windows_in}
use Rattle.windows.proofs.ArrayCases.{held_d}
use Rattle.bounds.proofs.ShownCases.{stored_early}
use Rattle.bounds.proofs.shown.store_early.Goals as goal

-- The windows whose schedule is stored are those with k's d set to its least end.
pub least_end-end-requires : goal.least_end-end-requires
least_end-end-requires c = c.requires.searchable

pub offset_bounds-shown-k : goal.offset_bounds-shown-k
offset_bounds-shown-k c = search (rules, c.requires.searchable.place)

pub bounds-shown-k : goal.bounds-shown-k
bounds-shown-k c = search (rules, c.requires.searchable.place)

pub returns : goal.returns
returns c =
    let end = c.least_end-end.result in
    let windows = c.args.windows in
    let long : length windows.d ≡ 64 = search rules in
    let same = held_d windows c.args.k end (omega (arith, long, c.requires.searchable.place)) in
    stored_early (λ _. c.args.whole) (windows_in windows) _ c.args.k end c.args.plan.now c.unchecked_schedule-filled.result _ same
    c.unchecked_schedule-filled.ensures c.requires.h_in_bounds c.least_end-end.ensures
