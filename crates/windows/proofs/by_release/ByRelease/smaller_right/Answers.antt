-- What the right ends show with one more of them, in each case.
-- Assumes nothing.
use borrow.Author.Rules.{rules}
use mathlib.Core.Path.{◌≡◌}
use mathlib.Core.Bool.{true, false}
use lib.ListN.{get_or}
use Rattle.windows.proofs.IntervalCases.{ends_by, right_stays, right_walked}
use Rattle.windows.proofs.by_release.ByRelease.smaller_right.Goals as goal

pub returns-then-is_some_and : goal.returns-then-is_some_and
returns-then-is_some_and c =
    let shown_by : ends_by c.args.shown.overloaded (get_or c.args.self.now.windows.d c.args.i 0) ≡ true = search rules in
    right_stays _ _ _ c.requires.finds_right shown_by

pub returns : goal.returns
returns c =
    let not_shown : ends_by c.args.shown.overloaded (get_or c.args.self.now.windows.d c.args.i 0) ≡ false = search rules in
    rw c.or.ensures (right_walked _ _ _ c.requires.finds_right _ _ c.left_end-left.ensures c.requires.i_lt_n not_shown)
