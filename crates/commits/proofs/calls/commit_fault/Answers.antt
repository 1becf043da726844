-- Row 17, or what an ask tests.
-- Assumes nothing.
use mathlib.Core.Path.{sym, ◌∙◌}
use Rattle.commits.proofs.RowFacts.{stamp_right, stamp_stale}
use Rattle.commits.proofs.calls.commit_fault.Goals as goal

pub returns-then-stamp-from : goal.returns-then-stamp-from
returns-then-stamp-from c =
    c.ask_fault.ensures ∙ sym (stamp_right c.args.day c.args.stamp (rw c.from.ensures at c.if-stamp-from.true))

pub returns : goal.returns
returns c =
    sym (stamp_stale c.args.day c.args.stamp (λ e. c.if-stamp-from.false (e ∙ sym c.from.ensures)))
