-- No pause entry is broken, and a start and its minutes lie in the day.
-- Assumes nothing.
use borrow.Author.Rules.{rules}
use mathlib.Core.Path.{ap}
use mathlib.Core.Bool.{not}
use Rattle.planner.proofs.BrokenCases.{minutes_in_day, start_in_day, not_whole}
use Rattle.planner.proofs.broken.one_broken.Goals as goal

pub returns-then-not-whole : goal.returns-then-not-whole
returns-then-not-whole c =
    not_whole c.requires.holds_plan c.requires.k_bound c.args.whole (ap not c.if-not-whole.true)

pub overflow_add-start_in : goal.overflow_add-start_in
overflow_add-start_in c =
    search (
      rules,
      start_in_day c.requires.holds_plan c.requires.k_bound,
      minutes_in_day c.requires.holds_plan c.requires.k_bound,
      c.from-p.ensures,
      rw c.from.ensures at c.start_in.ensures,
    )
