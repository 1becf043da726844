-- Bytes the other way round are their mirror.
-- Assumes nothing.
use mathlib.Core.Path.{◌∙◌}
use Rattle.bounds.proofs.ShownCases.{mirror_reversed}
use Rattle.bounds.proofs.shown.mirror_plan.Goals as goal

pub returns : goal.returns
returns c = c.reverse.ensures.after ∙ mirror_reversed c.args.plan.now
