-- A stretch gives the definition's place and minutes, each of which the place has, and the state after them.
-- Assumes nothing.
use native.Mathlib.Omega.{arith}
use Rattle.jackson.proofs.StretchCases.{stretches_over, end_later, stretches_on}
use Rattle.jackson.proofs.types.Day.stretch.Goals as goal

pub returns-then-self : goal.returns-then-self
returns-then-self c = stretches_over c.args.self c.if-self.true

pub overflow_sub-minutes : goal.overflow_sub-minutes
overflow_sub-minutes c =
    omega (arith, end_later c.args.self c.if-self.false _ c.choice-place.ensures _ c.stretch_end.ensures)

pub returns : goal.returns
returns c =
    stretches_on c.args.self c.if-self.false c.choice-place.result c.choice-place.ensures c.stretch_end.result
    c.stretch_end.ensures c.advanced_by.result c.advanced_by.ensures
