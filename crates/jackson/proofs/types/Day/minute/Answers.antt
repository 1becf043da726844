-- A minute gives the definition's place and the definition's next state.
-- Assumes nothing.
use Rattle.jackson.proofs.CallCases.{advances_over, advances_on}
use Rattle.jackson.proofs.types.Day.minute.Goals as goal

pub returns-then-self : goal.returns-then-self
returns-then-self c = advances_over c.args.self c.if-self.true

pub returns : goal.returns
returns c =
    advances_on c.args.self c.advanced.result c.choice-place.result c.if-self.false c.choice-place.ensures c.advanced.ensures
