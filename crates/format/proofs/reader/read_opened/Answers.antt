-- `reader::read_opened` meets its contract: with an opening minute its rows decide, without one the entries do.
-- Assumes nothing.
use mathlib.Core.Path.{sym, ◌∙◌}
use Rattle.format.proofs.ReadCases.{unwritten_place, unwritten_frame, opened_unwritten}
use Rattle.format.proofs.reader.read_opened.Goals as goal

pub read_opening-requires : goal.read_opening-requires
read_opening-requires c =
    (c.requires.1, c.requires.2, c.requires.4, sym c.says_opening.ensures ∙ c.if-says_opening.true)

pub read_body-requires : goal.read_body-requires
read_body-requires c =
    let w = sym c.says_opening.ensures ∙ c.if-says_opening.false in
    (c.requires.0, c.requires.1, unwritten_frame c.args.bytes.now w _ c.requires.2, c.requires.4, unwritten_place c.args.bytes.now w)

pub returns : goal.returns
returns c =
    let w = sym c.says_opening.ensures ∙ c.if-says_opening.false in
    rw (opened_unwritten c.args.bytes.now w c.requires.0 _ c.requires.2 c.requires.3) c.read_body.ensures
