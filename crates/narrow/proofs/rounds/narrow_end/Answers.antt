-- The search for d is that for r in the mirror.
-- Assumes nothing.
use mathlib.Core.Path.{ap, ◌∙◌}
use Rattle.list.proofs.Answered.{passed_on}
use Rattle.narrow.specs.Calls.{narrowed_of}
use Rattle.narrow.proofs.RoundCases.{mirror_visitable, mirror_side, mirror_placed}
use Rattle.narrow.proofs.rounds.narrow_end.Goals as goal

pub narrow_start-requires : goal.narrow_start-requires
narrow_start-requires c =
    record {
      visitable = mirror_visitable c.args.now c.mirrored-windows.result c.args.k c.mirrored-windows.ensures.windows c.requires.visitable;
      moves_bound = c.requires.moves_bound;
    }

pub returns-in_err-found : goal.returns-in_err-found
returns-in_err-found c =
    ap narrowed_of (passed_on _ _ c.from_residual.ensures.1)
    ∙ mirror_side c.args.now c.mirrored-windows.result c.args.k c.mirrored-windows.ensures.windows c.requires.visitable _
    c.in_err-found.ensures

pub returns : goal.returns
returns c =
    mirror_placed c.args.now c.mirrored-windows.result c.args.k c.mirrored-windows.ensures.windows c.requires.visitable _ _
    c.mirrored-windows-2.ensures.windows c.in_ok-found.ensures
