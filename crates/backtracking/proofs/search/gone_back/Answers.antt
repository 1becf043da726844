-- The window is opened again, and the next start is one more.
-- Assumes nothing.
use borrow.Author.Rules.{rules}
use mathlib.Core.Path.{refl, ap}
use Prim.Native.Nat.{ℕ, ◌+◌}
use mir.Val.{Fits}
use mir.Syntax.{w16}
use lib.ListN.{get_or}
use native.Mathlib.Omega.{arith}
use Rattle.backtracking.proofs.search.gone_back.Goals as goal
use Rattle.backtracking.proofs.search.gone_back.Goals.{Start}

fits_r : (c : Start) → Fits w16 (get_or c.args.at.windows.r c.args.k 0)
fits_r c = search rules

pub overflow_add-result : goal.overflow_add-result
overflow_add-result c =
    omega (arith, fits_r (goal.at.overflow_add-result c).Start, c.from.ensures)

pub returns : goal.returns
returns c =
    record {
      windows = c.with_window.ensures;
      place = refl;
      start = ap (λ (x : ℕ). x + 1) c.from.ensures;
      small = omega (arith, fits_r (goal.at.returns c).Start, c.from.ensures);
      trials = refl;
    }
