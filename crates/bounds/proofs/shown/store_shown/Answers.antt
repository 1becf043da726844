-- The early plan is stored as it is. For the late one the early plan in the mirror is stored and mirrored, and its end turned round.
-- Assumes nothing.
use mathlib.Core.Path.{ap}
use native.Mathlib.Omega.{arith}
use Rattle.windows.specs.Windows.{Windows}
use Rattle.bounds.proofs.ShownCases.{searchable_mirror, end_in_day, stored_late}
use Rattle.bounds.proofs.shown.store_shown.Goals as goal

pub store_early-end-requires : goal.store_early-end-requires
store_early-end-requires c =
    let mirrored_says = c.mirrored.ensures in
    record {
      searchable =
          searchable_mirror c.requires.searchable mirrored_says;
      h_in_bounds =
          omega (arith, ap (λ (w : Windows). w.h) mirrored_says.windows, c.requires.h_in_bounds);
    }

pub overflow_sub-result : goal.overflow_sub-result
overflow_sub-result c =
    end_in_day c.requires.searchable.formed c.requires.searchable.place c.mirrored.ensures.windows c.store_early-end.ensures

pub returns-in-Early : goal.returns-in-Early
returns-in-Early c = rw c.in-Early.is c.store_early.ensures

pub returns-in-Late : goal.returns-in-Late
returns-in-Late c =
    rw (c.in-Late.is, c.from.ensures)
    (stored_late c.requires.searchable.formed c.requires.searchable.place c.mirrored.ensures.windows c.store_early-end.ensures _
    (rw c.from.ensures at c.mirror_plan.ensures))
