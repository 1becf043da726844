-- `put_planned` meets its contract: planning may refuse, by row 9 or 10; else the day's text is put.
-- Assumes nothing.
use borrow.Author.Rules.{rules}
use mathlib.Core.Path.{refl}
use Rattle.list.proofs.Answered.{passed_on}
use Rattle.report.proofs.DayCases.{unplanned_is, planned_few, bytes_room, planned_put}
use Rattle.report.proofs.text.Text.put_planned.Goals as goal

pub returns-in_err-day : goal.returns-in_err-day
returns-in_err-day g c =
    rw (passed_on _ _ c.from_residual.ensures.1) (unplanned_is c.args.list c.requires _ _ refl _ c.in_err-day.ensures)

pub slice_bounds-plan-end : goal.slice_bounds-plan-end
slice_bounds-plan-end g c = rw c.from.ensures (bytes_room c.args.list c.requires _ _ refl c.in_ok-day.day c.in_ok-day.ensures)

pub put_day_text-requires : goal.put_day_text-requires
put_day_text-requires g c =
    (search rules, planned_few c.args.list c.requires _ _ refl c.in_ok-day.day c.in_ok-day.ensures)

pub returns : goal.returns
returns g c =
    planned_put c.args.list c.requires _ _ refl c.in_ok-day.day c.in_ok-day.ensures (rw c.from.ensures at c.put_day_text.ensures)
