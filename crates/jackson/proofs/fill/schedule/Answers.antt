-- Filling a plan buffer answers the value check, then rows 11 and 9, and stores the schedule only if none holds.
-- Assumes nothing.
use mathlib.Core.Path.{refl}
use Rattle.list.proofs.Answered.{handed_on}
use Rattle.jackson.proofs.CallCases.{not_filled, day_fillable, fill_too_short, not_planned, fill_planned}
use Rattle.jackson.proofs.fill.schedule.Goals as goal

pub returns-in_err-day : goal.returns-in_err-day
returns-in_err-day c = not_filled c.args.list c.args.plan.now _ _ (handed_on _ _ c.from_residual.ensures.1) refl c.in_err-day.ensures

pub returns-then-plan-h : goal.returns-then-plan-h
returns-then-plan-h c =
    rw c.from-h.ensures
    (fill_too_short c.args.list c.args.plan.now c.in_ok-day.day c.in_ok-day.ensures (rw c.from-h.ensures at c.if-plan-h.true))

pub returns-in_err-unchecked_overload : goal.returns-in_err-unchecked_overload
returns-in_err-unchecked_overload c =
    not_planned c.args.list c.args.plan.now c.in_ok-day.day c.in_ok-day.ensures (rw c.from-h.ensures at c.if-plan-h.false) _
    (handed_on _ _ c.from_residual-in_err-unchecked_overload.ensures.1) c.in_err-unchecked_overload.ensures

pub store_places-requires : goal.store_places-requires
store_places-requires c =
    rw c.from-h.ensures
    (day_fillable c.args.list c.args.plan.now c.in_ok-day.day c.in_ok-day.ensures (rw c.from-h.ensures at c.if-plan-h.false))

pub returns : goal.returns
returns c =
    fill_planned c.args.list c.args.plan.now c.in_ok-day.day c.in_ok-day.ensures (rw c.from-h.ensures at c.if-plan-h.false) _ c.in_ok-unchecked_overload.ensures
    (rw c.from-h.ensures at c.store_places.ensures)
