-- Each way out has its row, and the last one its plan.
-- Assumes nothing.
use Prim.Native.Nat.{◌<◌, ◌≤◌}
use native.Mathlib.Omega.{arith}
use Rattle.list.proofs.Answered.{handed_on}
use Rattle.windows.specs.Windows.{windows_in}
use Rattle.bounds.proofs.ShownCases.{stores_no_room, no_place, no_buffer, stored_formed, plan_stored}
use Rattle.bounds.proofs.shown.store_plan.Goals as goal

pub returns-in_err-room_fault : goal.returns-in_err-room_fault
returns-in_err-room_fault c =
    stores_no_room c.args.shown c.args.whole c.args.windows c.args.k c.args.plan.now _ (handed_on _ _ c.from_residual.ensures.1)
    c.in_err-room_fault.ensures

pub returns-then-places_held-k : goal.returns-then-places_held-k
returns-then-places_held-k c =
    let past : (windows_in c.args.windows).n ≤ c.args.k = omega (arith, c.if-places_held-k.true, c.places_held.ensures) in
    no_place c.args.shown c.args.whole c.args.windows c.args.k c.args.plan.now c.in_ok-room_fault.ensures past

pub returns-then-plan-h : goal.returns-then-plan-h
returns-then-plan-h c =
    let known : c.args.k < (windows_in c.args.windows).n = omega (arith, c.if-places_held-k.false, c.places_held.ensures) in
    rw c.from-h.ensures
    (no_buffer c.args.shown c.args.whole c.args.windows c.args.k c.args.plan.now c.in_ok-room_fault.ensures known
    (rw c.from-h.ensures at c.if-plan-h.true))

pub store_shown-requires : goal.store_shown-requires
store_shown-requires c =
    let known : c.args.k < (windows_in c.args.windows).n = omega (arith, c.if-places_held-k.false, c.places_held.ensures) in
    let formed = stored_formed c.args.shown c.args.whole c.args.windows c.args.k c.args.plan.now c.in_ok-room_fault.ensures in
    record { searchable = record { formed = formed; place = known }; h_in_bounds = (rw c.from-h.ensures at c.if-plan-h.false) }

pub returns : goal.returns
returns c =
    let known : c.args.k < (windows_in c.args.windows).n = omega (arith, c.if-places_held-k.false, c.places_held.ensures) in
    plan_stored c.args.shown c.args.whole c.args.windows c.args.k c.args.plan.now c.in_ok-room_fault.ensures known
    (rw c.from-h.ensures at c.if-plan-h.false) _ _ c.store_shown.ensures
