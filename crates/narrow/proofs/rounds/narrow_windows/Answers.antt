-- Each way out has its outcome.
-- Assumes nothing.
use borrow.Author.Rules.{rules}
use Prim.Native.Nat.{◌<◌}
use Rattle.list.specs.DayLists.{marked}
use Rattle.list.proofs.Answered.{passed_on}
use Rattle.narrow.proofs.CallCases.{windows_without_room, windows_countable, windows_overloaded, windows_stopped, windows_found}
use Rattle.narrow.proofs.rounds.narrow_windows.Goals as goal

pub returns-in_err-room_fault : goal.returns-in_err-room_fault
returns-in_err-room_fault c =
    windows_without_room (marked c.args.whole) c.args.windows _ _ (passed_on _ _ c.from_residual.ensures.1) c.in_err-room_fault.ensures

pub returns-in_err-unchecked_overload : goal.returns-in_err-unchecked_overload
returns-in_err-unchecked_overload c =
    windows_overloaded (marked c.args.whole) c.args.windows c.in_ok-room_fault.ensures _ _
    (passed_on _ _ c.from_residual-in_err-unchecked_overload.ensures.1) c.in_err-unchecked_overload.ensures

pub all_rounds-requires : goal.all_rounds-requires
all_rounds-requires c =
    let short : c.args.windows.h < 65536 = search rules in
    windows_countable (marked c.args.whole) c.args.windows c.in_ok-room_fault.ensures c.in_ok-unchecked_overload.ensures short

pub returns-in_err-found : goal.returns-in_err-found
returns-in_err-found c =
    windows_stopped (marked c.args.whole) c.args.windows c.in_ok-room_fault.ensures c.in_ok-unchecked_overload.ensures _ _
    (passed_on _ _ c.from_residual-in_err-found.ensures.1) c.in_err-found.ensures

pub returns : goal.returns
returns c =
    windows_found (marked c.args.whole) c.args.windows c.in_ok-room_fault.ensures c.in_ok-unchecked_overload.ensures _ c.in_ok-found.ensures
