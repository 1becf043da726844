-- Each way out has its outcome.
-- Assumes nothing.
use Rattle.list.proofs.Answered.{passed_on}
use Rattle.narrow.proofs.CallCases.{list_room, round_turned, round_made}
use Rattle.narrow.proofs.calls.make_round.Goals as goal

pub returns-in_err-check : goal.returns-in_err-check
returns-in_err-check c = round_turned c.args.list _ _ (passed_on _ _ c.from_residual.ensures.1) c.in_err-check.ensures

pub single_round-found-requires : goal.single_round-found-requires
single_round-found-requires c =
    list_room c.args.list c.in_ok-check.ensures c.whole_places.result c.whole_places.ensures c.unchecked_windows.result
    c.unchecked_windows.ensures

pub returns : goal.returns
returns c =
    round_made c.args.list c.in_ok-check.ensures c.whole_places.result c.whole_places.ensures c.unchecked_windows.result
    c.unchecked_windows.ensures _ _ c.answer_with.ensures c.single_round-found.ensures
