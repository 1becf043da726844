-- The windows and the move of a search for r.
-- Assumes nothing.
use borrow.Author.Rules.{rules}
use mathlib.Core.Path.{◌≡◌, sym, ap, ◌∙◌}
use native.Mathlib.Omega.{arith}
use lib.ListN.{length, get_or}
use Rattle.list.proofs.Answered.{passed_on}
use Rattle.windows.specs.Intervals.{overload_of}
use Rattle.narrow.specs.Calls.{narrowed_of}
use Rattle.narrow.proofs.RoundCases.{jumps_least, search_says, start_refused, moved_one, placed_r}
use Rattle.narrow.proofs.rounds.narrow_start.Goals as goal

pub returns-in_err-start : goal.returns-in_err-start
returns-in_err-start c =
    let searched = search_says c.args.k c.least_start.result _ c.in_err-start.ensures.value in
    let least = jumps_least c.args.now.windows c.args.k c.requires.visitable c.least_start.result c.least_start.ensures in
    ap narrowed_of (passed_on _ _ c.from_residual.ensures.1) ∙ sym (start_refused overload_of _ _ _ (sym (searched ∙ least)))

pub overflow_add-result : goal.overflow_add-result
overflow_add-result c =
    omega (arith, c.moved_from.ensures, moved_one (get_or c.args.now.windows.r c.args.k 0) c.in_ok-start.start, c.requires.moves_bound)

pub returns : goal.returns
returns c =
    let long : length c.args.now.windows.r ≡ 64 = search rules in
    let searched = search_says c.args.k c.least_start.result _ c.in_ok-start.ensures.value in
    let least = jumps_least c.args.now.windows c.args.k c.requires.visitable c.least_start.result c.least_start.ensures in
    placed_r c.args.now c.args.k _ _ (omega (arith, long, c.requires.visitable.place)) c.moved_from.ensures (sym (searched ∙ least))
