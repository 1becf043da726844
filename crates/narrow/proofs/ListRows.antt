-- The rows of narrowing a list and of one round, in facts.
-- Assumes nothing.
use mathlib.Core.Path.{refl}
use Rattle.list.specs.declared.types.DayList.{DayList}
use Rattle.narrow.specs.Calls.{settle_of, round_of, CheckedLaw}

pub checked_law : (l : DayList) → CheckedLaw l
unfolding settle_of round_of
checked_law l =
    record {
      settle_before = λ k e. rw e refl;
      settle_then = λ w. rw w refl;
      round_before = λ k e. rw e refl;
      round_then = λ w. rw w refl;
    }
