-- The examples hold of the definitions.
-- Assumes nothing.
use mathlib.Core.Path.{refl}
use Rattle.base.specs.Counting.{sum, first_below, last_below, best, list_of}
use Rattle.list.specs.Entries.{entry_fault}
use Rattle.list.specs.Clashes.{first_clash}
use Rattle.list.specs.Checks.{header_fault, opening_fault, entries_fault, values_fault, check_of}
use Rattle.windows.specs.Intervals.{work, left_end, right_end, overload_of}
use Rattle.jackson.specs.Minutes.{chosen, minute_of, later, schedule}
use Rattle.narrow.specs.Searching.{failed_starts, failed_ends, least_start, greatest_end}
use Rattle.narrow.specs.Rounds.{narrow_side, visit, visits, rounds, narrowing}
use Rattle.narrow.specs.Calls.{entries_with, list_with}
use Rattle.planner.specs.Calls.{plan_checks}
use Rattle.commits.specs.Examples.{CommitExamples}

pub commit_examples : CommitExamples
unfolding sum first_below last_below best list_of entry_fault first_clash header_fault opening_fault entries_fault values_fault check_of
    work left_end right_end overload_of chosen minute_of later schedule failed_starts failed_ends least_start greatest_end
    narrow_side visit visits rounds narrowing entries_with list_with plan_checks
commit_examples =
    record {
      fresh = refl;
      beside = refl;
      not_planned = refl;
      asks = refl;
      plan = refl;
      asks_fourth = refl;
      commits = refl;
      stale = refl;
      no_plan = refl;
      stays = refl;
      short = refl;
      no_minutes = refl;
      past_day = refl;
      clashes = refl;
      stale_first = refl;
      then_full = refl;
      full_ask = refl;
      over_full = refl;
      then_longer = refl;
      largest = refl;
    }
