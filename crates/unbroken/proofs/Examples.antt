-- The examples hold of the definitions.
-- Assumes nothing.
use mathlib.Core.Path.{refl}
use Rattle.base.specs.Counting.{sum, first_below, last_below, best, list_of}
use Rattle.list.specs.Entries.{entry_fault}
use Rattle.list.specs.Clashes.{first_clash}
use Rattle.list.specs.Checks.{header_fault, opening_fault, entries_fault, values_fault, check_of}
use Rattle.windows.specs.Intervals.{work, left_end, right_end, overload_of}
use Rattle.jackson.specs.Minutes.{chosen, minute_of, later, schedule}
use Rattle.narrow.specs.Searching.{failed_starts, failed_ends, least_start, greatest_end}
use Rattle.narrow.specs.Rounds.{narrow_side, visit, visits, rounds, narrowing}
use Rattle.planner.specs.Calls.{plan_checks}
use Rattle.backtracking.specs.Searches.{trial, starts_from, search_from, search_within}
use Rattle.unbroken.specs.Calls.{unbroken_of}
use Rattle.unbroken.specs.Examples.{UnbrokenExamples}

pub unbroken_examples : UnbrokenExamples
unfolding sum first_below last_below best list_of entry_fault first_clash header_fault opening_fault entries_fault values_fault check_of
    work left_end right_end overload_of chosen minute_of later schedule failed_starts failed_ends least_start greatest_end
    narrow_side visit visits rounds narrowing plan_checks trial starts_from search_from search_within unbroken_of
unbroken_examples =
    record {
      a_found = refl;
      a_trials = refl;
      a_starts = refl;
      a_plan = refl;
      a_spent = refl;
      pause_starts = refl;
      none_trials = refl;
      none_spent = refl;
      none_stays = refl;
      short = refl;
      nine = refl;
      ten = refl;
      ten_unsearched = refl;
    }
