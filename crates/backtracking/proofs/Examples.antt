-- The examples hold of the definitions.
-- Assumes nothing.
use mathlib.Core.Path.{refl}
use Rattle.base.specs.Counting.{sum, first_below, best, list_of}
use Rattle.windows.specs.Intervals.{work, left_end, right_end, overload_of}
use Rattle.jackson.specs.Minutes.{chosen, minute_of, later, schedule}
use Rattle.narrow.specs.Searching.{failed_starts, failed_ends, least_start, greatest_end}
use Rattle.narrow.specs.Rounds.{narrow_side, visit, visits, rounds, narrowing}
use Rattle.backtracking.specs.Searches.{trial, starts_from, search_from, search_within}
use Rattle.backtracking.specs.Examples.{SearchExamples}

pub search_examples : SearchExamples
unfolding sum first_below best list_of work left_end right_end overload_of chosen minute_of later schedule
    failed_starts failed_ends least_start greatest_end narrow_side visit visits rounds narrowing trial starts_from search_from search_within
search_examples =
    record {
      least = refl;
      least_plan = refl;
      first_plan = refl;
      no_whole = refl;
      back = refl;
      back_plan = refl;
      back_spent = refl;
      back_first = refl;
      back_untried = refl;
      none_exact = refl;
      none_spent = refl;
      alike = refl;
      apart = refl;
      two_settled = refl;
      two_none = refl;
      two_spent = refl;
      a_settled = refl;
      a_given = refl;
    }
