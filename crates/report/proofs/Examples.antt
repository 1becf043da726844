-- The examples of reports hold: the definitions compute.
-- Assumes nothing.
use mathlib.Core.Path.{refl}
use Rattle.list.specs.Entries.{entry_fault}
use Rattle.format.specs.EntryFields.{entry_at, fields_entry, entry_of}
use Rattle.list.specs.Clashes.{first_clash}
use Rattle.list.specs.Checks.{header_fault, opening_fault}
use Rattle.format.specs.Reading.{entries_from, body_of, opened_of, decode_of, map_place, read_of}
use Rattle.base.specs.Counting.{sum, first_below, last_below, best, list_of}
use Rattle.windows.specs.Intervals.{work, left_end, right_end, overload_of}
use Rattle.jackson.specs.Minutes.{chosen, minute_of, later, schedule}
use Rattle.narrow.specs.Searching.{failed_starts, failed_ends, least_start, greatest_end}
use Rattle.narrow.specs.Rounds.{narrow_side, visit, visits, rounds, narrowing}
use Rattle.narrow.specs.Calls.{entries_with, list_with}
use Rattle.bounds.specs.Ends.{failed_deadlines, failed_releases, least_end, greatest_start}
use Rattle.planner.specs.BrokenEntries.{broken_in}
use Rattle.report.specs.Text.{ascii, digits, decimal, line, texts}
use Rattle.report.specs.Runs.{run_end}
use Rattle.report.specs.Reports.{head_line, entry_line, entry_lines, run_line, run_lines, refusal_line, day_text, report_of}
use Rattle.report.specs.Examples.{ReportExamples}

pub report_examples : ReportExamples
unfolding entry_at entry_fault fields_entry entry_of header_fault opening_fault entries_from body_of opened_of decode_of map_place
    first_clash read_of
    sum first_below last_below best list_of work left_end right_end overload_of chosen minute_of later schedule
    failed_starts failed_ends least_start greatest_end narrow_side visit visits rounds narrowing entries_with list_with
    failed_deadlines failed_releases least_end greatest_start broken_in ascii digits decimal line texts run_end
    head_line entry_line entry_lines run_line run_lines refusal_line day_text report_of
report_examples =
    record {
      day = record { report = refl; prints = refl };
      bad_window = record { report = refl; prints = refl };
      overloaded = record { report = refl; prints = refl };
      no_place = record { report = refl; prints = refl };
      clash = record { report = refl; prints = refl };
      opening = record { report = refl; prints = refl };
      opens_past_day = record { report = refl; prints = refl };
      before_opening = record { report = refl; prints = refl };
    }
