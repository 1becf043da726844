-- The examples hold of the definitions.
-- Assumes nothing.
use mathlib.Core.Path.{refl}
use Rattle.base.specs.Counting.{sum, first_below, best, list_of}
use Rattle.list.specs.Entries.{entry_fault}
use Rattle.list.specs.Clashes.{first_clash}
use Rattle.list.specs.Checks.{header_fault, opening_fault, entries_fault, values_fault, check_of}
use Rattle.format.specs.EntryFields.{entry_at, fields_entry, entry_of}
use Rattle.format.specs.Forms.{entry_bytes}
use Rattle.format.specs.Headers.{header_bytes}
use Rattle.format.specs.Reading.{entries_from, map_place}
use Rattle.format.specs.Writing.{bytes_of_entries, bytes_of}
use Rattle.windows.specs.Intervals.{work, left_end, right_end, overload_of}
use Rattle.narrow.specs.Searching.{failed_starts, failed_ends, least_start, greatest_end}
use Rattle.narrow.specs.Rounds.{narrow_side, visit, visits, rounds, narrowing}
use Rattle.narrow.specs.Calls.{entries_with, list_with, round_of, settle_of}
use Rattle.shares.specs.Shares.{front_entries, front_of, share_with}
use Rattle.rooms.specs.Cycles.{number_after, number_used, next_from, next_unfinished}
use Rattle.rooms.specs.Turns.{answer_of, turn_of, lent_after}
use Rattle.rooms.specs.Rooms.{count_on, round_in, own_turn, answer_alone, slack_of}
use Rattle.rooms.specs.Examples.{RoomExamples}

pub room_examples : RoomExamples
unfolding sum first_below best list_of entry_fault first_clash header_fault opening_fault entries_fault values_fault check_of
    entry_at fields_entry entry_of entry_bytes header_bytes entries_from map_place bytes_of_entries bytes_of
    work left_end right_end overload_of failed_starts failed_ends least_start greatest_end narrow_side visit visits rounds narrowing
    entries_with list_with round_of settle_of front_entries front_of share_with count_on round_in own_turn answer_alone slack_of
    number_after number_used next_from next_unfinished answer_of turn_of lent_after
room_examples =
    record {
      first_round = refl;
      second_round = refl;
      slack = refl;
      overloaded = refl;
      begun = refl;
      begun_pauses = refl;
      stopped = refl;
      alone_refused = refl;
      stops = refl;
      larger = refl;
      unread = refl;
      unread_rows = refl;
      unread_lists = refl;
      passes_over = refl;
      from_last = refl;
      second_room = refl;
      nothing = refl;
      nothing_past = refl;
      no_rooms = refl;
      nine_rooms = refl;
      short = refl;
    }
