-- The examples hold: the definitions compute.
-- Assumes nothing.
use mathlib.Core.Path.{refl}
use Rattle.base.specs.Counting.{first_below}
use Rattle.list.specs.Entries.{entry_fault}
use Rattle.list.specs.Clashes.{first_clash}
use Rattle.list.specs.Checks.{header_fault, opening_fault}
use Rattle.format.specs.EntryFields.{entry_at, fields_entry, entry_of}
use Rattle.format.specs.Reading.{entries_from, body_of, opened_of, decode_of, map_place, read_of}
use Rattle.format.specs.Examples.{ReadExamples}

pub read_examples : ReadExamples
unfolding first_below entry_fault first_clash header_fault opening_fault entry_at fields_entry entry_of
    entries_from body_of opened_of decode_of map_place read_of
read_examples =
    record {
      all_fields_lem = refl;
      no_header = refl;
      day_first = refl;
      longest_day_lem = refl;
      day_too_long = refl;
      no_map = refl;
      map_first = refl;
      no_serial = refl;
      no_minutes = refl;
      bit_six = refl;
      field_first = refl;
      written_first = refl;
      minutes_first = refl;
      window = refl;
      entry_first = refl;
      entries_first = refl;
      bytes_left = refl;
      clash = refl;
      left_over = refl;
      two_clashes = refl;
      only_touch = refl;
      opening_meant = refl;
      default_written_lem = refl;
      before_opening = refl;
      after_opening = refl;
      minute_missing = refl;
      half_missing = refl;
      too_many = refl;
      count_first = refl;
      zero_written_lem = refl;
      opens_past_day = refl;
      default_first = refl;
      opening_first = refl;
    }
