-- The examples hold of the definitions.
-- Assumes nothing.
use mathlib.Core.Path.{refl}
use Rattle.base.specs.Counting.{first_below}
use Rattle.list.specs.Entries.{entry_fault}
use Rattle.list.specs.Clashes.{first_clash}
use Rattle.list.specs.Checks.{header_fault, opening_fault}
use Rattle.format.specs.EntryFields.{entry_at, fields_entry, entry_of}
use Rattle.format.specs.Reading.{entries_from, body_of, opened_of, decode_of, map_place, read_of}
use Rattle.shares.specs.Shares.{front_entries, front_of}
use Rattle.shares.specs.Examples.{FrontExamples}

pub front_examples : FrontExamples
unfolding first_below entry_fault first_clash header_fault opening_fault entry_at fields_entry entry_of
    entries_from body_of opened_of decode_of map_place read_of front_entries front_of
front_examples =
    record {
      read = refl;
      tested_elsewhere = refl;
      none_follow = refl;
      clash = refl;
      cut_off = refl;
      missing = refl;
      no_minutes = refl;
      too_many = refl;
      opens_late = refl;
      empty_list_lem = refl;
    }
