-- The examples hold: the definitions compute.
-- Assumes nothing.
use mathlib.Core.Path.{refl}
use Rattle.flat.specs.Flat.{flat_entries}
use Rattle.flat.specs.Examples.{FlatExamples}

pub flat_examples : FlatExamples
unfolding flat_entries
flat_examples =
    record {
      layout = refl;
      large_frame = refl;
      large_count = refl;
      large_entry = refl;
      no_seal = refl;
      day_list_lem = refl;
      day_stamp = refl;
      large_stamp = refl;
      list_length = refl;
      former_length = refl;
    }
