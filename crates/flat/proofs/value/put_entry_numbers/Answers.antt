-- Seven numbers, copied at once.
-- Assumes nothing.
use mathlib.Core.Path.{refl}
use Rattle.format.proofs.Copied.{copied}
use Rattle.flat.specs.Flat.{flat_entry}
use Rattle.flat.proofs.FlatCases.{present_is}
use Rattle.flat.proofs.value.put_entry_numbers.Goals as goal

pub returns : goal.returns
returns c =
    let fields = rw (
      c.from.ensures,
      c.is_some.ensures,
      present_is c.args.e.seal,
      c.unwrap_or.ensures,
      c.from-2.ensures,
      c.from-3.ensures,
      c.from-4.ensures,
      c.whole_flag.ensures,
    ) at c.copy_from_slice.ensures.after in
    copied c.args.fields.now _ (flat_entry c.args.e) c.args.at 7 c.requires refl fields
