-- `bytes::put_u16` meets its contract: the two bytes are copied at once.
-- Assumes nothing.
use mathlib.Core.Path.{refl, ◌∙◌}
use Rattle.format.specs.LittleEndian.{u16_bytes}
use Rattle.format.proofs.Copied.{copied}
use Rattle.format.proofs.bytes.put_u16.Goals as goal

pub returns : goal.returns
returns c =
    let bytes = c.copy_from_slice.ensures.after ∙ c.to_le_bytes.ensures in
    record { place = refl; stored = copied c.args.out.now _ (u16_bytes c.args.x) c.args.at 2 c.requires refl bytes }
