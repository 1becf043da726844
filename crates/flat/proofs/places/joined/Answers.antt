-- Both runs of numbers fill the 128.
-- Assumes nothing.
use borrow.Author.Rules.{rules}
use mathlib.Core.Path.{◌∙◌}
use Rattle.flat.proofs.PlacesCases.{both_copied}
use Rattle.flat.proofs.places.joined.Goals as goal

pub returns : goal.returns
returns c =
    let front = c.copy_from_slice.ensures.after ∙ c.place_numbers.ensures in
    let back = c.copy_from_slice-2.ensures.after ∙ c.place_numbers-2.ensures in
    both_copied c.zero_bounds-bounds.result _ _ front back (search rules) (search rules) (search rules)
