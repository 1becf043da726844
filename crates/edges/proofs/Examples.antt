-- The examples hold of the definitions.
-- Assumes nothing.
use mathlib.Core.Path.{refl}
use Rattle.base.specs.Counting.{sum, list_of}
use Rattle.windows.specs.Intervals.{work}
use Rattle.edges.specs.Ends.{largest, closed_end}
use Rattle.edges.specs.Examples.{EndExamples}

pub end_examples : EndExamples
unfolding sum list_of work largest closed_end
end_examples = record { full_asks = refl; full = refl; first_asks = refl; ends_by = refl; not_asked = refl; fixed = refl }
