-- The examples hold of the definitions.
-- Assumes nothing.
use mathlib.Core.Path.{refl}
use Rattle.base.specs.Counting.{sum, best, list_of, concat_of}
use Rattle.windows.specs.Intervals.{work}
use Rattle.jackson.specs.Minutes.{chosen}
use Rattle.tables.specs.Fillings.{after_tables, later_at, filling}
use Rattle.tables.specs.TableIntervals.{table_left_end, table_right_end, table_overload_of}
use Rattle.tables.specs.Examples.{TableExamples}

pub table_examples : TableExamples
unfolding sum best list_of concat_of work chosen after_tables later_at filling table_left_end table_right_end table_overload_of
table_examples = record { spread = refl; goes_on = refl; over = refl; enough = refl; three_tables = refl }
