-- Days of several tables, as one statement; `table_examples` of proofs/Examples.antt proves it.
use Rattle.std.specs.Prelude.{◌≡◌, [], ◌∷◌}
use Rattle.base.specs.Outcomes.{code, answered, refused}
use Rattle.windows.specs.Windows.{Windows, columns}
use Rattle.tables.specs.Fillings.{filling}
use Rattle.tables.specs.TableIntervals.{table_overload_of}

-- H 3: [0,3) p 3, [1,3) p 2
abbrev pub spread_out : Windows
spread_out = columns 3 2 (0 ∷ 1 ∷ []) (3 ∷ 3 ∷ []) (3 ∷ 2 ∷ [])

-- H 3: [0,3) p 4, [0,1) p 1, [1,3) p 1
abbrev pub going_on : Windows
going_on = columns 3 3 (0 ∷ 0 ∷ 1 ∷ []) (3 ∷ 1 ∷ 3 ∷ []) (4 ∷ 1 ∷ 1 ∷ [])

-- H 4: [1,3) p 5
abbrev pub too_much : Windows
too_much = columns 4 1 (1 ∷ []) (3 ∷ []) (5 ∷ [])

pub record TableExamples : Type 0 where
  -- the first box is at both tables of minute 0, and goes on at table 0 of minute 1; then it is finished
  pub spread : filling 2 spread_out ≡ 0 ∷ 0 ∷ 0 ∷ 1 ∷ 1 ∷ 255 ∷ []
  -- in minute 1 the box at the last table of minute 0 goes on at table 0, and then at table 1, though the last box has fewer minutes left
  pub goes_on : filling 2 going_on ≡ 1 ∷ 0 ∷ 0 ∷ 0 ∷ 0 ∷ 2 ∷ []
  -- two tables in minutes 1 and 2 are 4 table minutes, three are 6
  pub over : table_overload_of 2 too_much ≡ refused (code 9 (1 ∷ 3 ∷ 5 ∷ []))
  pub enough : table_overload_of 3 too_much ≡ answered tt
  pub three_tables : filling 3 too_much ≡ 255 ∷ 255 ∷ 255 ∷ 0 ∷ 0 ∷ 0 ∷ 0 ∷ 0 ∷ 255 ∷ 255 ∷ 255 ∷ 255 ∷ []
