-- Least ends in closed form, as one statement; `end_examples` of proofs/Examples.antt proves it.
use Rattle.std.specs.Prelude.{◌≡◌, [], ◌∷◌, ◌++◌, replicate}
use Rattle.list.specs.DayLists.{by_place}
use Rattle.windows.specs.Windows.{Windows, columns}
use Rattle.edges.specs.Ends.{end_after, asked_of, closed_end}

-- a day of six minutes: [0, 6) p 2, and [1, 4) p 3, an interval that is full
abbrev pub full_interval : Windows
full_interval = columns 6 2 (0 ∷ 1 ∷ []) (6 ∷ 4 ∷ []) (2 ∷ 3 ∷ [])

-- another: [0, 6) p 2, [1, 2) p 1 and [3, 4) p 1
abbrev pub two_fixed : Windows
two_fixed = columns 6 3 (0 ∷ 1 ∷ 3 ∷ []) (6 ∷ 2 ∷ 4 ∷ []) (2 ∷ 1 ∷ 1 ∷ [])

pub record EndExamples : Type 0 where
  -- the interval asks the first entry to end after it, at 5: it has minute 0, and then none before 4
  pub full_asks : asked_of full_interval 0 4 1 ≡ 5
  pub full : by_place 2 (closed_end full_interval) ≡ (5 ∷ 4 ∷ []) ++ replicate 62 0
  -- [1, 2) asks it to end at 3, with minutes 0 and 2. From 1 to 4 there are three minutes, enough for its two and the two others from 0 on:
  -- nothing more is asked
  pub first_asks : asked_of two_fixed 0 2 1 ≡ 3
  pub ends_by : end_after two_fixed 0 1 4 ≡ 4
  pub not_asked : asked_of two_fixed 0 4 1 ≡ 0
  pub fixed : by_place 3 (closed_end two_fixed) ≡ (3 ∷ 2 ∷ 4 ∷ []) ++ replicate 61 0
