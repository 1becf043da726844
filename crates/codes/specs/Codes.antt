-- A refusal as numbers.
use Rattle.std.specs.Prelude.{ℕ, List, [], ◌∷◌, get_or}
use Rattle.base.specs.Outcomes.{Code}
use Rattle.codes.specs.declared.RefusalCode.{RefusalCode}

-- three values, 0 where there are fewer
abbrev pub three : List ℕ → List ℕ
three xs = get_or xs 0 0 ∷ get_or xs 1 0 ∷ get_or xs 2 0 ∷ []

-- its number, and the values that it carries
abbrev pub numbers_of : Code → RefusalCode
numbers_of k = record { number = k.number; values = three k.carries }
