-- What the public call promises.
use Rattle.std.specs.Prelude.{ℕ, ◌≡◌, List, Result}
use Rattle.list.specs.Refusals.{outcome_of}
use Rattle.list.specs.declared.types.Refusal.{Refusal}
use Rattle.list.specs.declared.types.DayList.{DayList}
use Rattle.shares.specs.Shares.{front_of}
use Rattle.shares.specs.Laws.{FrontLaw}

-- what `read_front` answers of the bytes bs
pub record ReadsFront (bs : List ℕ) (a : Result DayList Refusal) : Type 0 where
  pub outcome : outcome_of a ≡ front_of bs
  pub law : FrontLaw bs
