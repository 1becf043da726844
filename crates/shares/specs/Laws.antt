-- What reading the front of bytes says, against reading all of them: `front_law` of proofs/FrontLaws.antt, for every input.
use Rattle.std.specs.Prelude.{ℕ, ◌≤◌, ◌≡◌, List, [], ◌∷◌, ◌++◌, length, take}
use Rattle.base.specs.Outcomes.{Code, code, answered, refused}
use Rattle.list.specs.Checks.{WellFormed}
use Rattle.list.specs.declared.types.DayList.{DayList}
use Rattle.format.specs.Reading.{read_of}
use Rattle.format.specs.Writing.{bytes_of}
use Rattle.shares.specs.Shares.{front_of}

pub record FrontLaw (bs : List ℕ) : Type 0 where
  -- where bytes are left over, those before them are read alone, and else all of them: the same answer, or the same refusal
  pub left_over : (at : ℕ) → read_of bs ≡ refused (code 8 (at ∷ [])) → front_of bs ≡ read_of (take at bs)
  pub none_left : ((at : ℕ) → read_of bs ≡ refused (code 8 (at ∷ [])) → ⊥) → front_of bs ≡ read_of bs
  -- row 8 is never given
  pub untested : (k : Code) → front_of bs ≡ refused k → k.number ≡ 8 → ⊥
  -- and in a share, which has room for every list, no byte is missing
  pub long_enough : 965 ≤ length bs → (k : Code) → front_of bs ≡ refused k → k.number ≡ 1 → ⊥
  -- a list that is read is well-formed, and its one form stands at the front
  pub formed : (l : DayList) → front_of bs ≡ answered l → WellFormed l
  pub form : (l : DayList) → front_of bs ≡ answered l → (rest : List ℕ) × (bytes_of l ++ rest ≡ bs)
  -- whatever else follows it, the same list is read
  pub whatever_follows : (l : DayList) → front_of bs ≡ answered l → (rest : List ℕ) → front_of (bytes_of l ++ rest) ≡ answered l
