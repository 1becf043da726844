-- The two searches of a visit, for an entry's r and for its d.
use Rattle.std.specs.Prelude.{ℕ, suc, ◌+◌, ◌-◌, ◌≡◌, ◌↔◌, [], ◌∷◌, eqb}
use Rattle.base.specs.Outcomes.{code, Outcome, answered, refused, row, first_of, accepts}
use Rattle.base.specs.Counting.{first_below}
use Rattle.windows.specs.Windows.{Windows, fixed_at, fixed_up_to}
use Rattle.windows.specs.FixedEntries.{IsLeastStart, NoStart, IsGreatestEnd, NoEnd}

-- a planner's test of windows: searches ask only whether it accepts them; of the windows given its refusal is handed on
abbrev pub Test : Type 0
Test = Windows → Outcome (Unit {0})

-- how many starts s, from its r up, have s + p at most its d; as many ends e, from its d down, have r + p at most e
abbrev pub start_count : Windows → ℕ → ℕ
start_count w k = suc (w.d k) - (w.r k + w.p k)

-- "the search ends at the first start that has a plan": how many starts before it have none, or all
unfoldable pub failed_starts : Test → Windows → ℕ → ℕ
failed_starts test w k = first_below (start_count w k) (λ j. accepts (test (fixed_at w k (w.r k + j))))

-- "a plan exists when its window is [e - p, e)": how many ends before the first that has one have none, or all
unfoldable pub failed_ends : Test → Windows → ℕ → ℕ
failed_ends test w k = first_below (start_count w k) (λ j. accepts (test (fixed_up_to w k (w.d k - j))))

-- "its r becomes the least s .. or the list is refused", by row 10, which carries the place
unfoldable pub least_start : Test → Windows → ℕ → Outcome ℕ
least_start test w k = let j = failed_starts test w k in first_of (row 10 (eqb j (start_count w k)) k ∷ []) (answered (w.r k + j))

-- "Then its d becomes the greatest e"; where there is none, row 10, which only a list of steps meets
unfoldable pub greatest_end : Test → Windows → ℕ → Outcome ℕ
greatest_end test w k = let j = failed_ends test w k in first_of (row 10 (eqb j (start_count w k)) k ∷ []) (answered (w.d k - j))

-- a search answers the minute exactly when it is the one, and refuses exactly when there is none
pub record SearchLaw (test : Test) (w : Windows) (k : ℕ) : Type 0 where
  pub start_is : (s : ℕ) → (least_start test w k ≡ answered s) ↔ IsLeastStart w k s
  pub no_start : (least_start test w k ≡ refused (code 10 (k ∷ []))) ↔ NoStart w k
  pub end_is : (e : ℕ) → (greatest_end test w k ≡ answered e) ↔ IsGreatestEnd w k e
  pub no_end : (greatest_end test w k ≡ refused (code 10 (k ∷ []))) ↔ NoEnd w k
