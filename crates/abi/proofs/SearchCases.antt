-- What the call about unbroken days leaves, from what the crate unbroken answers.
-- Assumes nothing.
use mathlib.Core.Path.{◌≡◌, refl, subst, ◌∙◌}
use mathlib.Core.Bool.{Bool, cond}
use mathlib.Core.List.{List}
use Prim.Native.Nat.{ℕ}
use lib.ListN.{length}
use Rattle.std.specs.Prelude.{Result, Ok, Err}
use Rattle.base.specs.Outcomes.{answered}
use Rattle.list.specs.DayLists.{whole_in}
use Rattle.list.specs.declared.types.DayList.{DayList}
use Rattle.list.specs.declared.types.Refusal.{Refusal}
use Rattle.planner.specs.Calls.{plan_of}
use Rattle.backtracking.specs.Searches.{Search, found, none, spent}
use Rattle.backtracking.specs.Calls.{is_found, ending_of}
use Rattle.unbroken.specs.Calls.{unbroken_of, starts_found, HoldsSearch, FindsUnbroken}
use Rattle.unbroken.specs.declared.types.UnbrokenSearch.{UnbrokenSearch}
use Rattle.flat.specs.Flat.{value_of, flat_beside}
use Rattle.abi.specs.SearchCalls.{starts_given, SearchedCall, UnbrokenCall}
use Rattle.abi.specs.Internal.{GivesSearch}
use Rattle.abi.specs.declared.Answer.{Answer}
use Rattle.abi.proofs.CallCases.{Given, nothing_narrowed}

-- the starts are given where a day was found
starts_given_lem : (whole : ℕ → Bool) (old : List ℕ) (x : Search)
    → cond (is_found (ending_of x)) (starts_found whole x) old ≡ starts_given whole old (answered x)
starts_given_lem whole old (found u t) = refl
starts_given_lem whole old (none t) = refl
starts_given_lem whole old (spent t) = refl

-- what a search answered, in numbers
module _ (l : DayList) (limit : ℕ) {b : Answer} {old_plan new_plan old_fields new_fields old_starts new_starts : List ℕ} where
  search_said : (a : Result UnbrokenSearch Refusal) → FindsUnbroken l limit old_plan a new_plan
      → GivesSearch a old_fields old_starts b new_fields new_starts
      → SearchedCall l (plan_of l (length old_plan)) (unbroken_of l limit (length old_plan)) old_plan old_fields old_starts
      b new_plan new_fields new_starts
  search_said (Ok u) w given = go (w.search u refl) given
    where
      go : HoldsSearch (whole_in l) (unbroken_of l limit (length old_plan)) u → GivesSearch (Ok u) old_fields old_starts b new_fields new_starts
          → SearchedCall l (plan_of l (length old_plan)) (unbroken_of l limit (length old_plan)) old_plan old_fields old_starts
          b new_plan new_fields new_starts
      go s told =
          record {
            narrowed = rw (← w.answers, s.outcome, ← s.ending, ← s.trials) told.0;
            plan = w.buffer;
            starts = told.1 ∙ (λ j. cond (is_found (s.ending j)) (s.starts j) old_starts) ∙ starts_given_lem (whole_in l) old_starts s.ended
                ∙ rw s.outcome refl;
          }
  search_said (Err k) w given =
      let none = w.unsearched k refl in
      rw (none.0, none.1, given.1, given.2)
      (record { narrowed = rw (← w.answers) (nothing_narrowed k _ _ old_fields b given.0); plan = refl; starts = refl })

-- of the list value that was given
pub unbroken_said : (xs old_fields new_fields : List ℕ) (l : DayList) → Given xs (flat_beside xs (length old_fields)) l → (b : Answer)
    → (limit : ℕ) (old_plan new_plan old_starts new_starts : List ℕ) (a : Result UnbrokenSearch Refusal)
    → FindsUnbroken l limit old_plan a new_plan → GivesSearch a old_fields old_starts b new_fields new_starts
    → UnbrokenCall xs limit old_plan old_fields old_starts b new_plan new_fields new_starts
unbroken_said xs old_fields new_fields l g b limit old_plan new_plan old_starts new_starts a w given =
    rw g.passed
    (search_said (value_of xs) limit a (subst (λ (k : DayList). FindsUnbroken k limit old_plan a new_plan) g.value w) given)
