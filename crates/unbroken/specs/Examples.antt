-- Days on which an unbroken day is looked for, as one statement; `unbroken_examples` of proofs/Examples.antt proves it.
use Rattle.std.specs.Prelude.{◌≡◌, List, [], ◌∷◌, ℕ, take}
use Rattle.base.specs.Outcomes.{code, Outcome, answered, refused, and_then}
use Rattle.list.specs.DayLists.{whole_in}
use Rattle.list.specs.declared.types.DayList.{DayList}
use Rattle.planner.specs.Examples.{pause_entry, whole_entry, day, list_a, list_c, list_e}
use Rattle.backtracking.specs.Searches.{Search, none, spent, trials_of}
use Rattle.backtracking.specs.Calls.{ending_of}
use Rattle.backtracking.specs.declared.types.Ending.TheVariants.{Unsearched, DayFound}
use Rattle.unbroken.specs.Calls.{unbroken_of, ending_after, starts_found, unbroken_after}

-- a pause entry [1, 3) p 1, then a whole one [0, 3) p 2, then a whole one [3, 5) p 1
abbrev pub pause_first : DayList
pause_first = day 5 (pause_entry 1 1 3 1 ∷ whole_entry 2 0 3 2 ∷ whole_entry 3 3 5 1 ∷ [])

-- no move, and no unbroken day
abbrev pub settled_none : DayList
settled_none = day 7 (whole_entry 1 0 7 2 ∷ whole_entry 2 0 7 2 ∷ whole_entry 3 0 7 2 ∷ pause_entry 4 3 4 1 ∷ [])

abbrev pub seven_nines : List ℕ
seven_nines = 9 ∷ 9 ∷ 9 ∷ 9 ∷ 9 ∷ 9 ∷ 9 ∷ []

-- what f gives of the search
abbrev pub told : {A : Type 0} → (Search → A) → Outcome Search → Outcome A
told f o = and_then o (λ x. answered (f x))

pub record UnbrokenExamples : Type 0 where
  -- (a): 2 trials in its settled windows, of 4 in the windows given
  pub a_found : told ending_of (unbroken_of list_a 2 4) ≡ answered DayFound
  pub a_trials : told trials_of (unbroken_of list_a 2 4) ≡ answered 2
  pub a_starts : told (λ x. take 3 (starts_found (whole_in list_a) x)) (unbroken_of list_a 2 4) ≡ answered (0 ∷ 2 ∷ 0 ∷ [])
  pub a_plan : unbroken_after (9 ∷ 9 ∷ 9 ∷ 9 ∷ 9 ∷ []) (unbroken_of list_a 2 5) ≡ 0 ∷ 0 ∷ 1 ∷ 1 ∷ 9 ∷ []
  pub a_spent : unbroken_of list_a 1 4 ≡ answered (spent 1)
  -- a pause entry has no start
  pub pause_starts : told (λ x. take 4 (starts_found (whole_in pause_first) x)) (unbroken_of pause_first 2 5)
      ≡ answered (0 ∷ 0 ∷ 3 ∷ 0 ∷ [])
  -- equal boxes are tried in every order
  pub none_trials : unbroken_of settled_none 78 7 ≡ answered (none 78)
  pub none_spent : unbroken_of settled_none 77 7 ≡ answered (spent 77)
  pub none_stays : unbroken_after seven_nines (unbroken_of settled_none 78 7) ≡ seven_nines
  -- rows 11, 9 and 10: nothing is searched
  pub short : unbroken_of list_a 2 3 ≡ refused (code 11 (4 ∷ []))
  pub nine : unbroken_of list_c 0 10 ≡ refused (code 9 (2 ∷ 5 ∷ 4 ∷ []))
  pub ten : unbroken_of list_e 0 6 ≡ refused (code 10 (0 ∷ []))
  pub ten_unsearched : ending_after (unbroken_of list_e 0 6) ≡ Unsearched
