-- Searches on small days, as one statement; `search_examples` of proofs/Examples.antt proves it.
use Rattle.std.specs.Prelude.{ℕ, ◌≡◌, Bool, true, false, List, [], ◌∷◌, get_or}
use Rattle.base.specs.Outcomes.{answered, and_then}
use Rattle.windows.specs.Windows.{Windows, columns, fixed_at}
use Rattle.windows.specs.Intervals.{overload_of}
use Rattle.jackson.specs.Minutes.{schedule}
use Rattle.narrow.specs.Rounds.{narrowing}
use Rattle.backtracking.specs.Searches.{Search, found, none, spent, search_within}

-- which entries are whole, by place
abbrev pub kinds : List Bool → ℕ → Bool
kinds bs i = get_or bs i false

-- the search by the overload test
abbrev pub searching : ℕ → (ℕ → Bool) → Windows → Search
searching = search_within overload_of

-- two minutes: [0, 2) p 1 twice
abbrev pub two_minutes : Windows
two_minutes = columns 2 2 (0 ∷ 0 ∷ []) (2 ∷ 2 ∷ []) (1 ∷ 1 ∷ [])

-- four: [1, 4) p 1 and [0, 3) p 2
abbrev pub goes_back : Windows
goes_back = columns 4 2 (1 ∷ 0 ∷ []) (4 ∷ 3 ∷ []) (1 ∷ 2 ∷ [])

-- eight: the same with [5, 8) p 2 between
abbrev pub one_apart : Windows
one_apart = columns 8 3 (1 ∷ 5 ∷ 0 ∷ []) (4 ∷ 8 ∷ 3 ∷ []) (1 ∷ 2 ∷ 2 ∷ [])

-- three: [0, 3) p 2 and [1, 2) p 1
abbrev pub in_the_way : Windows
in_the_way = columns 3 2 (0 ∷ 1 ∷ []) (3 ∷ 2 ∷ []) (2 ∷ 1 ∷ [])

-- seven: [0, 6) p 2, [0, 7) p 2, [1, 7) p 2, and [3, 4) p 1, beside which two of the three find room in one piece
abbrev pub room_for_two : Windows
room_for_two = columns 7 4 (0 ∷ 0 ∷ 1 ∷ 3 ∷ []) (6 ∷ 7 ∷ 7 ∷ 4 ∷ []) (2 ∷ 2 ∷ 2 ∷ 1 ∷ [])

-- document 01's example (a), given and settled
abbrev pub given_a : Windows
given_a = columns 4 2 (0 ∷ 0 ∷ []) (3 ∷ 4 ∷ []) (2 ∷ 2 ∷ [])

abbrev pub settled_a : Windows
settled_a = columns 4 2 (0 ∷ 2 ∷ []) (2 ∷ 4 ∷ []) (2 ∷ 2 ∷ [])

pub record SearchExamples : Type 0 where
  -- the whole entry gets the least start, though the plan without the start fixed, which lets the pause entry go first, does not break it
  pub least : searching 1 (kinds (false ∷ true ∷ [])) two_minutes ≡ found (fixed_at two_minutes 1 0) 1
  pub least_plan : schedule (fixed_at two_minutes 1 0) ≡ 1 ∷ 0 ∷ []
  pub first_plan : schedule two_minutes ≡ 0 ∷ 1 ∷ []
  -- without a whole entry there is nothing to try
  pub no_whole : searching 0 (kinds []) two_minutes ≡ found two_minutes 0
  -- a start of place 0 that has a plan, 1, leaves place 1 none: both of its starts fail. Then place 0's next start, 2, and place 1's first
  pub back : searching 5 (kinds (true ∷ true ∷ [])) goes_back ≡ found (fixed_at (fixed_at goes_back 0 2) 1 0) 5
  pub back_plan : schedule (fixed_at (fixed_at goes_back 0 2) 1 0) ≡ 1 ∷ 1 ∷ 0 ∷ 255 ∷ []
  -- with smaller limits
  pub back_spent : searching 4 (kinds (true ∷ true ∷ [])) goes_back ≡ spent 4
  pub back_first : searching 1 (kinds (true ∷ true ∷ [])) goes_back ≡ spent 1
  pub back_untried : searching 0 (kinds (true ∷ true ∷ [])) goes_back ≡ spent 0
  -- both starts fail: a limit that is used to the last trial is no spent one
  pub none_exact : searching 2 (kinds (true ∷ false ∷ [])) in_the_way ≡ none 2
  pub none_spent : searching 1 (kinds (true ∷ false ∷ [])) in_the_way ≡ spent 1
  -- every start is tried, also of an entry that is like an earlier one, and of one that has no part in why a later one finds no start
  pub alike : searching 3 (kinds (true ∷ true ∷ [])) two_minutes ≡ found (fixed_at (fixed_at two_minutes 0 0) 1 1) 3
  pub apart : searching 10 (kinds (true ∷ true ∷ true ∷ [])) one_apart ≡ found (fixed_at (fixed_at (fixed_at one_apart 0 2) 1 5) 2 0) 10
  -- a day that narrowing answers without a move, and that has no unbroken plan
  pub two_settled : and_then (narrowing overload_of (kinds (true ∷ true ∷ true ∷ [])) room_for_two) (λ v. answered v.moves) ≡ answered 0
  pub two_none : searching 38 (kinds (true ∷ true ∷ true ∷ [])) room_for_two ≡ none 38
  pub two_spent : searching 37 (kinds (true ∷ true ∷ true ∷ [])) room_for_two ≡ spent 37
  -- (a): in the windows given, place 1's starts 0 and 1 fail first
  pub a_settled : searching 2 (kinds (true ∷ true ∷ [])) settled_a ≡ found (fixed_at (fixed_at settled_a 0 0) 1 2) 2
  pub a_given : searching 4 (kinds (true ∷ true ∷ [])) given_a ≡ found (fixed_at (fixed_at given_a 0 0) 1 2) 4
