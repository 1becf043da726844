-- What looking for an unbroken day of a list promises.
use Rattle.std.specs.Prelude.{ℕ, ◌<◌, ◌≤◌, ◌≡◌, ◌↔◌, Bool, true, false, cond, List, [], ◌∷◌, ◌++◌, length, get_or, take, drop, replicate}
use Rattle.std.specs.Prelude.{Result, Ok, Err}
use Rattle.base.specs.Outcomes.{Code, code, Outcome, answered, refused, and_then}
use Rattle.list.specs.DayLists.{whole_in, most_entries, by_place}
use Rattle.list.specs.Refusals.{code_of}
use Rattle.list.specs.Checks.{check_of, WellFormed}
use Rattle.list.specs.declared.types.DayList.{DayList}
use Rattle.list.specs.declared.types.Refusal.{Refusal}
use Rattle.windows.specs.Windows.{Windows, windows_of}
use Rattle.windows.specs.Intervals.{overload_of}
use Rattle.jackson.specs.Minutes.{schedule}
use Rattle.narrow.specs.Rounds.{Narrowed}
use Rattle.narrow.specs.Laws.{NarrowLaw}
use Rattle.narrow.specs.Calls.{settle_of, narrowed_in, AnswersAs, HoldsAnswer}
use Rattle.narrow.specs.declared.types.NarrowedList.{NarrowedList}
use Rattle.planner.specs.Calls.{plan_checks, plan_of, planned}
use Rattle.backtracking.specs.Searches.{Search, found, none, spent, trials_of, search_all, search_within}
use Rattle.backtracking.specs.Laws.{UnbrokenDay, NoneUnbroken, with_starts, LeastDay, LimitLaw}
use Rattle.backtracking.specs.Calls.{ending_of}
use Rattle.backtracking.specs.declared.types.Ending.{Ending}
use Rattle.backtracking.specs.declared.types.Ending.TheVariants.{Unsearched, DayFound, NoneExists, TrialsSpent}
use Rattle.unbroken.specs.declared.types.UnbrokenSearch.{UnbrokenSearch}

-- the rows of planning, that is the value check, 11, 9 and 10; then "Search inside the settled windows", with "a limit of trials"
unfoldable pub unbroken_of : DayList → ℕ → ℕ → Outcome Search
unbroken_of l limit room = and_then (plan_of l room) (λ v. answered (search_within overload_of limit (whole_in l) v.windows))

-- the same in facts: the rows in the table's order, what 11 carries, and the search last. `unbroken_rows_law` of proofs/UnbrokenRows.antt
pub record UnbrokenRowsLaw (l : DayList) (limit room : ℕ) : Type 0 where
  pub before : (c : Code) → check_of l ≡ refused c → unbroken_of l limit room ≡ refused c
  pub short : WellFormed l → room < l.frame.h → unbroken_of l limit room ≡ refused (code 11 (l.frame.h ∷ []))
  pub unsettled : WellFormed l → l.frame.h ≤ room → (c : Code) → settle_of l ≡ refused c → unbroken_of l limit room ≡ refused c
  pub then : WellFormed l → l.frame.h ≤ room → (v : Narrowed) → settle_of l ≡ answered v
      → unbroken_of l limit room ≡ answered (search_within overload_of limit (whole_in l) v.windows)

-- how the search ended; beside a refusal nothing was searched
abbrev pub ending_after : Outcome Search → Ending
ending_after (answered x) = ending_of x
ending_after (refused k) = Unsearched

-- "Trials are returned"; beside a refusal 0
abbrev pub trials_after : Outcome Search → ℕ
trials_after (answered x) = trials_of x
trials_after (refused k) = 0

-- the starts of the whole entries, where they are fixed in u; 0 for pause entries, and from n on
abbrev pub whole_starts : (ℕ → Bool) → Windows → List ℕ
whole_starts whole u = by_place u.n (λ i. cond (whole i) (u.r i) 0)

-- those found; where no day was found, 0 for each place
abbrev pub starts_found : (ℕ → Bool) → Search → List ℕ
starts_found whole (found u t) = whole_starts whole u
starts_found whole (none t) = replicate most_entries 0
starts_found whole (spent t) = replicate most_entries 0

abbrev pub starts_after : (ℕ → Bool) → Outcome Search → List ℕ
starts_after whole (answered x) = starts_found whole x
starts_after whole (refused k) = replicate most_entries 0

-- the same in facts. `starts_law` of proofs/UnbrokenRows.antt
pub record StartsLaw (whole : ℕ → Bool) (o : Outcome Search) : Type 0 where
  pub long : length (starts_after whole o) ≡ 64
  pub whole_start : (u : Windows) (t : ℕ) → o ≡ answered (found u t) → (i : ℕ) → i < 64 → i < u.n → whole i ≡ true
      → get_or (starts_after whole o) i 0 ≡ u.r i
  pub pause_start : (u : Windows) (t : ℕ) → o ≡ answered (found u t) → (i : ℕ) → i < 64 → whole i ≡ false
      → get_or (starts_after whole o) i 0 ≡ 0
  pub past_start : (u : Windows) (t : ℕ) → o ≡ answered (found u t) → (i : ℕ) → i < 64 → u.n ≤ i → get_or (starts_after whole o) i 0 ≡ 0
  pub none_start : (t : ℕ) → o ≡ answered (none t) → (i : ℕ) → i < 64 → get_or (starts_after whole o) i 0 ≡ 0
  pub spent_start : (t : ℕ) → o ≡ answered (spent t) → (i : ℕ) → i < 64 → get_or (starts_after whole o) i 0 ≡ 0
  pub refused_start : (c : Code) → o ≡ refused c → (i : ℕ) → i < 64 → get_or (starts_after whole o) i 0 ≡ 0

-- "Found: the plan is Jackson's with the starts fixed": what a buffer that held old holds then, its bytes after H kept. "None and spent
-- leave the plan buffer as it was."
abbrev pub found_after : List ℕ → Search → List ℕ
found_after old (found u t) = schedule u ++ drop u.h old
found_after old (none t) = old
found_after old (spent t) = old

-- "A refusal writes nothing to any lent buffer."
abbrev pub unbroken_after : List ℕ → Outcome Search → List ℕ
unbroken_after old (answered x) = found_after old x
unbroken_after old (refused k) = old

-- the narrowed list of a search
abbrev pub narrowed_by_search : Result UnbrokenSearch Refusal → Result NarrowedList Refusal
narrowed_by_search (Ok u) = Ok u.narrowed
narrowed_by_search (Err k) = Err k

-- how the search ended, its trials and its starts, of each answer; beside a refusal nothing was searched
abbrev pub ending_in : Result UnbrokenSearch Refusal → Ending
ending_in (Ok u) = u.ending
ending_in (Err k) = Unsearched

abbrev pub trials_in : Result UnbrokenSearch Refusal → ℕ
trials_in (Ok u) = u.trials
trials_in (Err k) = 0

abbrev pub starts_in : Result UnbrokenSearch Refusal → List ℕ
starts_in (Ok u) = u.starts
starts_in (Err k) = replicate most_entries 0

-- the trials of the search without a limit in the settled windows, which are those of the list answered
abbrev pub trials_needed : (ℕ → Bool) → UnbrokenSearch → ℕ
trials_needed whole u = trials_of (search_all overload_of whole (windows_of u.narrowed.list))

-- the start answered for place i
abbrev pub start_in : UnbrokenSearch → ℕ → ℕ
start_in u i = get_or u.starts i 0

-- What the answer u with the bytes of the plan says of all unbroken days of the given windows w, where 9 and 10 were not given.
pub record TellsUnbroken (whole : ℕ → Bool) (w : Windows) (limit : ℕ) (u : UnbrokenSearch) (bytes : List ℕ) : Type 0 where
  -- found: "the plan is Jackson's with the starts fixed, and among all unbroken days its list of whole entries' starts is the least"
  pub jackson : u.ending ≡ DayFound → bytes ≡ schedule (with_starts whole (windows_of u.narrowed.list) (start_in u))
  pub least : u.ending ≡ DayFound → LeastDay whole w bytes (start_in u)
  pub found_exactly : (u.ending ≡ DayFound) ↔ (((m : ℕ → ℕ) × UnbrokenDay whole w m) × (trials_needed whole u ≤ limit))
  -- none: "exactly when no unbroken day exists and the trials sufficed"
  pub none_exactly : (u.ending ≡ NoneExists) ↔ (NoneUnbroken whole w × (trials_needed whole u ≤ limit))
  -- spent: "only when one more trial is needed and all were used"
  pub spent_exactly : (u.ending ≡ TrialsSpent) ↔ (limit < trials_needed whole u)
  pub spent_all : u.ending ≡ TrialsSpent → u.trials ≡ limit
  -- trials are as many as are needed, or the limit
  pub trials_needed_lem : trials_needed whole u ≤ limit → u.trials ≡ trials_needed whole u
  pub limits : LimitLaw overload_of whole (windows_of u.narrowed.list) limit

-- what is answered beside the narrowed list where this is the outcome: how its search ended, the trials made ("Trials are returned"), and
-- the starts
pub record HoldsSearch (whole : ℕ → Bool) (o : Outcome Search) (u : UnbrokenSearch) : Type 0 where
  pub ended : Search
  pub outcome : o ≡ answered ended
  pub ending : u.ending ≡ ending_of ended
  pub trials : u.trials ≡ trials_of ended
  pub starts : u.starts ≡ starts_found whole ended

-- what looking for an unbroken day of the list l answers, and leaves in a plan buffer that held old
pub record FindsUnbroken (l : DayList) (limit : ℕ) (old : List ℕ) (a : Result UnbrokenSearch Refusal) (new : List ℕ) : Type 0 where
  pub answers : AnswersAs l (plan_of l (length old)) (narrowed_by_search a)
  pub holds : HoldsAnswer l (plan_of l (length old)) (narrowed_by_search a)
  pub search : (u : UnbrokenSearch) → a ≡ Ok u → HoldsSearch (whole_in l) (unbroken_of l limit (length old)) u
  pub ending : ending_in a ≡ ending_after (unbroken_of l limit (length old))
  pub trials : trials_in a ≡ trials_after (unbroken_of l limit (length old))
  pub starts : starts_in a ≡ starts_after (whole_in l) (unbroken_of l limit (length old))
  pub buffer : new ≡ unbroken_after old (unbroken_of l limit (length old))
  -- where 9 and 10 were not given
  pub tells : (u : UnbrokenSearch) → a ≡ Ok u → TellsUnbroken (whole_in l) (windows_of l) limit u (take l.frame.h new)
  -- a refusal is that of the rows, and nothing was searched
  pub unsearched : (k : Refusal) → a ≡ Err k → (unbroken_of l limit (length old) ≡ refused (code_of k)) × (new ≡ old)
  pub not_searched : (k : Refusal) → a ≡ Err k → (ending_in a ≡ Unsearched) × (trials_in a ≡ 0) × (starts_in a ≡ replicate most_entries 0)
  -- the law of narrowing, of the windows and moves answered, for a list and a buffer that pass the checks before 9
  pub law : plan_checks l (length old) ≡ answered tt
      → NarrowLaw overload_of (whole_in l) (windows_of l) (narrowed_in (narrowed_by_search a))
  -- where 9 or 10 was given, no unbroken day exists either
  pub refused_none : plan_checks l (length old) ≡ answered tt → (k : Refusal) → a ≡ Err k → NoneUnbroken (whole_in l) (windows_of l)
  -- "A larger limit never changes found or none": ending, trials, starts and plan are of this outcome
  pub larger : ((u : UnbrokenSearch) → a ≡ Ok u → u.ending ≡ TrialsSpent → ⊥) → (more : ℕ) → limit ≤ more
      → unbroken_of l more (length old) ≡ unbroken_of l limit (length old)
  -- without a whole entry the day's plan is found, in 0 trials, under every limit
  pub no_whole : (u : UnbrokenSearch) → a ≡ Ok u → ((i : ℕ) → i < l.n → whole_in l i ≡ false)
      → (u.ending ≡ DayFound) × (u.trials ≡ 0) × (new ≡ planned schedule old (plan_of l (length old)))

-- what is left in the buffer, in facts, whatever the outcome o. `found_buffer` of proofs/UnbrokenRows.antt
pub record FoundBufferLaw (old : List ℕ) (o : Outcome Search) : Type 0 where
  pub refused_stays : (c : Code) → o ≡ refused c → unbroken_after old o ≡ old
  pub none_stays : (t : ℕ) → o ≡ answered (none t) → unbroken_after old o ≡ old
  pub spent_stays : (t : ℕ) → o ≡ answered (spent t) → unbroken_after old o ≡ old
  pub plan : (u : Windows) (t : ℕ) → o ≡ answered (found u t) → take u.h (unbroken_after old o) ≡ schedule u
  pub long : (u : Windows) (t : ℕ) → o ≡ answered (found u t) → u.h ≤ length old → length (unbroken_after old o) ≡ length old
  pub after : (u : Windows) (t : ℕ) → o ≡ answered (found u t) → (j : ℕ) → u.h ≤ j → get_or (unbroken_after old o) j 0 ≡ get_or old j 0
