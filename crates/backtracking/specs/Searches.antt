-- "Search inside the settled windows: whole entries by place, starts upward, going back to the previous entry's next start when an entry
-- has no start left".
use Rattle.std.specs.Prelude.{ℕ, zero, suc, ◌+◌, Bool, true, cond, ltb}
use Rattle.base.specs.Outcomes.{accepts}
use Rattle.windows.specs.Windows.{Windows, fixed_at}
use Rattle.narrow.specs.Searching.{Test, start_count}

-- what a search ends with, each with the trials made: windows in which every whole entry's start is fixed; none, where no start is left;
-- or spent, where another trial is needed and none may be made
pub data Search : Type 0 where
  found : Windows → ℕ → Search
  none : ℕ → Search
  spent : ℕ → Search

-- "Trials are returned": those made
abbrev pub trials_of : Search → ℕ
trials_of (found v t) = t
trials_of (none t) = t
trials_of (spent t) = t

-- "going back": where none was found, what f gives after those trials
abbrev pub or_else : Search → (ℕ → Search) → Search
or_else (found v t) f = found v t
or_else (none t) f = f t
or_else (spent t) f = spent t

-- "one trial is one start of one entry, tested by whether a plan still exists with the starts fixed so far": v are the windows with the
-- start fixed, t the trials before, rest searches the entries behind. The planner's test accepts windows with room exactly when a plan
-- exists (`PlanLaw.accepted` of the crate jackson)
unfoldable pub trial : Test → (Windows → ℕ → Search) → Windows → ℕ → Search
trial test rest v t = cond (accepts (test v)) (rest v (t + 1)) (none (t + 1))

-- `may t` says whether another trial may be made after t of them: one search with a limit, and one without
module _ (test : Test) (may : ℕ → Bool) where
  -- "starts upward": the c starts of entry k from s on
  unfoldable pub starts_from : (Windows → ℕ → Search) → ℕ → ℕ → ℕ → Windows → ℕ → Search
  starts_from rest k zero s v t = none t
  starts_from rest k (suc c) s v t =
      cond (may t) (or_else (trial test rest (fixed_at v k s) t) (λ u. starts_from rest k c (s + 1) v u)) (spent t)

  -- "whole entries by place": the j entries from place k on, pause entries passed over; v are the windows with the starts fixed so far
  unfoldable pub search_from : (ℕ → Bool) → ℕ → ℕ → Windows → ℕ → Search
  search_from whole zero k v t = found v t
  search_from whole (suc j) k v t =
      cond (whole k) (starts_from (search_from whole j (k + 1)) k (start_count v k) (v.r k) v t) (search_from whole j (k + 1) v t)

-- "The caller gives a limit of trials."
unfoldable pub search_within : Test → ℕ → (ℕ → Bool) → Windows → Search
search_within test limit whole w = search_from test (λ t. ltb t limit) whole w.n 0 w 0

-- the same search without a limit
unfoldable pub search_all : Test → (ℕ → Bool) → Windows → Search
search_all test whole w = search_from test (λ _. true) whole w.n 0 w 0
