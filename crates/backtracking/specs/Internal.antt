-- What the private functions promise each other: where the search stands, and what is left of it there.
use Rattle.std.specs.Prelude.{ℕ, zero, suc, ◌+◌, ◌-◌, ◌<◌, ◌≤◌, ◌≡◌, Bool, true, false, cond, ltb, Option, Some, None}
use Rattle.windows.specs.Windows.{Windows, windows_in, with_windows, with_window}
use Rattle.windows.specs.Intervals.{overload_of}
use Rattle.backtracking.specs.Searches.{Search, found, none, or_else, starts_from, search_from, search_within}
use Rattle.backtracking.specs.declared.search.Position.{Position}

-- j is the first whole place of those from k on and below n, or n
pub record NextWhole (whole : ℕ → Bool) (n k j : ℕ) : Type 0 where
  pub from : k ≤ j
  pub within : j ≤ n
  pub pauses : (i : ℕ) → k ≤ i → i < j → whole i ≡ false
  pub is_whole : j < n → whole j ≡ true

-- the first whole place of those from k on and below n, none where all of those are pauses
abbrev pub FindsNext : (ℕ → Bool) → ℕ → ℕ → Option ℕ → Type 0
FindsNext whole n k (Some j) = (j < n) × NextWhole whole n k j
FindsNext whole n k None = NextWhole whole n k n

-- j is the last whole place below k, plus 1, or 0
pub record LastWhole (whole : ℕ → Bool) (k j : ℕ) : Type 0 where
  pub within : j ≤ k
  pub pauses : (i : ℕ) → j ≤ i → i < k → whole i ≡ false
  pub is_whole : (i : ℕ) → j ≡ suc i → whole i ≡ true

-- the last whole place below k, none where all of those are pauses
abbrev pub FindsLast : (ℕ → Bool) → ℕ → Option ℕ → Type 0
FindsLast whole k (Some j) = LastWhole whole k (suc j)
FindsLast whole k None = LastWhole whole k 0

-- v are the windows w with starts fixed at whole places below k alone
pub record FixedBelow (whole : ℕ → Bool) (w v : Windows) (k : ℕ) : Type 0 where
  pub entries : v ≡ with_windows w v.r v.d
  pub later : (i : ℕ) → k ≤ i → (v.r i ≡ w.r i) × (v.d i ≡ w.d i)
  pub pauses : (i : ℕ) → whole i ≡ false → (v.r i ≡ w.r i) × (v.d i ≡ w.d i)

-- What is left of the search in the windows w, in terms of the defined search.
module _ (limit : ℕ) (whole : ℕ → Bool) (w : Windows) where
  -- the entries from place k on
  abbrev pub entries_on : ℕ → Windows → ℕ → Search
  entries_on k = search_from overload_of (λ t. ltb t limit) whole (w.n - k) k

  -- the starts of entry k from s on
  abbrev pub starts_on : ℕ → ℕ → Windows → ℕ → Search
  starts_on k s = starts_from overload_of (λ t. ltb t limit) (entries_on (k + 1)) k (suc (w.d k) - (s + w.p k)) s

  -- the windows v in which entry k has its window of w again
  abbrev pub reopened : Windows → ℕ → Windows
  reopened v k = with_window v k (w.r k) (w.d k)

  -- "going back to the previous entry's next start", from place k: v has the starts of the whole entries below it
  unfoldable pub going_back : ℕ → Windows → ℕ → Search
  going_back zero v t = none t
  going_back (suc k) v t =
      cond (whole k) (or_else (starts_on k (v.r k + 1) (reopened v k) t) (λ u. going_back k (reopened v k) u)) (going_back k v t)

  -- place k is reached, after t trials
  abbrev pub from_place : ℕ → Windows → ℕ → Search
  from_place k v t = or_else (entries_on k v t) (λ u. going_back k v u)

  -- entry k is to be tried at s next
  abbrev pub from_start : ℕ → ℕ → Windows → ℕ → Search
  from_start k s v t = or_else (starts_on k s v t) (λ u. going_back k v u)

  -- what is left where the search stands
  abbrev pub stands_for : Position → Search
  stands_for at =
      let v = windows_in at.windows in
      cond (ltb at.place w.n) (from_start at.place at.start v at.trials) (found v at.trials)

-- where a search in the windows w may stand: at a whole place, or behind all; the bound leaves room for a start and its minutes
pub record Stands (whole : ℕ → Bool) (w : Windows) (at : Position) : Type 0 where
  pub fixed : FixedBelow whole w (windows_in at.windows) at.place
  pub within : at.place ≤ w.n
  pub is_whole : at.place < w.n → whole at.place ≡ true
  pub start : at.start ≤ 65536

-- where place k is reached with the windows v, after t trials
pub record Entered (whole : ℕ → Bool) (w v : Windows) (k t : ℕ) (at : Position) : Type 0 where
  pub stands : Stands whole w at
  pub trials : at.trials ≡ t
  pub means : (limit : ℕ) → stands_for limit whole w at ≡ from_place limit whole w k v t

-- entry k has its window again, and is to be tried at its next start
pub record Reopens (w : Windows) (k : ℕ) (before at : Position) : Type 0 where
  pub windows : windows_in at.windows ≡ with_window (windows_in before.windows) k (w.r k) (w.d k)
  pub place : at.place ≡ k
  pub start : at.start ≡ (windows_in before.windows).r k + 1
  pub small : at.start ≤ 65536
  pub trials : at.trials ≡ before.trials

-- a start is left where the search stands
pub record StartLeft (w : Windows) (at : Position) : Type 0 where
  pub place : at.place < w.n
  pub room : at.start + w.p at.place ≤ w.d at.place

-- one trial was made
pub record Tries (whole : ℕ → Bool) (w : Windows) (before at : Position) : Type 0 where
  pub stands : Stands whole w at
  pub trials : at.trials ≡ before.trials + 1
  pub means : (limit : ℕ) → before.trials < limit → stands_for limit whole w at ≡ stands_for limit whole w before

-- the invariant of the search: what is left is the whole search, and the trials made are at most the limit
pub record OnTheWay (whole : ℕ → Bool) (w : Windows) (limit : ℕ) (at : Position) : Type 0 where
  pub stands : Stands whole w at
  pub spent : at.trials ≤ limit
  pub means : stands_for limit whole w at ≡ search_within overload_of limit whole w
