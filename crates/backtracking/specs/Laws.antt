-- What the search ends with, over all unbroken days.
use Rattle.std.specs.Prelude.{ℕ, suc, ◌+◌, ◌<◌, ◌≤◌, ◌≡◌, ◌↔◌, ◌⊎◌, Bool, true, false, cond, ◌&&◌, List, ltb}
use Rattle.windows.specs.Windows.{Windows, Inside, with_windows}
use Rattle.windows.specs.Plans.{Plan, places_in, PlanBytes, IsStart}
use Rattle.jackson.specs.Minutes.{schedule}
use Rattle.narrow.specs.Searching.{Test}
use Rattle.narrow.specs.Settling.{Unbroken}
use Rattle.backtracking.specs.Searches.{found, none, spent, trials_of, search_all, search_within}

-- "a day in which all whole boxes stay in one piece": a plan in the windows w that keeps every whole entry in one piece
pub record UnbrokenDay (whole : ℕ → Bool) (w : Windows) (m : ℕ → ℕ) : Type 0 where
  pub plan : Plan w m
  pub unbroken : Unbroken whole w m

-- no unbroken day exists
abbrev pub NoneUnbroken : (ℕ → Bool) → Windows → Type 0
NoneUnbroken whole w = (m : ℕ → ℕ) → UnbrokenDay whole w m → ⊥

-- s i is the start in m of each whole entry i
abbrev pub HasStarts : (ℕ → Bool) → Windows → (ℕ → ℕ) → (ℕ → ℕ) → Type 0
HasStarts whole w m s = (i : ℕ) → i < w.n → whole i ≡ true → IsStart w.h m i (s i)

-- the starts a of the whole entries are not after b, "compared from place 0 on": they are the same, or at the first whole entry where they
-- differ a has the smaller one
abbrev pub NotAfter : (ℕ → Bool) → ℕ → (ℕ → ℕ) → (ℕ → ℕ) → Type 0
NotAfter whole n a b =
    ((k : ℕ) × (k < n) × (whole k ≡ true) × (a k < b k) × ((i : ℕ) → i < k → whole i ≡ true → a i ≡ b i))
    ⊎ ((i : ℕ) → i < n → whole i ≡ true → a i ≡ b i)

-- x at the whole places below n, else y
abbrev pub at_whole : (ℕ → Bool) → ℕ → (ℕ → ℕ) → (ℕ → ℕ) → ℕ → ℕ
at_whole whole n x y i = cond (ltb i n && whole i) (x i) (y i)

-- "with the starts fixed": each whole entry's window is [s, s + p), the others are as they were
abbrev pub with_starts : (ℕ → Bool) → Windows → (ℕ → ℕ) → Windows
with_starts whole w s = with_windows w (at_whole whole w.n s w.r) (at_whole whole w.n (λ i. s i + w.p i) w.d)

-- the bytes are an unbroken day of the windows w with the starts s, "and among all unbroken days its list of whole entries' starts is the
-- least, compared from place 0 on"
pub record LeastDay (whole : ℕ → Bool) (w : Windows) (bytes : List ℕ) (s : ℕ → ℕ) : Type 0 where
  pub plan : PlanBytes w bytes
  pub unbroken : Unbroken whole w (places_in bytes)
  pub starts : HasStarts whole w (places_in bytes) s
  pub least : (m x : ℕ → ℕ) → UnbrokenDay whole w m → HasStarts whole w m x → NotAfter whole w.n s x

-- u was found in windows v of the entries of w: "the plan is Jackson's with the starts fixed"
pub record FoundLaw (whole : ℕ → Bool) (w v u : Windows) : Type 0 where
  pub fixed : u ≡ with_starts whole v u.r
  pub inside : Inside u v
  pub day : LeastDay whole w (schedule u) u.r

-- What a limit does, in whatever windows v: `limit_law` of proofs/UnbrokenLaws.antt.
pub record LimitLaw (test : Test) (whole : ℕ → Bool) (v : Windows) (limit : ℕ) : Type 0 where
  -- "Spent: only when one more trial is needed and all were used.", and exactly then
  pub spent_exactly : ((t : ℕ) × (search_within test limit whole v ≡ spent t)) ↔ (limit < trials_of (search_all test whole v))
  pub spent_all : (t : ℕ) → search_within test limit whole v ≡ spent t → t ≡ limit
  pub one_more : (t : ℕ) → search_within test limit whole v ≡ spent t → trials_of (search_within test (suc limit) whole v) ≡ suc limit
  -- else it is the search without a limit
  pub enough : trials_of (search_all test whole v) ≤ limit → search_within test limit whole v ≡ search_all test whole v
  pub never_spent : (t : ℕ) → search_all test whole v ≡ spent t → ⊥
  pub within : trials_of (search_within test limit whole v) ≤ limit
  -- "A larger limit never changes found or none.", nor their trials
  pub larger_found : (more : ℕ) → limit ≤ more → (u : Windows) (t : ℕ) → search_within test limit whole v ≡ found u t
      → search_within test more whole v ≡ found u t
  pub larger_none : (more : ℕ) → limit ≤ more → (t : ℕ) → search_within test limit whole v ≡ none t
      → search_within test more whole v ≡ none t
  -- without a whole entry nothing is tried
  pub no_whole : ((i : ℕ) → i < v.n → whole i ≡ false) → search_within test limit whole v ≡ found v 0

-- What a search in windows v of the entries of w ends with, where the unbroken days of w are those of v: `unbroken_law` of
-- proofs/UnbrokenLaws.antt; `settled_law` there says it of the settled windows v of w.
pub record UnbrokenLaw (test : Test) (whole : ℕ → Bool) (w v : Windows) (limit : ℕ) : Type 0 where
  pub found_is : (u : Windows) (t : ℕ) → search_within test limit whole v ≡ found u t → FoundLaw whole w v u
  -- "None: said .. exactly when no unbroken day exists and the trials sufficed."
  pub none_exactly : ((t : ℕ) × (search_within test limit whole v ≡ none t))
      ↔ (NoneUnbroken whole w × (trials_of (search_all test whole v) ≤ limit))
  -- so found exactly when one exists and the trials sufficed
  pub found_exactly : ((u : Windows) × (t : ℕ) × (search_within test limit whole v ≡ found u t))
      ↔ (((m : ℕ → ℕ) × UnbrokenDay whole w m) × (trials_of (search_all test whole v) ≤ limit))
  pub limits : LimitLaw test whole v limit
