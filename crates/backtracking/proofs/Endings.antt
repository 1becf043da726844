-- What a search ends with, case by case, and how many trials it makes.
-- Assumes nothing.
use mathlib.Core.Path.{◌≡◌}
use mathlib.Core.Bool.{Bool, false}
use Prim.Native.Nat.{ℕ, zero, suc, ◌+◌, ◌≤◌}
use native.Mathlib.Omega.{arith}
use Rattle.base.specs.Outcomes.{accepts}
use Rattle.base.proofs.Sums.{cond_cases}
use Rattle.windows.specs.Windows.{Windows, fixed_at}
use Rattle.narrow.specs.Searching.{Test, start_count}
use Rattle.backtracking.specs.Searches.{Search, found, none, spent, or_else, trials_of, trial, starts_from, search_from}

-- P of what was found, Q of the trials if none was, R of them if all are spent
abbrev pub Ends : (Windows → ℕ → Type 0) → (ℕ → Type 0) → (ℕ → Type 0) → Search → Type 0
Ends P Q R (found v t) = P v t
Ends P Q R (none t) = Q t
Ends P Q R (spent t) = R t

-- where trials do not count
abbrev pub Any : ℕ → Type 0
Any t = Unit {0}

-- a search, then another where none was found
pub by_else : (P : Windows → ℕ → Type 0) (Q Q' R : ℕ → Type 0) (x : Search) (f : ℕ → Search)
    → Ends P Q R x → ((t : ℕ) → Q t → Ends P Q' R (f t)) → Ends P Q' R (or_else x f)
by_else P Q Q' R (found v t) f h g = h
by_else P Q Q' R (none t) f h g = g t h
by_else P Q Q' R (spent t) f h g = h

-- what follows of each ending
pub ends_map : {P P' : Windows → ℕ → Type 0} {Q Q' R R' : ℕ → Type 0} (x : Search) → ((v : Windows) (t : ℕ) → P v t → P' v t)
    → ((t : ℕ) → Q t → Q' t) → ((t : ℕ) → R t → R' t) → Ends P Q R x → Ends P' Q' R' x
ends_map (found v t) f g h e = f v t e
ends_map (none t) f g h e = g t e
ends_map (spent t) f g h e = h t e

pub ends_both : (P P' : Windows → ℕ → Type 0) (Q Q' R R' : ℕ → Type 0) (x : Search) → Ends P Q R x → Ends P' Q' R' x
    → Ends (λ v t. P v t × P' v t) (λ t. Q t × Q' t) (λ t. R t × R' t) x
ends_both P P' Q Q' R R' (found v t) a b = (a, b)
ends_both P P' Q Q' R R' (none t) a b = (a, b)
ends_both P P' Q Q' R R' (spent t) a b = (a, b)

-- at least t trials were made, and if they are spent no more may be made
abbrev pub Counts : (ℕ → Bool) → ℕ → Search → Type 0
Counts may t = Ends (λ _ u. t ≤ u) (λ u. t ≤ u) (λ u. (t ≤ u) × (may u ≡ false))

-- the trials that are counted
pub counted : (may : ℕ → Bool) (t : ℕ) (x : Search) → Counts may t x → t ≤ trials_of x
counted may t (found v u) h = h
counted may t (none u) h = h
counted may t (spent u) h = h.0

pub counts_later : (may : ℕ → Bool) (s t : ℕ) → s ≤ t → (x : Search) → Counts may t x → Counts may s x
counts_later may s t h x = ends_map x (λ _ u l. omega arith) (λ u l. omega arith) (λ u l. (omega arith, l.1))

-- A search counts its trials from those made before.
module _ (test : Test) (may : ℕ → Bool) where
  module _ (rest : Windows → ℕ → Search) (counts : (v : Windows) (t : ℕ) → Counts may t (rest v t)) where
    -- a trial is one more
    pub trial_counts : (v : Windows) (t : ℕ) → Counts may (t + 1) (trial test rest v t)
    unfolding trial
    trial_counts v t = cond_cases (Counts may (t + 1)) (accepts (test v)) _ _ (λ _. counts v (t + 1)) (λ _. omega arith)

    pub starts_count : (k c s : ℕ) (v : Windows) (t : ℕ) → Counts may t (starts_from test may rest k c s v t)
    unfolding starts_from
    starts_count k zero s v t = omega arith
    starts_count k (suc c) s v t =
        cond_cases (Counts may t) (may t) _ _
        (λ _.
        let x = trial test rest (fixed_at v k s) t in
        by_else _ (λ u. t ≤ u) _ _ x _
        (counts_later may t (t + 1) (omega arith) x (trial_counts (fixed_at v k s) t))
        (λ u l. counts_later may t u l (starts_from test may rest k c (s + 1) v u) (starts_count k c (s + 1) v u)))
        (λ e. (omega arith, e))

  pub search_counts : (whole : ℕ → Bool) (j k : ℕ) (v : Windows) (t : ℕ) → Counts may t (search_from test may whole j k v t)
  unfolding search_from
  search_counts whole zero k v t = omega arith
  search_counts whole (suc j) k v t =
      cond_cases (Counts may t) (whole k) _ _
      (λ _. starts_count (search_from test may whole j (k + 1)) (search_counts whole j (k + 1)) k (start_count v k) (v.r k) v t)
      (λ _. search_counts whole j (k + 1) v t)
