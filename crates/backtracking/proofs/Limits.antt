-- With a limit the search makes the same trials as without, up to the limit.
-- Assumes nothing.
use mathlib.Core.Path.{◌≡◌, refl, sym, ap, ◌∙◌}
use mathlib.Core.Bool.{Bool, true, false, cond}
use Prim.Native.Nat.{ℕ, zero, suc, ◌+◌, ◌<◌, ◌≤◌}
use native.Mathlib.Omega.{arith}
use borrow.Author.Tests.{lt-ltb, le-ltb}
use lib.Dec.{ltb}
use Rattle.base.specs.Outcomes.{accepts}
use Rattle.base.proofs.Sums.{le_or_lt}
use Rattle.windows.specs.Windows.{Windows, fixed_at}
use Rattle.narrow.specs.Searching.{Test, start_count}
use Rattle.backtracking.specs.Searches.{Search, found, none, spent, trials_of, or_else, trial, starts_from, search_from}
use Rattle.backtracking.specs.Searches.{search_within, search_all}
use Rattle.backtracking.proofs.Endings.{by_else, Counts, counted, counts_later, trial_counts, starts_count, search_counts}

-- what a limit leaves of a search: it, or spent
abbrev pub up_to : ℕ → Search → Search
up_to limit x = cond (ltb limit (trials_of x)) (spent limit) x

pub up_to_more : (limit : ℕ) (x : Search) → limit < trials_of x → up_to limit x ≡ spent limit
up_to_more limit x h = rw (lt-ltb limit (trials_of x) h)

pub up_to_less : (limit : ℕ) (x : Search) → trials_of x ≤ limit → up_to limit x ≡ x
up_to_less limit x h = rw (le-ltb limit (trials_of x) h)

-- a function of what a test decides, case by case
cond_same : {A B : Type 0} (f : A → B) (t : Bool) {x y : A} {x' y' : B} → f x ≡ x' → f y ≡ y' → f (cond t x y) ≡ cond t x' y'
cond_same f true a b = a
cond_same f false a b = b

-- whether another trial may be made without a limit
abbrev always : ℕ → Bool
always t = true

module _ (test : Test) (limit : ℕ) where
  -- and with one
  abbrev below : ℕ → Bool
  below t = ltb t limit

  -- the limit of a search and of what follows it, if that counts its trials
  else_up_to : (x : Search) (f g : ℕ → Search) → ((u : ℕ) → u ≤ trials_of (f u)) → ((u : ℕ) → u ≤ limit → up_to limit (f u) ≡ g u)
      → up_to limit (or_else x f) ≡ or_else (up_to limit x) g
  else_up_to (found v u) f g more same = sym (cond_same (λ y. or_else y g) (ltb limit u) refl refl)
  else_up_to (none u) f g more same =
      le_or_lt u limit
      (λ l. same u l ∙ ap (λ y. or_else y g) (sym (up_to_less limit (none u) l)))
      (λ l. up_to_more limit (f u) (omega (arith, more u)) ∙ ap (λ y. or_else y g) (sym (up_to_more limit (none u) l)))
  else_up_to (spent u) f g more same = sym (cond_same (λ y. or_else y g) (ltb limit u) refl refl)

  module _ (free bound : Windows → ℕ → Search) (counts : (v : Windows) (t : ℕ) → Counts always t (free v t))
      (same : (v : Windows) (t : ℕ) → t ≤ limit → up_to limit (free v t) ≡ bound v t) where
    trial_limited : (v : Windows) (t : ℕ) → t < limit → up_to limit (trial test free v t) ≡ trial test bound v t
    unfolding trial
    trial_limited v t h =
        cond_same (up_to limit) (accepts (test v)) (same v (t + 1) (omega arith)) (up_to_less limit (none (t + 1)) (omega arith))

    starts_limited : (k c s : ℕ) (v : Windows) (t : ℕ) → t ≤ limit
        → up_to limit (starts_from test always free k c s v t) ≡ starts_from test below bound k c s v t
    unfolding starts_from
    starts_limited k zero s v t h = up_to_less limit (none t) h
    starts_limited k (suc c) s v t h =
        le_or_lt limit t
        (λ l.
        let z : t ≡ limit = omega arith in
        up_to_more limit (or_else x f) (omega (arith, counted always (t + 1) (or_else x f) many)) ∙ rw (le-ltb t limit l, z))
        (λ l.
        else_up_to x f g (λ u. counted always u (f u) (starts_count test always free counts k c (s + 1) v u))
        (λ u. starts_limited k c (s + 1) v u)
        ∙ rw (lt-ltb t limit l) (ap (λ y. or_else y g) (trial_limited (fixed_at v k s) t l)))
      where
        x : Search
        x = trial test free (fixed_at v k s) t

        f : ℕ → Search
        f u = starts_from test always free k c (s + 1) v u

        g : ℕ → Search
        g u = starts_from test below bound k c (s + 1) v u

        -- this trial and what follows are more than t
        many : Counts always (t + 1) (or_else x f)
        many =
            by_else _ (λ u. t + 1 ≤ u) _ _ x f (trial_counts test always free counts (fixed_at v k s) t)
            (λ u l. counts_later always (t + 1) u l (f u) (starts_count test always free counts k c (s + 1) v u))

  search_limited : (whole : ℕ → Bool) (j k : ℕ) (v : Windows) (t : ℕ) → t ≤ limit
      → up_to limit (search_from test always whole j k v t) ≡ search_from test below whole j k v t
  unfolding search_from
  search_limited whole zero k v t h = up_to_less limit (found v t) h
  search_limited whole (suc j) k v t h =
      cond_same (up_to limit) (whole k)
      (starts_limited (search_from test always whole j (k + 1)) (search_from test below whole j (k + 1))
      (search_counts test always whole j (k + 1)) (search_limited whole j (k + 1)) k (start_count v k) (v.r k) v t h)
      (search_limited whole j (k + 1) v t h)

  -- the search with a limit is the one without, or spent where that makes more trials
  pub within_all : (whole : ℕ → Bool) (v : Windows) → up_to limit (search_all test whole v) ≡ search_within test limit whole v
  unfolding search_all search_within
  within_all whole v = search_limited whole v.n 0 v 0 (omega arith)
