-- What is left of the search where it stands, and how a trial, the next place and going back change it.
-- Assumes nothing.
use mathlib.Core.Path.{◌≡◌, refl, sym, ap, ◌∙◌, fun_ext}
use mathlib.Core.Bool.{Bool, true, false}
use Prim.Native.Nat.{ℕ, zero, suc, ◌+◌, ◌-◌, ◌<◌, ◌≤◌}
use native.Mathlib.Numerals.{add-one}
use native.Mathlib.Omega.{arith}
use borrow.Author.Tests.{lt-ltb, le-ltb}
use lib.Dec.{ltb}
use Rattle.base.specs.Outcomes.{accepts}
use Rattle.windows.specs.Windows.{Windows, with_window, fixed_at}
use Rattle.windows.specs.Intervals.{overload_of}
use Rattle.windows.proofs.Puts.{put_same, put_twice, own_window}
use Rattle.backtracking.specs.Searches.{Search, found, none, spent, or_else, trial, starts_from, search_from}
use Rattle.backtracking.specs.Internal.{NextWhole, LastWhole, FixedBelow, entries_on, starts_on}
use Rattle.backtracking.specs.Internal.{going_back, from_place, from_start}

else_none : (x : Search) → or_else x (λ u. none u) ≡ x
else_none (found v t) = refl
else_none (none t) = refl
else_none (spent t) = refl

else_else : (x : Search) (f g : ℕ → Search) → or_else (or_else x f) g ≡ or_else x (λ u. or_else (f u) g)
else_else (found v t) f g = refl
else_else (none t) f g = refl
else_else (spent t) f g = refl

module _ (limit : ℕ) (whole : ℕ → Bool) (w : Windows) where
  abbrev from : ℕ → Windows → ℕ → Search
  from = from_place limit whole w

  abbrev start : ℕ → ℕ → Windows → ℕ → Search
  start = from_start limit whole w

  abbrev back : ℕ → Windows → ℕ → Search
  back = going_back limit whole w

  -- at first all is left
  pub from_first : (v : Windows) (t : ℕ) → from 0 v t ≡ search_from overload_of (λ t. ltb t limit) whole w.n 0 v t
  unfolding going_back
  from_first v t = let z : w.n - 0 ≡ w.n = omega arith in rw z (else_none _)

  -- behind the last place nothing is
  pub from_last : (v : Windows) (t : ℕ) → from w.n v t ≡ found v t
  unfolding search_from
  from_last v t = let z : w.n - w.n ≡ 0 = omega arith in rw z refl

  -- a pause entry is passed over, also on the way back
  from_pause : (k : ℕ) (v : Windows) (t : ℕ) → k < w.n → whole k ≡ false → from k v t ≡ from (k + 1) v t
  unfolding search_from going_back
  from_pause k v t h e =
      let z : w.n - k ≡ suc (w.n - (k + 1)) = omega arith in
      rw (z, e, add-one k, e) refl

  back_pause : (k : ℕ) (v : Windows) (t : ℕ) → whole k ≡ false → back (k + 1) v t ≡ back k v t
  unfolding going_back
  back_pause k v t e = rw (add-one k, e) refl

  -- so pause entries in a row are
  from_pauses : (c k : ℕ) (v : Windows) (t : ℕ) → k + c ≤ w.n → ((i : ℕ) → k ≤ i → i < k + c → whole i ≡ false)
      → from k v t ≡ from (k + c) v t
  from_pauses zero k v t h pauses = let z : k + 0 ≡ k = omega arith in rw z refl
  from_pauses (suc c) k v t h pauses =
      let z : k + suc c ≡ k + 1 + c = omega arith in
      from_pause k v t (omega arith) (pauses k (omega arith) (omega arith))
      ∙ from_pauses c (k + 1) v t (omega arith) (λ i a b. pauses i (omega arith) (omega arith))
      ∙ ap (λ (j : ℕ). from j v t) (sym z)

  back_pauses : (c k : ℕ) (v : Windows) (t : ℕ) → ((i : ℕ) → k ≤ i → i < k + c → whole i ≡ false) → back (k + c) v t ≡ back k v t
  back_pauses zero k v t pauses = let z : k + 0 ≡ k = omega arith in rw z refl
  back_pauses (suc c) k v t pauses =
      let z : k + suc c ≡ k + c + 1 = omega arith in
      ap (λ (j : ℕ). back j v t) z
      ∙ back_pause (k + c) v t (pauses (k + c) (omega arith) (omega arith))
      ∙ back_pauses c k v t (λ i a b. pauses i a (omega arith))

  pub from_next : (k j : ℕ) (v : Windows) (t : ℕ) → NextWhole whole w.n k j → from k v t ≡ from j v t
  from_next k j v t next =
      let z : k + (j - k) ≡ j = omega (arith, next.from) in
      from_pauses (j - k) k v t (omega (arith, z, next.within)) (λ i a b. next.pauses i a (omega (arith, z)))
      ∙ ap (λ (i : ℕ). from i v t) z

  back_last : (k j : ℕ) (v : Windows) (t : ℕ) → LastWhole whole k j → back k v t ≡ back j v t
  back_last k j v t last =
      let z : j + (k - j) ≡ k = omega (arith, last.within) in
      ap (λ (i : ℕ). back i v t) (sym z)
      ∙ back_pauses (k - j) j v t (λ i a b. last.pauses i a (omega (arith, z)))

  -- no whole entry is left to go back to
  pub back_none : (k : ℕ) (v : Windows) (t : ℕ) → LastWhole whole k 0 → back k v t ≡ none t
  unfolding going_back
  back_none k v t last = back_last k 0 v t last

  -- the previous whole entry goes on at its next start
  pub back_whole : (k j : ℕ) (v : Windows) (t : ℕ) → LastWhole whole k (suc j)
      → back k v t ≡ start j (v.r j + 1) (with_window v j (w.r j) (w.d j)) t
  unfolding going_back
  back_whole k j v t last = back_last k (suc j) v t last ∙ rw (last.is_whole j refl) refl

  -- Where entry k is tried next at s.
  module _ (k s : ℕ) (v : Windows) (t : ℕ) where
    -- no start is left
    pub start_none : w.d k < s + w.p k → start k s v t ≡ back k v t
    unfolding starts_from
    start_none h = let z : suc (w.d k) - (s + w.p k) ≡ 0 = omega arith in rw z refl

    module _ (room : s + w.p k ≤ w.d k) where
      pub start_spent : limit ≤ t → start k s v t ≡ spent t
      unfolding starts_from
      start_spent l =
          let z : suc (w.d k) - (s + w.p k) ≡ suc (w.d k - (s + w.p k)) = omega arith in
          rw (z, le-ltb t limit l) refl

      start_turn : t < limit
          → start k s v t ≡ or_else (trial overload_of (entries_on limit whole w (k + 1)) (fixed_at v k s) t) (λ u. start k (s + 1) v u)
      unfolding starts_from
      start_turn l =
          let z : suc (w.d k) - (s + w.p k) ≡ suc (suc (w.d k) - (s + 1 + w.p k)) = omega arith in
          rw (z, lt-ltb t limit l)
          (else_else (trial overload_of (entries_on limit whole w (k + 1)) (fixed_at v k s) t) (λ u. starts_on limit whole w k (s + 1) v u)
          (λ u. back k v u))

      pub start_fails : t < limit → accepts (overload_of (fixed_at v k s)) ≡ false → start k s v t ≡ start k (s + 1) v (t + 1)
      unfolding trial
      start_fails l e = start_turn l ∙ rw e refl

      -- entry k with its window again
      again : FixedBelow whole w v k → with_window (fixed_at v k s) k (w.r k) (w.d k) ≡ v
      again so =
          let here = so.later k (omega arith) in
          rw (← here.0, ← here.1, put_twice k (v.r k) s v.r, put_twice k (v.d k) (s + v.p k) v.d) (own_window v k)

      back_own : FixedBelow whole w v k → whole k ≡ true → (u : ℕ) → back (suc k) (fixed_at v k s) u ≡ start k (s + 1) v u
      unfolding going_back
      back_own so is u = rw (is, again so, put_same k s v.r) refl

      pub start_holds : FixedBelow whole w v k → whole k ≡ true → t < limit → accepts (overload_of (fixed_at v k s)) ≡ true
          → start k s v t ≡ from (k + 1) (fixed_at v k s) (t + 1)
      unfolding trial
      start_holds so is l e =
          let on : (u : ℕ) → start k (s + 1) v u ≡ back (k + 1) (fixed_at v k s) u =
          λ u. sym (ap (λ (j : ℕ). back j (fixed_at v k s) u) (add-one k) ∙ back_own so is u) in
          start_turn l
          ∙ rw e (ap (λ (f : ℕ → Search). or_else (entries_on limit whole w (k + 1) (fixed_at v k s) (t + 1)) f) (fun_ext on))

  -- the first start of a whole entry
  pub from_whole : (k : ℕ) (v : Windows) (t : ℕ) → FixedBelow whole w v k → k < w.n → whole k ≡ true → from k v t ≡ start k (w.r k) v t
  unfolding search_from
  from_whole k v t so place is =
      let z : w.n - k ≡ suc (w.n - (k + 1)) = omega arith in
      let here = so.later k (omega arith) in
      let p : v.p k ≡ w.p k = ap (λ (y : Windows). y.p k) so.entries in
      rw (z, is, here.0, here.1, p) refl
