-- Room numbers in cyclic order: how many rooms are ahead of one, and what a search for the next unfinished one finds.
-- Assumes nothing.
use mathlib.Core.Path.{◌≡◌, refl, sym, ap, ◌∙◌}
use mathlib.Core.Bool.{Bool, true, false, cond, true≢false}
use Prim.Native.Nat.{ℕ, zero, suc, ◌+◌, ◌-◌, ◌<◌, ◌≤◌}
use native.Mathlib.Omega.{arith}
use borrow.Author.Tests.{ltb-true, ltb-false, lt-ltb, le-ltb, leb-true, leb-false}
use lib.Dec.{leb, ltb}
use Rattle.base.proofs.Sums.{eq_or_ne}
use Rattle.rooms.specs.Cycles.{number_after, number_used, next_from, next_unfinished}

-- the number after k
pub after_cases : {G : Type 0} (m k : ℕ) → (suc k < m → number_after m k ≡ suc k → G) → (m ≤ suc k → number_after m k ≡ 0 → G) → G
unfolding number_after
after_cases {G} m k f g = go (ltb (suc k) m) refl
  where
    go : (t : Bool) → ltb (suc k) m ≡ t → G
    go true e = f (ltb-true _ _ e) (rw e)
    go false e = g (ltb-false _ _ e) (rw e)

pub after_below : (m k : ℕ) → k < m → number_after m k < m
after_below m k h = after_cases m k (λ l e. omega (arith, e)) (λ l e. omega (arith, e))

pub used_below : (m number : ℕ) → 1 ≤ m → number_used m number < m
unfolding number_used
used_below m number h = go (ltb number m) refl
  where
    go : (t : Bool) → ltb number m ≡ t → cond t number 0 < m
    go true e = ltb-true _ _ e
    go false e = h

pub used_same : (m number : ℕ) → number < m → number_used m number ≡ number
unfolding number_used
used_same m number h = rw (lt-ltb number m h)

pub used_past : (m number : ℕ) → m ≤ number → number_used m number ≡ 0
unfolding number_used
used_past m number h = rw (le-ltb number m h)

-- how many rooms come before room i, from k on
unfoldable pub ahead : ℕ → ℕ → ℕ → ℕ
ahead m k i = cond (leb k i) (i - k) (i + m - k)

ahead_cases : {G : Type 0} (m k i : ℕ) → (k ≤ i → ahead m k i ≡ i - k → G) → (i < k → ahead m k i ≡ i + m - k → G) → G
unfolding ahead
ahead_cases {G} m k i f g = go (leb k i) refl
  where
    go : (t : Bool) → leb k i ≡ t → G
    go true e = f (leb-true _ _ e) (rw e)
    go false e = g (leb-false _ _ e) (rw e)

pub ahead_below : (m k i : ℕ) → k < m → i < m → ahead m k i < m
ahead_below m k i h l = ahead_cases m k i (λ q e. omega (arith, e)) (λ q e. omega (arith, e))

-- rooms that come before k: upward from u, or upward to the last and then from 0
pub ahead_up : (m u i k : ℕ) → u ≤ i → i < k → ahead m u i < ahead m u k
ahead_up m u i k a b =
    ahead_cases m u i
    (λ q e. ahead_cases m u k (λ r f. omega (arith, e, f)) (λ r f. absurd (omega (arith, r))))
    (λ q e. absurd (omega (arith, q)))

pub ahead_last : (m u i k : ℕ) → k < u → u ≤ i → i < m → ahead m u i < ahead m u k
ahead_last m u i k h a b =
    ahead_cases m u i
    (λ q e. ahead_cases m u k (λ r f. absurd (omega (arith, r))) (λ r f. omega (arith, e, f)))
    (λ q e. absurd (omega (arith, q)))

pub ahead_zero : (m u i k : ℕ) → k < u → u < m → i < k → ahead m u i < ahead m u k
ahead_zero m u i k h a b =
    ahead_cases m u i
    (λ q e. absurd (omega (arith, q)))
    (λ q e. ahead_cases m u k (λ r f. absurd (omega (arith, r))) (λ r f. omega (arith, e, f)))

ahead_here : (m k : ℕ) → ahead m k k ≡ 0
ahead_here m k = ahead_cases m k k (λ q e. omega (arith, e)) (λ q e. omega (arith, e))

-- from the next number on, one fewer
ahead_next : (m k i : ℕ) → k < m → i < m → (k ≡ i → ⊥) → ahead m k i ≡ suc (ahead m (number_after m k) i)
ahead_next m k i h l ne =
    after_cases m k
    (λ p e. rw e (ahead_cases m k i
    (λ q x. ahead_cases m (suc k) i (λ u y. omega (arith, x, y)) (λ u y. omega (arith, x, y)))
    (λ q x. ahead_cases m (suc k) i (λ u y. omega (arith, x, y)) (λ u y. omega (arith, x, y)))))
    (λ p e. rw e (ahead_cases m k i
    (λ q x. ahead_cases m 0 i (λ u y. omega (arith, x, y)) (λ u y. omega (arith, x, y)))
    (λ q x. ahead_cases m 0 i (λ u y. omega (arith, x, y)) (λ u y. omega (arith, x, y)))))

module _ (unfinished : ℕ → Bool) (m : ℕ) where
  abbrev found : ℕ → ℕ → ℕ
  found left k = next_from unfinished m left k

  -- what a search finds is unfinished
  found_unfinished : (left k : ℕ) → found left k < m → unfinished (found left k) ≡ true
  unfolding next_from
  found_unfinished zero k h = absurd (omega arith)
  found_unfinished (suc left) k h = go (unfinished k) refl (found_unfinished left (number_after m k)) h
    where
      rest : ℕ
      rest = found left (number_after m k)

      go : (t : Bool) → unfinished k ≡ t → (rest < m → unfinished rest ≡ true) → cond t k rest < m → unfinished (cond t k rest) ≡ true
      go true e more h = e
      go false e more h = more h

  -- for a room i, from k on: another room r was found, which comes before it, and from after r on fewer rooms are ahead of i
  pub record Before (k i r : ℕ) : Type 0 where
    pub inside : r < m
    pub other : r ≡ i → ⊥
    pub earlier : ahead m k r < ahead m k i
    pub fewer : ahead m (number_after m r) i < ahead m k i

  -- the same from one number earlier on
  before_next : (k i r : ℕ) → k < m → i < m → (k ≡ i → ⊥) → Before (number_after m k) i r → Before k i r
  before_next k i r h l ne b =
      let far = ahead_next m k i h l ne in
      record {
        inside = b.inside;
        other = b.other;
        earlier = eq_or_ne k r
            (λ e. rw (← e) (omega (arith, far, ahead_here m k)))
            (λ other. omega (arith, far, ahead_next m k r h b.inside other, b.earlier));
        fewer = omega (arith, far, b.fewer);
      }

  -- where a room that is unfinished is among those searched, it is found, or one before it is
  found_near : {G : Type 0} (i left k : ℕ) → k < m → i < m → unfinished i ≡ true → ahead m k i < left
      → (found left k ≡ i → G) → (Before k i (found left k) → G) → G
  unfolding next_from
  found_near i zero k h l is near f g = absurd (omega arith)
  found_near {G} i (suc left) k h l is near f g =
      go (unfinished k) refl (λ far f g. found_near i left (number_after m k) (after_below m k h) l is far f g) f g
    where
      rest : ℕ
      rest = found left (number_after m k)

      go : (t : Bool) → unfinished k ≡ t
          → (ahead m (number_after m k) i < left → (rest ≡ i → G) → (Before (number_after m k) i rest → G) → G)
          → (cond t k rest ≡ i → G)
          → (Before k i (cond t k rest) → G)
          → G
      go true e more f g =
          eq_or_ne k i f
          (λ ne.
          let far = ahead_next m k i h l ne in
          g (record { inside = h; other = ne; earlier = omega (arith, far, ahead_here m k); fewer = omega (arith, far) }))
      go false e more f g =
          let ne : k ≡ i → ⊥ = λ q. true≢false (sym is ∙ ap unfinished (sym q) ∙ e) in
          more (omega (arith, ahead_next m k i h l ne)) f (λ b. g (before_next k i rest h l ne b))

  module _ (number : ℕ) where
    abbrev used : ℕ
    used = number_used m number

    abbrev next : ℕ
    next = next_unfinished unfinished m number

    pub next_unfinished_lem : next < m → unfinished next ≡ true
    unfolding next_unfinished
    next_unfinished_lem h = found_unfinished m used h

    -- for a room that is unfinished, it is that room, or one before it
    pub next_near : {G : Type 0} (i : ℕ) → i < m → unfinished i ≡ true → (next ≡ i → G) → (Before used i next → G) → G
    unfolding next_unfinished
    next_near i h is =
        let from = used_below m number (omega arith) in found_near i m used from h is (ahead_below m used i from h)

    -- so where some room is unfinished, one is found
    pub next_some : (i : ℕ) → i < m → unfinished i ≡ true → next < m
    next_some i h is = next_near i h is (λ e. omega (arith, e)) (λ b. b.inside)

    -- and those before it are finished
    pub next_first : (i : ℕ) → i < m → ahead m used i < ahead m used next → unfinished i ≡ false
    next_first i h before = go (unfinished i) refl
      where
        go : (t : Bool) → unfinished i ≡ t → t ≡ false
        go false e = refl
        go true e =
            absurd
            (next_near i h e (λ same. omega (arith, before, ap (ahead m used) same)) (λ b. omega (arith, before, b.earlier)))
