-- The place that the algorithm chooses is the one that Jackson's rule takes, and the rule takes one only.
-- Assumes nothing.
use mathlib.Core.Path.{◌≡◌, refl, sym, ap, ◌∙◌}
use mathlib.Core.Bool.{Bool, true, false, cond, true≢false, and-eq-true_iff}
use Prim.Native.Nat.{ℕ, ◌<◌, ◌≤◌}
use native.Mathlib.Omega.{arith}
use native.Mathlib.Nat.{le_antisymm}
use native.Mathlib.Decide.{dec_lt, ℕ_discrete}
use borrow.Author.Tests.{leb-true, ltb-true, ltb-false, le-leb, le-ltb, lt-ltb, not-true}
use lib.Dec.{leb, ltb}
use Rattle.windows.specs.Plans.{idle}
use Rattle.jackson.specs.Rules.{Ready}
use Rattle.jackson.specs.Minutes.{State, is_ready, comes_before, earliest_deadline, goes_on, chosen, Tied, Takes}
use Rattle.base.proofs.Scans.{Ranks, Best, lex_smaller_ranks, of_lex_smaller, not_lex_smaller, best_cases, best_some}

module _ (s : State) where
  -- the algorithm's test of a place, and the rule's words for it
  of_test : (i : ℕ) → i < s.windows.n → is_ready s i ≡ true → Ready s.windows s.t i
  of_test i h e =
      let z = (and-eq-true_iff (leb (s.windows.r i) s.t) (ltb 0 (s.windows.p i))).0 e in
      record { place = h; released = leb-true _ _ z.0; unfinished = ltb-true _ _ z.1 }

  to_test : (i : ℕ) → Ready s.windows s.t i → is_ready s i ≡ true
  to_test i h = simp (le-leb _ _ h.released, lt-ltb _ _ h.unfinished)

  -- the algorithm's test whether the entry that had the minute before goes on
  of_goes_on : goes_on s ≡ true → Ready s.windows s.t s.last × (s.windows.d s.last ≤ s.windows.d (earliest_deadline s))
  of_goes_on e =
      let y = (and-eq-true_iff (ltb s.last s.windows.n) _).0 e in
      let z = (and-eq-true_iff (is_ready s s.last) _).0 y.1 in
      (of_test s.last (ltb-true _ _ y.0) z.0, ltb-false _ _ (not-true _ z.1))

  to_goes_on : Ready s.windows s.t s.last → s.windows.d s.last ≤ s.windows.d (earliest_deadline s) → goes_on s ≡ true
  to_goes_on h l = simp (lt-ltb _ _ h.place, le-leb _ _ h.released, lt-ltb _ _ h.unfinished, le-ltb _ _ l)

  pub comes_before_ranks : Ranks (comes_before s)
  comes_before_ranks = lex_smaller_ranks s.windows.d s.windows.p

  module _ (few : s.windows.n ≤ 255) where
    -- the scan finds a ready entry's place, if there is one
    scan_some : (i : ℕ) → Ready s.windows s.t i → Best s.windows.n (is_ready s) (comes_before s) (earliest_deadline s)
    scan_some i h = best_some idle (is_ready s) (comes_before s) comes_before_ranks s.windows.n few i h.place (to_test i h)

    module _ (i : ℕ) (h : Ready s.windows s.t i) where
      -- it does not come before the one found
      not_before : comes_before s i (earliest_deadline s) ≡ true → ⊥
      not_before = (scan_some i h).unbeaten i h.place (to_test i h)

      least_found : s.windows.d (earliest_deadline s) ≤ s.windows.d i
      least_found = (not_lex_smaller s.windows.d s.windows.p i _ not_before).0

      fewest_found : s.windows.d i ≡ s.windows.d (earliest_deadline s) → s.windows.p (earliest_deadline s) ≤ s.windows.p i
      fewest_found = (not_lex_smaller s.windows.d s.windows.p i _ not_before).1

      -- below the one found, ready places that share its d have more minutes left
      more_below : i < earliest_deadline s → s.windows.d i ≡ s.windows.d (earliest_deadline s)
          → s.windows.p (earliest_deadline s) < s.windows.p i
      more_below l e = (of_lex_smaller s.windows.d s.windows.p _ i ((scan_some i h).lowest i l (to_test i h))).1 (sym e)

    -- the entry that had the minute before
    takes_last : goes_on s ≡ true → Takes s s.last
    takes_last e =
        let z = of_goes_on e in
        record {
          deadline =
              record {
                taken = λ _. z.0;
                least = λ i _ h. omega (arith, least_found i h);
                none = λ i h _. omega arith;
              };
          goes_on = λ _ _. refl;
          fewest = λ i not_tied _. absurd (not_tied (record { ready = z.0; deadline = refl }));
          lowest = λ i not_tied _ _. absurd (not_tied (record { ready = z.0; deadline = refl }));
          idles = λ h. absurd (omega arith);
        }

    -- or else the one that the scan finds
    takes_earliest_deadline : goes_on s ≡ false → Takes s (earliest_deadline s)
    takes_earliest_deadline e =
        best_cases idle (is_ready s) (comes_before s) comes_before_ranks s.windows.n few (Takes s (earliest_deadline s))
        (λ q empty.
        record {
          deadline =
              record {
                taken = λ h. absurd (omega arith);
                least = λ i h _. absurd (omega arith);
                none = λ i _ h. empty i h.place (to_test i h);
              };
          goes_on = λ h _. absurd (empty s.last h.place (to_test s.last h));
          fewest = λ i _ tied. absurd (empty i tied.ready.place (to_test i tied.ready));
          lowest = λ i _ tied _. absurd (empty i tied.ready.place (to_test i tied.ready));
          idles = λ _. q;
        })
        (λ b.
        let first = of_test (earliest_deadline s) b.below b.passes in
        record {
          deadline =
              record {
                taken = λ _. first;
                least = λ i _ h. least_found i h;
                none = λ i h _. omega (arith, b.below);
              };
          goes_on = λ h alone. absurd (true≢false (sym (to_goes_on h (omega (arith, alone (earliest_deadline s) first))) ∙ e));
          fewest = λ i _ tied. fewest_found i tied.ready tied.deadline;
          lowest =
              λ i _ tied q.
              let above : i < earliest_deadline s → ⊥ = λ l. omega (arith, more_below i tied.ready l tied.deadline) in
              omega arith;
          idles = λ h. absurd (omega (arith, b.below));
        })

    -- the place chosen is one that the rule takes
    pub chosen_takes : Takes s (chosen s)
    unfolding chosen
    chosen_takes = go (goes_on s) refl
      where
        go : (t : Bool) → goes_on s ≡ t → Takes s (cond t s.last (earliest_deadline s))
        go true e = takes_last e
        go false e = takes_earliest_deadline e

-- of the entries that share the smallest d, one that had the minute before is taken
last_taken : (s : State) (k : ℕ) → Takes s k → k < s.windows.n → Tied s k s.last → k ≡ s.last
last_taken s k a h tied = a.goes_on tied.ready (λ i r less. omega (arith, a.deadline.least i h r, tied.deadline))

-- the rule leaves one choice: of two, neither is above the other
not_above : (s : State) (j k : ℕ) → Takes s j → Takes s k → j ≤ k
not_above s j k a b = go (dec_lt j s.windows.n) (dec_lt k s.windows.n) (ℕ_discrete j s.last)
  where
    go : Dec (j < s.windows.n) → Dec (k < s.windows.n) → Dec (j ≡ s.last) → j ≤ k
    go (yes h) (yes l) (yes q) =
        let d = ap s.windows.d q in
        omega (arith, b.goes_on (rw q at (a.deadline.taken h)) (λ i r less. omega (arith, a.deadline.least i h r)))
    go (yes h) (yes l) (no q) =
        let x = a.deadline.taken h in
        let y = b.deadline.taken l in
        let e : s.windows.d k ≡ s.windows.d j = omega (arith, a.deadline.least k h y, b.deadline.least j l x) in
        let not_tied : Tied s j s.last → ⊥ = λ tied. q (last_taken s j a h tied) in
        let fewer =
        b.fewest j (λ tied. not_tied (record { ready = tied.ready; deadline = tied.deadline ∙ e }))
        (record { ready = x; deadline = sym e }) in
        let tied : Tied s j k = record { ready = y; deadline = e } in
        a.lowest k not_tied tied (omega (arith, a.fewest k not_tied tied, fewer))
    go (yes h) (no l) q = omega arith
    go (no h) (yes l) q = absurd (a.deadline.none k (omega arith) (b.deadline.taken l))
    go (no h) (no l) q = omega (arith, a.idles (omega arith), b.idles (omega arith))

pub takes_one : (s : State) (j k : ℕ) → Takes s j → Takes s k → j ≡ k
takes_one s j k a b = le_antisymm (not_above s j k a b) (not_above s k j b a)
