-- The runs found are the maximal runs of one entry.
-- Assumes nothing.
use mathlib.Core.Path.{◌≡◌, sym, ap, ◌∙◌}
use mathlib.Core.Bool.{true, false, not}
use Prim.Native.Nat.{ℕ, ◌+◌, ◌-◌, ◌<◌, ◌≤◌}
use native.Mathlib.Omega.{arith}
use borrow.Author.Tests.{eqb-false, eq-eqb, ne_eqb, not-true}
use lib.Dec.{eqb}
use Rattle.base.specs.Counting.{first_below}
use Rattle.windows.specs.Plans.{idle}
use Rattle.base.proofs.Sums.{le_or_lt, same_cases}
use Rattle.base.proofs.Inversion.{both}
use Rattle.base.proofs.Searches.{First, first_below_lem}
use Rattle.report.specs.Runs.{begins_run, run_end, Run, RunsAre}

-- Tests.

differ : (a b : ℕ) → not (eqb a b) ≡ true → a ≡ b → ⊥
differ a b e = eqb-false a b (not-true _ e)

differs : (a b : ℕ) → (a ≡ b → ⊥) → not (eqb a b) ≡ true
differs a b h = ap not (ne_eqb a b h)

module _ (m : ℕ → ℕ) (t : ℕ) where
  -- a run begins at minute t: an entry has it
  pub begins_entry : begins_run m t ≡ true → m t ≡ idle → ⊥
  begins_entry b = differ (m t) idle (both _ _ b).0

  -- and it did not have the minute before
  begins_first : begins_run m t ≡ true → (s : ℕ) → s + 1 ≡ t → m s ≡ m t → ⊥
  begins_first b s e =
      let other : eqb t 0 ≡ false = ne_eqb t 0 (omega arith) in
      let before : t - 1 ≡ s = omega arith in
      differ (m s) (m t) (rw (other, before) at (both (not (eqb (m t) idle)) _ b).1)

  -- and back
  pub begins_so : (m t ≡ idle → ⊥) → ((s : ℕ) → s + 1 ≡ t → m s ≡ m t → ⊥) → begins_run m t ≡ true
  begins_so entry first =
      rw (differs (m t) idle entry)
      (same_cases t 0
      (λ e _. rw (eq-eqb t 0 e))
      (λ ne _. rw (ne_eqb t 0 ne) (differs (m (t - 1)) (m t) (first (t - 1) (omega arith)))))

-- from minute s on, up to e, one entry has every minute, and not the one at e
record GoesTo (h : ℕ) (m : ℕ → ℕ) (s e : ℕ) : Type 0 where
  from : s ≤ e
  within : e ≤ h
  minutes : (t : ℕ) → s ≤ t → t < e → m t ≡ m s
  last : e < h → m e ≡ m s → ⊥

module _ (h : ℕ) (m : ℕ → ℕ) (s : ℕ) where
  -- there is only one such e
  end_after : (a b : ℕ) → GoesTo h m s a → GoesTo h m s b → b ≤ a
  end_after a b x y =
      le_or_lt b a (λ l. l)
      (λ l. absurd (x.last (omega (arith, y.within)) (y.minutes a x.from l)))

  -- the search finds it
  end_found : s ≤ h → GoesTo h m s (run_end h m s)
  unfolding run_end
  end_found in_day = record { from = omega arith; within = omega (arith, first.within); minutes = minutes; last = last }
    where
      j : ℕ
      j = first_below (h - s) (λ j. not (eqb (m (s + j)) (m s)))

      first : First (h - s) (λ j. not (eqb (m (s + j)) (m s))) j
      first = first_below_lem (h - s) _

      minutes : (t : ℕ) → s ≤ t → t < s + j → m t ≡ m s
      minutes t l u =
          let i = t - s in
          let here : s + i ≡ t = omega arith in
          same_cases (m t) (m s) (λ e _. e) (λ ne _. absurd (first.none_before i (omega arith) (rw here (differs _ _ ne))))

      last : s + j < h → m (s + j) ≡ m s → ⊥
      last l = differ _ _ (first.passes (omega arith))

-- within the day
pub run_in_day : (h : ℕ) (m : ℕ → ℕ) (s : ℕ) → s ≤ h → run_end h m s ≤ h
run_in_day h m s in_day = (end_found h m s in_day).within

pub runs_are : (h : ℕ) (m : ℕ → ℕ) → RunsAre h m
runs_are h m s e k = (there, back)
  where
    there : Run h m s e k → (s < h) × (begins_run m s ≡ true) × (e ≡ run_end h m s) × (k ≡ m s)
    there run =
        let below : s < h = omega (arith, run.some, run.within) in
        let is : m s ≡ k = run.minutes s (omega arith) run.some in
        let goes : GoesTo h m s e =
        record {
          from = omega (arith, run.some);
          within = run.within;
          minutes = λ t l u. run.minutes t l u ∙ sym is;
          last = λ l q. run.last l (q ∙ is);
        } in
        let found = end_found h m s (omega arith) in (
          below,
          begins_so m s (λ q. run.entry (sym is ∙ q)) (λ t q r. run.first t q (r ∙ is)),
          omega (arith, end_after h m s e _ goes found, end_after h m s _ e found goes),
          sym is,
        )

    back : (s < h) × (begins_run m s ≡ true) × (e ≡ run_end h m s) × (k ≡ m s) → Run h m s e k
    back (below, begins, end, is) =
        let found : GoesTo h m s e = rw end (end_found h m s (omega arith)) in
        rw is
        (record {
          entry = begins_entry m s begins;
          some = le_or_lt e s (λ l. let z : e ≡ s = omega (arith, found.from) in absurd (found.last (omega arith) (ap m z))) (λ l. l);
          within = found.within;
          minutes = found.minutes;
          first = begins_first m s begins;
          last = found.last;
        })
