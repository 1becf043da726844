-- An entry with minutes is counted as broken exactly when it is whole and its minutes are not consecutive.
-- Assumes nothing.
use mathlib.Core.Path.{◌≡◌, refl}
use mathlib.Core.Logic.{◌↔◌}
use mathlib.Core.Bool.{Bool, true, false, not, ◌&&◌, false≢true}
use Prim.Native.Nat.{ℕ, zero, suc, ◌+◌, ◌-◌, ◌<◌, ◌≤◌, min}
use native.Mathlib.Omega.{arith}
use borrow.Author.Tests.{eqb-false, ne_eqb, not-true}
use lib.Dec.{eqb}
use Rattle.base.specs.Counting.{sum}
use Rattle.windows.specs.Plans.{minutes_of, start_of, end_of, IsStart, IsEnd, Consecutive}
use Rattle.base.proofs.Sums.{le_or_lt, same_cases}
use Rattle.windows.proofs.PlanFacts.{minutes_within, minutes_fill, start_is, end_is, start_to_end}
use Rattle.planner.specs.BrokenEntries.{is_broken, Broken}

-- a place that has every minute from a up to b has at least so many
minutes_from : (h : ℕ) (m : ℕ → ℕ) (i a b : ℕ) → ((t : ℕ) → t < h → a ≤ t → t < b → m t ≡ i) → min h b - a ≤ minutes_of h m i
unfolding sum
minutes_from zero m i a b each = omega arith
minutes_from (suc h) m i a b each =
    let before = minutes_from h m i a b (λ t below. each t (omega arith)) in
    same_cases (m h) i
    (λ _ one. omega arith)
    (λ ne none.
    le_or_lt a h
    (λ l. le_or_lt b h (λ u. omega arith) (λ u. absurd (ne (each h (omega arith) l u))))
    (λ l. omega arith))

module _ (h : ℕ) (m : ℕ → ℕ) (i : ℕ) (some : 1 ≤ minutes_of h m i) where
  abbrev start : ℕ
  start = start_of h m i

  abbrev end : ℕ
  end = end_of h m i

  -- it has a start and an end, and all its minutes lie between
  begins : IsStart h m i start
  begins = start_is h m i some

  ends : IsEnd h m i end
  ends = end_is h m i some

  within : (t : ℕ) → t < h → m t ≡ i → (start ≤ t) × (t < end)
  within = start_to_end h m i start end begins ends

  -- as many minutes as there are from the start to the end are consecutive
  full_run : start + minutes_of h m i ≡ end → Consecutive h m i start end
  full_run full =
      record { each = λ t _ l u. minutes_fill h m i start end within ends.within (omega arith) t l u; only = within }

  -- consecutive minutes are as many as there are from the start to the end
  run_full : (s e : ℕ) → Consecutive h m i s e → start + minutes_of h m i ≡ end
  run_full s e run =
      let one = ends.after_one in
      let in_day = ends.within in
      let first = run.only start begins.below begins.minute in
      let last = run.only (end - 1) (omega arith) ends.minute in
      let many = minutes_from h m i start end (λ t below l u. run.each t below (omega arith) (omega arith)) in
      omega (arith, minutes_within h m i start end within)

  pub broken_exactly : (whole : ℕ → Bool) → (is_broken whole h m i ≡ true) ↔ Broken whole h m i
  broken_exactly whole = (there (whole i) refl, back)
    where
      there : (t : Bool) → whole i ≡ t → t && not (eqb (start + minutes_of h m i) end) ≡ true → Broken whole h m i
      there true is e = (is, λ s x run. eqb-false _ _ (not-true _ e) (run_full s x run))
      there false is e = absurd (false≢true e)

      back : Broken whole h m i → is_broken whole h m i ≡ true
      back (is, apart) = rw (is, ne_eqb (start + minutes_of h m i) end (λ full. apart start end (full_run full)))
