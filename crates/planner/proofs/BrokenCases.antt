-- Starts, ends and broken entries of a plan, as code finds them.
-- Assumes nothing.
use mathlib.Core.Path.{◌≡◌, refl, sym, ap, ◌∙◌}
use mathlib.Core.Bool.{Bool, true, false, cond, not}
use mathlib.Core.List.{List}
use Prim.Native.Nat.{ℕ, zero, suc, ◌+◌, ◌<◌, ◌≤◌}
use native.Mathlib.Numerals.{add-one}
use native.Mathlib.Omega.{arith}
use borrow.Author.Tests.{eq-eqb, eqb-true, not-true}
use lib.Dec.{eqb}
use lib.ListN.{length, get_or, take}
use lib.Seq.{length-take-le}
use Rattle.base.specs.Counting.{last_below, sum}
use Rattle.windows.specs.Windows.{Windows}
use Rattle.windows.specs.Plans.{places_in, start_of, end_of}
use Rattle.std.specs.Option.{MatchOption, unwrap_or}
use Rattle.std.proofs.Common.{Option, None, Some}
use Rattle.base.proofs.Searches.{first_below_lem, Passed, passed_found, passed_all}
use Rattle.base.proofs.Sums.{le_or_lt, not_passed}
use Rattle.windows.proofs.PlanFacts.{minutes_within, place_read}
use Rattle.planner.specs.BrokenEntries.{is_broken, broken_in}
use Rattle.planner.specs.Internal.{HoldsPlan, one_broken}

-- 1 or 0
at_most_one : (t : Bool) (b : ℕ) → b ≡ cond t 1 0 → b ≤ 1
at_most_one true b e = omega (arith, e)
at_most_one false b e = omega (arith, e)

-- the last number below n that passes a test is known by the numbers after it
last_none : (n : ℕ) (f : ℕ → Bool) → ((i : ℕ) → i < n → f i ≡ true → ⊥) → last_below n f ≡ 0
unfolding last_below
last_none zero f none = refl
last_none (suc n) f none =
    let here : f n ≡ false = not_passed (f n) (none n (omega arith)) in
    rw here (last_none n f (λ i l. none i (omega arith)))

last_at : (n : ℕ) (f : ℕ → Bool) (t : ℕ) → t < n → f t ≡ true → ((i : ℕ) → t < i → i < n → f i ≡ true → ⊥) → last_below n f ≡ t + 1
unfolding last_below
last_at zero f t below at after = absurd (omega arith)
last_at (suc n) f t below at after =
    le_or_lt n t
    (λ l. let z : n ≡ t = omega arith in rw (z, at) (sym (add-one t)))
    (λ l.
    let here : f n ≡ false = not_passed (f n) (after n l (omega arith)) in
    rw here (last_at n f t l at (λ i u v. after i u (omega arith))))

-- A search for place k among the minutes xs of a plan, by the index that it answers, if any.
module _ (xs : List ℕ) (k : ℕ) where
  -- the minutes of the day
  abbrev h : ℕ
  h = length xs

  abbrev is_minute : ℕ → Bool
  is_minute t = eqb (places_in xs t) k

  minute : (t : ℕ) → t < h → get_or xs t 0 ≡ k → is_minute t ≡ true
  minute t below e = eq-eqb _ _ (sym (place_read xs t below) ∙ e)

  another : (t : ℕ) → t < h → (get_or xs t 0 ≡ k → ⊥) → is_minute t ≡ true → ⊥
  another t below other e = other (place_read xs t below ∙ eqb-true _ _ e)

  -- the first
  pub found_first : (r : Option ℕ) → MatchOption r ((t : ℕ) → t < h → get_or xs t 0 ≡ k → ⊥)
      (λ t. (t < h) × (get_or xs t 0 ≡ k) × ((i : ℕ) → i < t → get_or xs i 0 ≡ k → ⊥))
      → unwrap_or r h ≡ start_of h (places_in xs) k
  found_first None none =
      let passed : Passed h is_minute h =
      record { within = omega arith; none_before = λ i l. another i l (none i l) } in
      sym (passed_all h is_minute h passed (omega arith))
  found_first (Some t) (below, at, before) =
      let passed : Passed h is_minute t =
      record { within = omega arith; none_before = λ i l. another i (omega arith) (before i l) } in
      sym (passed_found h is_minute t passed (minute t below at))

  -- the last
  pub found_last : (r : Option ℕ) → MatchOption r ((t : ℕ) → t < h → get_or xs t 0 ≡ k → ⊥)
      (λ t. (t < h) × (get_or xs t 0 ≡ k) × ((i : ℕ) → t < i → i < h → get_or xs i 0 ≡ k → ⊥))
      → (end : ℕ) → MatchOption r (end ≡ 0) (λ t. end ≡ t + 1) → end ≡ end_of h (places_in xs) k
  found_last None none end is = is ∙ sym (last_none h is_minute (λ t l. another t l (none t l)))
  found_last (Some t) (below, at, after) end is =
      is ∙ sym (last_at h is_minute t below (minute t below at) (λ i u l. another i l (after i u l)))

-- one entry
module _ {w : Windows} {bytes : List ℕ} (has : HoldsPlan w bytes) {k : ℕ} (place : k < w.n) where
  abbrev m : ℕ → ℕ
  m = places_in (take w.h bytes)

  pub minutes_in_day : w.p k ≤ w.h
  minutes_in_day = omega (arith, has.plan.exact k place, minutes_within w.h m k 0 w.h (λ t below _. (omega arith, below)))

  pub start_in_day : start_of (length (take w.h bytes)) m k ≤ w.h
  start_in_day = rw (length-take-le w.h bytes has.room) (first_below_lem w.h _).within

  pub not_whole : (whole : Bool) → not whole ≡ true → 0 ≡ one_broken (λ _. whole) w bytes k
  not_whole whole e = rw (not-true whole e) refl

-- the broken entries among the first i
pub record BrokenSoFar (whole : ℕ → Bool) (w : Windows) (bytes : List ℕ) (x i : ℕ) : Type 0 where
  pub few : w.n ≤ 64
  pub passed : i ≤ w.n
  pub small : x ≤ i
  pub is : x ≡ sum i (one_broken whole w bytes)

module _ {whole : ℕ → Bool} {w : Windows} {bytes : List ℕ} (has : HoldsPlan w bytes) where
  pub counted_none : BrokenSoFar whole w bytes 0 0
  unfolding sum
  counted_none = record { few = has.few; passed = omega arith; small = omega arith; is = refl }

  module _ {x i : ℕ} (so : BrokenSoFar whole w bytes x i) where
    pub counted_next : i < w.n → {b : ℕ} → b ≡ one_broken whole w bytes i → BrokenSoFar whole w bytes (x + b) (i + 1)
    unfolding sum
    counted_next below {b} e =
        record {
          few = so.few;
          passed = omega (arith, below);
          small = omega (arith, so.small, at_most_one (is_broken whole w.h (places_in (take w.h bytes)) i) b e);
          is = rw (add-one, e) (ap (λ (y : ℕ). y + one_broken whole w bytes i) so.is);
        }

    pub counted_all : w.n ≤ i → x ≡ broken_in whole w (places_in (take w.h bytes))
    unfolding broken_in
    counted_all end = let z : i ≡ w.n = omega (arith, so.passed) in so.is ∙ ap (λ (n : ℕ). sum n (one_broken whole w bytes)) z
