-- Least ends in closed form, in each case that the code meets.
-- Assumes nothing.
use mathlib.Core.Path.{◌≡◌, refl, sym, ap, ◌∙◌}
use mathlib.Core.Bool.{cond}
use mathlib.Core.List.{List}
use Prim.Native.Nat.{ℕ, suc, ◌+◌, ◌-◌, ◌*◌, ◌<◌, ◌≤◌, max}
use native.Mathlib.Numerals.{add-one}
use native.Mathlib.Omega.{arith}
use borrow.Author.Tests.{lt-ltb, le-ltb}
use lib.Dec.{leb, ltb}
use lib.ListN.{length, set, replicate, length-set, length-replicate, get_or-replicate}
use Rattle.base.specs.Counting.{sum, EachOnce}
use Rattle.base.proofs.Sums.{le_or_lt, same_cases}
use Rattle.base.proofs.Permutations.{once_in, once_has, once_one, once_sum}
use Rattle.base.proofs.Listed.{list_is}
use Rattle.list.specs.DayLists.{by_place}
use Rattle.order.specs.Orders.{value_at}
use Rattle.windows.specs.Windows.{Windows}
use Rattle.windows.specs.RunningSums.{LatestReleaseFirst, entered}
use Rattle.windows.proofs.Puts.{put_cases}
use Rattle.windows.proofs.ArrayCases.{set_put}
use Rattle.edges.specs.Ends.{largest, closed_end}
use Rattle.edges.specs.Internal.{MinutesBy, DueBy, work_end, latest_end, asked_after, asked_at}
use Rattle.edges.specs.Internal.{EndsBy, Raises, FirstEnds, AtPlaces}
use Rattle.edges.proofs.EndWalks.{ends_closed}

-- the sum of the first i entries
module _ (w : Windows) (b : ℕ) where
  pub due_start : DueBy w 0 b 0
  unfolding sum
  due_start = record { is = refl; small = omega arith }

  pub due_next : (kept i x : ℕ) → DueBy w i b kept → MinutesBy b (w.d i) (w.p i) x → DueBy w (i + 1) b (kept + x)
  unfolding sum
  due_next kept i x so adds =
      record { is = rw add-one (omega (arith, so.is, adds.is)); small = omega (arith, so.small, adds.small) }

-- an array's number where one was stored, and elsewhere
stored : (xs : List ℕ) (i v : ℕ) → i < length xs → (P : ℕ → Type 0) (k : ℕ) → (k ≡ i → P v) → ((k ≡ i → ⊥) → P (value_at xs k))
    → P (value_at (set xs i v) k)
stored xs i v fits P k here there = rw (set_put xs i v fits k) (put_cases i v (value_at xs) P k here there)

-- the numbers of the first m positions at their places
module _ (n : ℕ) (o : ℕ → ℕ) (xs : List ℕ) where
  pub places_none : AtPlaces n o xs 0 (replicate 64 0)
  places_none =
      record { long = length-replicate {A = ℕ} 64 0; each = λ x l. absurd (omega arith); rest = λ i _ l. get_or-replicate 64 i 0 0 l }

  pub places_next : (m : ℕ) (ys : List ℕ) → n ≤ 64 → EachOnce n o → m < n → AtPlaces n o xs m ys
      → AtPlaces n o xs (m + 1) (set ys (o m) (value_at xs m))
  places_next m ys few once below so =
      let v = value_at xs m in
      let place = once_in n o once m below in
      let fits : o m < length ys = omega (arith, place, so.long) in
      record {
        long = length-set ys (o m) v ∙ so.long;
        each =
            λ x l.
            stored ys (o m) v fits (λ z. z ≡ value_at xs x) (o x)
            (λ q. ap (value_at xs) (sym (once_one n o once x m (omega arith) below q)))
            (λ ne. same_cases x m (λ q _. absurd (ne (ap o q))) (λ q _. so.each x (omega (arith, l, q))));
        rest =
            λ i l u.
            stored ys (o m) v fits (λ z. z ≡ 0) i (λ q. absurd (omega (arith, q, place))) (λ _. so.rest i l u);
      }

-- One right end b: the walk has come down to position x.
pub record Raising (w : Windows) (o : ℕ → ℕ) (b : ℕ) (old new : List ℕ) (kept latest x : ℕ) : Type 0 where
  pub long : length new ≡ 64
  pub kept_is : kept ≡ entered w o b w.p x
  pub kept_small : kept ≤ 65535 * 64
  pub latest_is : latest ≡ latest_end w o b x
  pub latest_small : latest ≤ 65535 * 65
  pub passed : (y : ℕ) → x ≤ y → y < w.n → value_at new y ≡ max (value_at old y) (asked_at w o b y)
  pub rest : (y : ℕ) → y < x → value_at new y ≡ value_at old y

module _ (w : Windows) (o : ℕ → ℕ) (b : ℕ) where
  latest_none : latest_end w o b w.n ≡ 0
  unfolding latest_end largest
  latest_none = let z : w.n - w.n ≡ 0 = omega arith in rw z refl

  latest_next : (x : ℕ) → x < w.n → latest_end w o b x ≡ max (latest_end w o b (suc x)) (work_end w o b x)
  unfolding latest_end largest
  latest_next x below =
      let more : w.n - x ≡ suc (w.n - suc x) = omega arith in
      let back : w.n - suc (w.n - suc x) ≡ x = omega arith in
      let f : ℕ → ℕ = λ y. work_end w o b (w.n - suc y) in
      ap (λ (m : ℕ). largest 0 m f) more ∙ ap (λ (y : ℕ). max (largest 0 (w.n - suc x) f) (work_end w o b y)) back

  entered_next : (x : ℕ) → entered w o b w.p (suc x) ≡ entered w o b w.p x + cond (leb (w.d (o x)) b) (w.p (o x)) 0
  unfolding sum
  entered_next x = refl

  -- before the first step
  pub raising_start : (old : List ℕ) (kept : ℕ) → w.n ≤ 64 → EachOnce w.n o → length old ≡ 64 → DueBy w w.n b kept
      → Raising w o b old old kept 0 w.n
  raising_start old kept few once long due =
      record {
        long = long;
        kept_is = due.is ∙ sym (once_sum w.n o once (λ i. cond (leb (w.d i) b) (w.p i) 0));
        kept_small = omega (arith, due.small);
        latest_is = sym latest_none;
        latest_small = omega arith;
        passed = λ y l u. absurd (omega arith);
        rest = λ y l. refl;
      }

  module _ (old new : List ℕ) (kept latest x : ℕ) (so : Raising w o b old new kept latest x) where
    -- a step down
    module _ (within : x ≤ w.n) (few : w.n ≤ 64) (some : 0 < x) (m : ℕ) (adds : MinutesBy b (w.d (o (x - 1))) (w.p (o (x - 1))) m) where
      abbrev u : ℕ
      u = x - 1

      next : suc u ≡ x
      next = omega arith

      kept_before : kept ≡ entered w o b w.p (suc u)
      kept_before = so.kept_is ∙ ap (entered w o b w.p) (sym next)

      pub raising_less : m ≤ kept
      raising_less = omega (arith, kept_before, entered_next u, adds.is)

      pub raising_next : (later v : ℕ) → later ≡ max latest (w.r (o u) + kept) → w.r (o u) ≤ 65535
          → v ≡ max (value_at new u) (asked_after b later (w.d (o u)) (w.p (o u))) → Raising w o b old (set new u v) (kept - m) later u
      raising_next later v ends small e =
          let fits : u < length new = omega (arith, so.long) in
          let at : later ≡ latest_end w o b u =
          omega (
            arith,
            ends,
            so.latest_is,
            ap (latest_end w o b) next,
            kept_before,
            latest_next u (omega arith),
          ) in
          record {
            long = length-set new u v ∙ so.long;
            kept_is = omega (arith, kept_before, entered_next u, adds.is);
            kept_small = omega (arith, so.kept_small);
            latest_is = at;
            latest_small = omega (arith, ends, small, so.latest_small, so.kept_small);
            passed =
                λ y l below.
                stored new u v fits (λ z. z ≡ max (value_at old y) (asked_at w o b y)) y
                (λ q. rw q
                (e
                ∙ (ap (λ (z : ℕ). max z (asked_after b later (w.d (o u)) (w.p (o u)))) (so.rest u (omega arith))
                ∙ ap (λ (z : ℕ). max (value_at old u) (asked_after b z (w.d (o u)) (w.p (o u)))) at)))
                (λ ne. so.passed y (omega (arith, l, ne)) below);
            rest =
                λ y l.
                stored new u v fits (λ z. z ≡ value_at old y) y (λ q. absurd (omega (arith, q, l))) (λ _. so.rest y (omega (arith, l)));
          }

-- The right ends of the first j places.
module _ (w : Windows) (o : ℕ → ℕ) where
  pub ends_next : (j : ℕ) (xs ys : List ℕ) → EndsBy w o j xs → Raises w o (w.d j) xs ys → EndsBy w o (j + 1) ys
  unfolding largest
  ends_next j xs ys so raises =
      record {
        long = raises.long;
        each = λ x l. rw add-one (raises.each x l ∙ ap (λ (z : ℕ). max z (asked_at w o (w.d j) x)) (so.each x l));
      }

  -- each at its place
  pub ends_all : (xs ys : List ℕ) → LatestReleaseFirst w o → EndsBy w o w.n xs → AtPlaces w.n o xs w.n ys
      → ys ≡ by_place w.n (closed_end w)
  ends_all xs ys order so at =
      sym (list_is 64 (λ i. cond (ltb i w.n) (closed_end w i) 0) 0 ys at.long (λ i u. le_or_lt w.n i
      (λ h. rw (le-ltb i w.n h) (sym (at.rest i h u)))
      (λ h.
      let z = once_has w.n o order.once i h in
      rw (lt-ltb i w.n h)
      (sym
      (ap (value_at ys) (sym z.2)
      ∙ (at.each z.0 z.1
      ∙ (so.each z.0 z.1 ∙ (ends_closed w o order z.0 z.1 ∙ ap (closed_end w) z.2))))))))

-- no right ends: the first ends
pub ends_first : (w : Windows) (o : ℕ → ℕ) (xs : List ℕ) → FirstEnds w o w.n xs → EndsBy w o 0 xs
unfolding largest
ends_first w o xs first = record { long = first.long; each = first.each }
