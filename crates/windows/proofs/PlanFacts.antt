-- Facts about plans alone: their mirrors, their starts and ends, other windows, and the room that a plan needs.
-- Assumes nothing.
use mathlib.Core.Path.{◌≡◌, refl, sym, ap, ◌∙◌, fun_ext}
use mathlib.Core.Bool.{cond, ◌&&◌}
use mathlib.Core.List.{List, [], ◌∷◌}
use Prim.Native.Nat.{ℕ, zero, suc, ◌+◌, ◌-◌, ◌<◌, ◌≤◌, min}
use native.Mathlib.Omega.{arith}
use borrow.Author.Tests.{eqb-true, eq-eqb, lt-ltb, le-ltb}
use lib.Dec.{eqb, leb, ltb}
use lib.ListN.{length, get_or}
use Rattle.base.specs.Counting.{same}
use Rattle.windows.specs.Windows.{Windows, Inside, with_windows}
use Rattle.windows.specs.Plans.{minutes_of, Plan, start_of, end_of, IsStart, IsEnd, Consecutive, idle, places_in, PlanBytes}
use Rattle.windows.specs.Mirrors.{mirror, mirror_plan, mirror_bytes}
use Rattle.base.proofs.Sums.{le_or_lt, same_cases, same_ne, between_is, sum_le, sum_lt, sum_cong, sum_zero, sum_reverse, count_between}
use Rattle.base.proofs.Listed.{list_length, list_at}
use Rattle.base.proofs.Searches.{First, first_below_lem, last_within, first_last, reverse_twice}

-- Mirrors.

-- a place has as many minutes in the mirror
mirror_minutes : (h : ℕ) (m : ℕ → ℕ) (i : ℕ) → minutes_of h (mirror_plan h m) i ≡ minutes_of h m i
mirror_minutes h m i = sum_reverse h (λ t. same (m t) i)

-- the mirror of a plan is a plan for the mirrored windows
pub mirror_plan_lem : (w : Windows) (m : ℕ → ℕ) → Plan w m → Plan (mirror w) (mirror_plan w.h m)
mirror_plan_lem w m plan =
    record {
      exact = λ i place. mirror_minutes w.h m i ∙ plan.exact i place;
      inside =
          λ i t place below e.
          let z = plan.inside i (w.h - suc t) place (omega arith) e in
          rw (lt-ltb i w.n place) (omega arith, omega arith);
    }

-- windows inside the day are the mirror of their mirror
pub mirror_mirror : (w : Windows) → ((i : ℕ) → i < w.n → w.r i ≤ w.h) → ((i : ℕ) → i < w.n → w.d i ≤ w.h) → mirror (mirror w) ≡ w
mirror_mirror w release deadline =
    λ j.
    record {
      h = w.h;
      n = w.n;
      r = fun_ext (λ i. twice i (w.r i) (w.d i) (release i)) j;
      d = fun_ext (λ i. twice i (w.d i) (w.r i) (deadline i)) j;
      p = w.p;
    }
  where
    back : (x z : ℕ) → x ≤ z → z - (z - x) ≡ x
    back x z h = omega arith

    twice : (i x y : ℕ) → (i < w.n → x ≤ w.h)
        → cond (ltb i w.n) (w.h - cond (ltb i w.n) (w.h - x) y) (cond (ltb i w.n) (w.h - y) x) ≡ x
    twice i x y h = le_or_lt w.n i (λ l. rw (le-ltb i w.n l)) (λ l. rw (lt-ltb i w.n l) (back x w.h (h l)))

-- and so is a plan, in the day's minutes
pub mirror_twice : (h : ℕ) (m : ℕ → ℕ) (t : ℕ) → t < h → mirror_plan h (mirror_plan h m) t ≡ m t
mirror_twice h m t below = ap m (reverse_twice h t below)

-- a start in the mirror is an end
mirror_start : (h : ℕ) (m : ℕ → ℕ) (i : ℕ) → start_of h (mirror_plan h m) i ≡ h - end_of h m i
mirror_start h m i = first_last h (λ t. eqb (m t) i)

-- Starts and ends.

module _ (h : ℕ) (m : ℕ → ℕ) (i : ℕ) where
  -- minutes of a place, all of which lie in [a, b)
  module _ (a b : ℕ) (within : (t : ℕ) → t < h → m t ≡ i → (a ≤ t) × (t < b)) where
    counted : (t : ℕ) → t < h → same (m t) i ≤ cond (leb a t && ltb t b) 1 0
    counted t below =
        same_cases (m t) i
        (λ e is. let z = within t below e in omega (arith, between_is a b t (suc t) 1 z.0 z.1))
        (λ _ is. omega arith)

    -- they are at most b - a
    pub minutes_within : minutes_of h m i ≤ b - a
    minutes_within = omega (arith, sum_le h _ _ counted, count_between h a b)

    -- if they are so many, they are all of [a, b)
    pub minutes_fill : b ≤ h → b - a ≤ minutes_of h m i → (t : ℕ) → a ≤ t → t < b → m t ≡ i
    minutes_fill in_day many t l r =
        same_cases (m t) i
        (λ e _. e)
        (λ _ none.
        let less : same (m t) i < cond (leb a t && ltb t b) 1 0 = omega (arith, between_is a b t (suc t) 1 l r) in
        absurd (omega (arith, sum_lt h _ _ counted t (omega arith) less, count_between h a b)))

  -- a place with minutes has a start
  pub start_is : 1 ≤ minutes_of h m i → IsStart h m i (start_of h m i)
  start_is some = record { below = below; minute = eqb-true _ _ (first.passes below); none_before = none }
    where
      first : First h (λ t. eqb (m t) i) (start_of h m i)
      first = first_below_lem h (λ t. eqb (m t) i)

      none : (t : ℕ) → t < start_of h m i → m t ≡ i → ⊥
      none t l e = first.none_before t l (eq-eqb (m t) i e)

      below : start_of h m i < h
      below =
          le_or_lt h (start_of h m i)
          (λ l. absurd (omega (arith, sum_zero h _ (λ t b. same_ne (m t) i (none t (omega arith))))))
          (λ l. l)

-- and an end, the mirror of the mirrored start
pub end_is : (h : ℕ) (m : ℕ → ℕ) (i : ℕ) → 1 ≤ minutes_of h m i → IsEnd h m i (end_of h m i)
end_is h m i some =
    let s = rw (mirror_start h m i) at (start_is h (mirror_plan h m) i (omega (arith, mirror_minutes h m i))) in
    let within = last_within h (λ t. eqb (m t) i) in
    let e : h - suc (h - end_of h m i) ≡ end_of h m i - 1 = omega (arith, s.below) in
    record {
      after_one = omega (arith, s.below);
      within = within;
      minute = rw (← e) s.minute;
      none_after = λ t l b q. s.none_before (h - suc t) (omega arith) (mirror_twice h m t b ∙ q);
    }

-- all minutes of a place lie from its start to its end
pub start_to_end : (h : ℕ) (m : ℕ → ℕ) (i s e : ℕ) → IsStart h m i s → IsEnd h m i e
    → (t : ℕ) → t < h → m t ≡ i → (s ≤ t) × (t < e)
start_to_end h m i s e start end t below q =
    (le_or_lt s t (λ l. l) (λ l. absurd (start.none_before t l q)), le_or_lt e t (λ l. absurd (end.none_after t l below q)) (λ l. l))

-- consecutive minutes begin at the start
pub run_start : (h : ℕ) (m : ℕ → ℕ) (i s a b : ℕ) → IsStart h m i s → Consecutive h m i a b → a < b → a ≡ s
run_start h m i s a b start run some =
    let from = (run.only s start.below start.minute).0 in
    let here = run.each a (omega (arith, start.below)) (omega arith) some in
    le_or_lt s a (λ l. omega arith) (λ l. absurd (start.none_before a l here))

-- Plans.

-- two that agree in their first t minutes give an entry equally many of them
pub minutes_same : (t : ℕ) (m x : ℕ → ℕ) (i : ℕ) → ((j : ℕ) → j < t → m j ≡ x j) → minutes_of t m i ≡ minutes_of t x i
minutes_same t m x i agree = sum_cong t _ _ (λ j l. ap (λ (k : ℕ). same k i) (agree j l))

-- what agrees with a plan in the day's minutes is one
pub plan_same : (w : Windows) (m x : ℕ → ℕ) → ((t : ℕ) → t < w.h → x t ≡ m t) → Plan w m → Plan w x
plan_same w m x agrees plan =
    record {
      exact = λ i place. minutes_same w.h x m i agrees ∙ plan.exact i place;
      inside = λ i t place below e. plan.inside i t place below (sym (agrees t below) ∙ e);
    }

-- a plan whose minutes lie in other windows is a plan in those
pub other_windows : (w : Windows) (r d m : ℕ → ℕ) → Plan w m
    → ((i t : ℕ) → i < w.n → t < w.h → m t ≡ i → (r i ≤ t) × (t < d i)) → Plan (with_windows w r d) m
other_windows w r d m plan inside = record { exact = plan.exact; inside = inside }

-- a plan for windows is one for those that they lie inside
pub widen : (w : Windows) (r d m : ℕ → ℕ) → Inside (with_windows w r d) w → Plan (with_windows w r d) m → Plan w m
widen w r d m narrow plan =
    other_windows (with_windows w r d) w.r w.d m plan
    (λ i t place below e.
    let z = plan.inside i t place below e in
    (omega (arith, narrow.r i place), omega (arith, narrow.d i place)))

module _ (w : Windows) (m : ℕ → ℕ) (plan : Plan w m) (i : ℕ) (place : i < w.n) where
  -- p minutes in a window of p minutes are all of it
  pub filled : w.r i + w.p i ≡ w.d i → w.d i ≤ w.h → (t : ℕ) → w.r i ≤ t → t < w.d i → m t ≡ i
  filled full in_day =
      minutes_fill w.h m i (w.r i) (w.d i) (λ t. plan.inside i t place) in_day (omega (arith, plan.exact i place))

  module _ (some : 1 ≤ w.p i) where
    -- its minutes, if consecutive, end by its d: from their first on, and below d, there must be room for them
    pub run_due : (s : ℕ) → Consecutive w.h m i s (s + w.p i) → s + w.p i ≤ w.d i
    run_due s run =
        let end = min (s + w.p i) (w.d i) in
        omega (arith, plan.exact i place, some, minutes_within w.h m i s end inside)
      where
        inside : (t : ℕ) → t < w.h → m t ≡ i → (s ≤ t) × (t < min (s + w.p i) (w.d i))
        inside t below e =
            let a = run.only t below e in
            let b = plan.inside i t place below e in
            (a.0, omega (arith, a.1, b.1))

    -- a window in a plan has room for its entry's minutes
    pub plan_room : w.r i + w.p i ≤ w.d i
    plan_room = omega (arith, plan.exact i place, minutes_within w.h m i (w.r i) (w.d i) (λ t. plan.inside i t place))

    -- an entry's start and end in a plan
    pub plan_start : IsStart w.h m i (start_of w.h m i)
    plan_start = start_is w.h m i (omega (arith, plan.exact i place))

    pub plan_end : IsEnd w.h m i (end_of w.h m i)
    plan_end = end_is w.h m i (omega (arith, plan.exact i place))

    -- they lie in the window
    pub start_released : w.r i ≤ start_of w.h m i
    start_released = (plan.inside i (start_of w.h m i) place plan_start.below plan_start.minute).0

    pub end_due : end_of w.h m i ≤ w.d i
    end_due =
        let one = plan_end.after_one in
        let below : end_of w.h m i - 1 < w.h = omega (arith, plan_end.within) in
        omega (arith, (plan.inside i (end_of w.h m i - 1) place below plan_end.minute).1)

-- Bytes of plans.

-- a byte that is read is the place that has its minute
pub place_read : (bytes : List ℕ) (t : ℕ) → t < length bytes → get_or bytes t 0 ≡ places_in bytes t
place_read [] t h = absurd (omega arith)
place_read (x ∷ bytes) zero h = refl
place_read (x ∷ bytes) (suc t) h = place_read bytes t (omega arith)

-- the mirror of a plan's bytes has the places of its mirror
pub mirror_at : (h : ℕ) (bs : List ℕ) (t : ℕ) → t < h → places_in (mirror_bytes h bs) t ≡ mirror_plan h (places_in bs) t
mirror_at h bs = list_at h (mirror_plan h (places_in bs)) idle

-- so it is a plan's bytes for the mirrored windows
pub mirror_bytes_lem : (w : Windows) (bs : List ℕ) → PlanBytes w bs → PlanBytes (mirror w) (mirror_bytes w.h bs)
mirror_bytes_lem w bs bytes =
    record {
      long = list_length w.h _;
      places = λ t below. rw (mirror_at w.h bs t below) (bytes.places (w.h - suc t) (omega arith));
      plan = plan_same (mirror w) _ _ (mirror_at w.h bs) (mirror_plan_lem w (places_in bs) bytes.plan);
    }
