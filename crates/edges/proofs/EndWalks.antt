-- For one right end, what the walk over the left ends asks of each entry is the largest that the left ends ask of it.
-- Assumes nothing.
use mathlib.Core.Path.{◌≡◌, ap}
use Prim.Native.Nat.{ℕ, zero, suc, ◌+◌, ◌-◌, ◌<◌, ◌≤◌}
use native.Mathlib.Omega.{arith}
use Rattle.base.proofs.Sums.{le_or_lt, between_is, between_le}
use Rattle.base.proofs.Permutations.{once_in, once_has}
use Rattle.windows.specs.Windows.{Windows}
use Rattle.windows.specs.Intervals.{work}
use Rattle.windows.specs.RunningSums.{LatestReleaseFirst}
use Rattle.windows.proofs.Endpoints.{work_wider}
use Rattle.windows.proofs.RunningSums.{falls, entered_within, entered_all}
use Rattle.edges.specs.Ends.{largest, end_after, asked_of, closed_end}
use Rattle.edges.specs.Internal.{work_end, latest_end, asked_at, end_at}
use Rattle.edges.proofs.Largest.{largest_over, largest_cases, largest_under, largest_same}
use Rattle.edges.proofs.EndLaws.{asked_under, asked_is}

module _ (w : Windows) (o : ℕ → ℕ) (b : ℕ) where
  latest_over : (x y : ℕ) → x ≤ y → y < w.n → work_end w o b y ≤ latest_end w o b x
  unfolding latest_end
  latest_over x y from below =
      let back : w.n - suc (w.n - suc y) ≡ y = omega arith in
      let over = largest_over 0 (w.n - x) (λ z. work_end w o b (w.n - suc z)) (w.n - suc y) (omega arith) in
      omega (arith, over, ap (work_end w o b) back)

  latest_cases : (P : ℕ → Type 0) (x : ℕ) → P 0 → ((y : ℕ) → x ≤ y → y < w.n → P (work_end w o b y)) → P (latest_end w o b x)
  unfolding latest_end
  latest_cases P x none each =
      largest_cases 0 P (w.n - x) (λ z. work_end w o b (w.n - suc z)) none (λ z l. each (w.n - suc z) (omega arith) (omega arith))

module _ (w : Windows) (o : ℕ → ℕ) (order : LatestReleaseFirst w o) (b : ℕ) where
  -- the work from the r at position y on is done no sooner than what was kept there
  kept_within : (y : ℕ) → y < w.n → work_end w o b y ≤ w.r (o y) + work w (w.r (o y)) b
  kept_within y below =
      omega (arith, entered_within w o order b (w.r (o y)) (suc y) below (λ z l. falls w o order z y (omega arith) below))

  -- and no later than the latest end from there on: at the last position with an r of at least a, all its work is kept
  module _ (x a : ℕ) where
    done_last : (y : ℕ) → y < w.n → x ≤ y → a ≤ w.r (o y) → ((z : ℕ) → suc y ≤ z → z < w.n → w.r (o z) < a)
        → a + work w a b ≤ latest_end w o b x
    done_last y below from high under =
        let over : (z : ℕ) → z < suc y → a ≤ w.r (o z) = λ z l. omega (arith, high, falls w o order z y (omega arith) below) in
        omega (arith, high, entered_all w o order b a (suc y) below over under w.p, latest_over w o b x y from below)

    done_by : (m y : ℕ) → y + suc m ≡ w.n → x ≤ y → a ≤ w.r (o y) → a + work w a b ≤ latest_end w o b x
    done_by zero y end from high = done_last y (omega arith) from high (λ z l u. absurd (omega (arith, end, l, u)))
    done_by (suc m) y end from high =
        le_or_lt a (w.r (o (suc y)))
        (λ h. done_by m (suc y) (omega arith) (omega arith) h)
        (λ h. done_last y (omega arith) from high (λ z l u. omega (arith, h, falls w o order (suc y) z l u)))

    done_from : (y : ℕ) → y < w.n → x ≤ y → a ≤ w.r (o y) → a + work w a b ≤ latest_end w o b x
    done_from y below = done_by (w.n - suc y) y (omega arith)

  module _ (x : ℕ) (below : x < w.n) where
    -- no left end asks for more
    covers : (i : ℕ) → i < w.n → end_after w (o x) i b ≤ latest_end w o b x + w.p (o x)
    covers i place =
        le_or_lt (w.r (o x)) (w.r i)
        (λ h.
        let wider = work_wider w (w.r i) b (w.r (o x)) b h (omega arith) in
        omega (arith, h, wider, done_from x (w.r (o x)) x below (omega arith) (omega arith)))
        (λ h.
        let z = once_has w.n o order.once i place in
        let r_is = ap w.r z.2 in
        let from : x ≤ z.0 =
        le_or_lt x z.0 (λ l. l) (λ l. absurd (omega (arith, h, r_is, falls w o order z.0 x (omega (arith, l)) below))) in
        omega (arith, h, done_from x (w.r i) z.0 z.1 from (omega (arith, r_is))))

    abbrev most : ℕ
    most = largest 0 w.n (asked_of w (o x) b)

    abbrev latest : ℕ
    latest = latest_end w o b x

    -- and one asks for as much
    reached : b < w.d (o x) → b < latest + w.p (o x) → latest + w.p (o x) ≤ most
    reached late = latest_cases w o b (λ z. b < z + w.p (o x) → z + w.p (o x) ≤ most) x
        (λ past. omega (arith, from x (omega arith) below (omega arith)))
        from
      where
        from : (y : ℕ) → x ≤ y → y < w.n → b < work_end w o b y + w.p (o x) → work_end w o b y + w.p (o x) ≤ most
        from y l u past =
            let within = kept_within y u in
            let down = falls w o order x y l u in
            let end : work_end w o b y + w.p (o x) ≤ end_after w (o x) (o y) b = omega (arith, within, down) in
            let asked = asked_is w (o x) b (o y) late (omega (arith, past, end)) in
            omega (arith, end, asked, largest_over 0 w.n (asked_of w (o x) b) (o y) (once_in w.n o order.once y u))

    asked_largest : asked_at w o b x ≡ most
    asked_largest =
        let at_most : asked_at w o b x ≤ most =
        between_le (suc b) (latest + w.p (o x)) (w.d (o x)) (suc b) (latest + w.p (o x)) most reached in
        let at_least : most ≤ asked_at w o b x =
        largest_under 0 w.n (asked_of w (o x) b) (asked_at w o b x) (omega arith) (λ i place. asked_under w (o x) b i _ (each i place)) in
        omega (arith, at_most, at_least)
      where
        each : (i : ℕ) → i < w.n → b < w.d (o x) → b < end_after w (o x) i b → end_after w (o x) i b ≤ asked_at w o b x
        each i place late past =
            let all = covers i place in
            let asked =
            between_is (suc b) (latest + w.p (o x)) (w.d (o x)) (suc b) (latest + w.p (o x)) late (omega (arith, past, all)) in
            omega (arith, all, asked)

-- so all right ends together ask for the closed form
pub ends_closed : (w : Windows) (o : ℕ → ℕ) → LatestReleaseFirst w o → (x : ℕ) → x < w.n → end_at w o w.n x ≡ closed_end w (o x)
unfolding closed_end
ends_closed w o order x below = largest_same _ w.n _ _ (λ j _. asked_largest w o order (w.d j) x below)
