-- Where an unbroken day exists the search finds one, unless its trials are spent, and no other has lesser starts.
-- Assumes nothing.
use mathlib.Core.Path.{◌≡◌, sym, ◌∙◌}
use mathlib.Core.Bool.{Bool, true, false, false≢true}
use Prim.Native.Nat.{ℕ, zero, suc, ◌+◌, ◌<◌, ◌≤◌}
use native.Mathlib.Omega.{arith}
use Rattle.base.specs.Outcomes.{accepts}
use Rattle.base.proofs.Sums.{le_or_lt, cond_cases}
use Rattle.windows.specs.Windows.{Windows, fixed_at, Formed}
use Rattle.windows.specs.Plans.{Plan, Plannable, IsStart, Consecutive}
use Rattle.windows.proofs.PlanFacts.{run_due}
use Rattle.windows.proofs.Puts.{fixed_formed, consecutive_fixed}
use Rattle.narrow.specs.Searching.{Test, start_count}
use Rattle.narrow.proofs.Planners.{Planner}
use Rattle.narrow.proofs.StepsKeep.{StartTried}
use Rattle.narrow.proofs.Exact.{accepted_plan, plan_accepted}
use Rattle.backtracking.specs.Searches.{Search, trial, starts_from, search_from}
use Rattle.backtracking.proofs.Endings.{Ends, Any, by_else, ends_map, ends_both}
use Rattle.backtracking.proofs.Reaching.{Reached, Reaches, reached_at, search_reaches}

-- a plan m in which each whole entry i has its minutes from s i on
pub record Pieces (whole : ℕ → Bool) (v : Windows) (m s : ℕ → ℕ) : Type 0 where
  pub plan : Plan v m
  pub first : (i : ℕ) → i < v.n → whole i ≡ true → IsStart v.h m i (s i)
  pub run : (i : ℕ) → i < v.n → whole i ≡ true → Consecutive v.h m i (s i) (s i + v.p i)

-- the starts a from place k on lead s: each is at most that of s, if those before it are the same
abbrev pub Leads : (ℕ → Bool) → ℕ → ℕ → (ℕ → ℕ) → (ℕ → ℕ) → Type 0
Leads whole n k a s =
    (q : ℕ) → k ≤ q → q < n → whole q ≡ true → ((i : ℕ) → k ≤ i → i < q → whole i ≡ true → a i ≡ s i) → a q ≤ s q

module _ (whole : ℕ → Bool) (m s : ℕ → ℕ) where
  -- its start is one that is tried
  piece_tried : (v : Windows) → Formed v → Pieces whole v m s → (k : ℕ) → k < v.n → whole k ≡ true → StartTried v k (s k)
  piece_tried v formed day k place is =
      let first = day.first k place is in (
        (day.plan.inside k (s k) place first.below first.minute).0,
        run_due v m day.plan k place (formed.minutes k place) (s k) (day.run k place is),
      )

  -- and it is a plan where that start is fixed
  piece_fixed : (v : Windows) → Pieces whole v m s → (k : ℕ) → k < v.n → whole k ≡ true → Pieces whole (fixed_at v k (s k)) m s
  piece_fixed v day k place is =
      record { plan = consecutive_fixed v m k (s k) day.plan (day.run k place is); first = day.first; run = day.run }

  -- from the starts behind place k to those from it on: k is passed over, or starts as in s, or earlier
  module _ (n k : ℕ) (a : ℕ → ℕ) where
    leads_pause : whole k ≡ false → Leads whole n (k + 1) a s → Leads whole n k a s
    leads_pause pause behind q l place is same =
        le_or_lt (k + 1) q
        (λ h. behind q h place is (λ i h'. same i (omega arith)))
        (λ h. let z : q ≡ k = omega arith in absurd (false≢true (sym pause ∙ (rw z at is))))

    leads_same : a k ≡ s k → Leads whole n (k + 1) a s → Leads whole n k a s
    leads_same e behind q l place is same =
        le_or_lt (k + 1) q
        (λ h. behind q h place is (λ i h'. same i (omega arith)))
        (λ h. let z : q ≡ k = omega arith in rw z (omega arith))

    leads_less : whole k ≡ true → a k < s k → Leads whole n k a s
    leads_less is less q l place _ same =
        le_or_lt (k + 1) q
        (λ h. absurd (omega (arith, same k (omega arith) (omega arith) is, less)))
        (λ h. let z : q ≡ k = omega arith in rw z (omega arith))

  -- it finds windows whose starts lead s, unless its trials are spent
  abbrev pub FindsFirst : ℕ → ℕ → Search → Type 0
  FindsFirst n k = Ends (λ u _. Leads whole n k u.r s) (λ _. ⊥) Any

  module _ {test : Test} (planner : Planner test) (may : ℕ → Bool) where
    module _ (k : ℕ) (is : whole k ≡ true) (rest : Windows → ℕ → Search) (v : Windows) (formed : Formed v) (place : k < v.n)
        (day : Pieces whole v m s)
        (deeper : (t : ℕ) → FindsFirst v.n (k + 1) (rest (fixed_at v k (s k)) t))
        (reaches : (x t : ℕ) → StartTried v k x → Plannable (fixed_at v k x)
        → Reaches whole (k + 1) (fixed_at v k x) (rest (fixed_at v k x) t)) where
      -- one start: where it finds none, the day's start is later
      abbrev FindsOrLater : ℕ → Search → Type 0
      FindsOrLater x = Ends (λ u _. Leads whole v.n k u.r s) (λ _. x < s k) Any

      -- the day's own start
      own_finds : (t : ℕ) → FindsOrLater (s k) (trial test rest (fixed_at v k (s k)) t)
      unfolding trial
      own_finds t =
          rw (plan_accepted planner v formed k place (s k) tried.1 has)
          (ends_map (rest (fixed_at v k (s k)) (t + 1))
          (λ u _ y. leads_same v.n k u.r (reached_at whole k v u (s k) y.1) y.0)
          (λ _ y. absurd y.0)
          (λ _ _. tt)
          (ends_both _ (λ u _. Reached whole (k + 1) (fixed_at v k (s k)) u) (λ _. ⊥) Any Any Any (rest (fixed_at v k (s k)) (t + 1))
          (deeper (t + 1))
          (reaches (s k) (t + 1) tried has)))
        where
          tried : StartTried v k (s k)
          tried = piece_tried v formed day k place is

          has : Plannable (fixed_at v k (s k))
          has = (m, (piece_fixed v day k place is).plan)

      -- an earlier one
      earlier_finds : (x t : ℕ) → StartTried v k x → x < s k → FindsOrLater x (trial test rest (fixed_at v k x) t)
      unfolding trial
      earlier_finds x t tried less =
          cond_cases (FindsOrLater x) (accepts (test (fixed_at v k x))) _ _
          (λ e.
          ends_map (rest (fixed_at v k x) (t + 1))
          (λ u _ y. leads_less v.n k u.r is (omega (arith, reached_at whole k v u x y, less)))
          (λ _ _. less)
          (λ _ y. y)
          (reaches x (t + 1) tried (accepted_plan planner v formed k place x tried.1 e)))
          (λ _. less)

      starts_find : (c x t : ℕ) → v.r k ≤ x → x ≤ s k → s k < x + c → x + c + v.p k ≤ suc (v.d k)
          → FindsFirst v.n k (starts_from test may rest k c x v t)
      unfolding starts_from
      starts_find zero x t from le more room = omega arith
      starts_find (suc c) x t from le more room =
          cond_cases (FindsFirst v.n k) (may t) _ _
          (λ _.
          by_else _ (λ _. x < s k) _ Any (trial test rest (fixed_at v k x) t) _
          (le_or_lt (s k) x (λ l. let z : x ≡ s k = omega arith in rw z (own_finds t)) (earlier_finds x t (from, omega arith)))
          (λ u l. starts_find c (x + 1) u (omega arith) (omega arith) (omega arith) (omega arith)))
          (λ _. tt)

    pub search_finds : (j k : ℕ) (v : Windows) (t : ℕ) → Formed v → k + j ≡ v.n → Pieces whole v m s
        → FindsFirst v.n k (search_from test may whole j k v t)
    unfolding search_from
    search_finds zero k v t formed count day = λ q l place _ _. absurd (omega arith)
    search_finds (suc j) k v t formed count day =
        cond_cases (FindsFirst v.n k) (whole k) _ _
        (λ e.
        let place : k < v.n = omega arith in
        let own = piece_tried v formed day k place e in
        starts_find k e (search_from test may whole j (k + 1)) v formed place day
        (λ u.
        search_finds j (k + 1) (fixed_at v k (s k)) u (fixed_formed v formed k (s k) place own.1) (omega arith)
        (piece_fixed v day k place e))
        (λ x u tried has.
        search_reaches planner may whole j (k + 1) (fixed_at v k x) u (fixed_formed v formed k x place tried.1) has (omega arith))
        (start_count v k) (v.r k) t (omega arith) own.0 (omega (arith, own.1)) (omega (arith, formed.room k place)))
        (λ e.
        ends_map (search_from test may whole j (k + 1) v t) (λ u _. leads_pause v.n k u.r e) (λ _ z. z) (λ _ z. z)
        (search_finds j (k + 1) v t formed (omega arith) day))
