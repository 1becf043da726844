-- What a search finds keeps the windows, has a plan, and has the start of each whole entry fixed.
-- Assumes nothing.
use mathlib.Core.Path.{◌≡◌, refl, sym, ◌∙◌}
use mathlib.Core.Bool.{Bool, true, false, false≢true}
use Prim.Native.Nat.{ℕ, zero, suc, ◌+◌, ◌<◌, ◌≤◌}
use native.Mathlib.Omega.{arith}
use Rattle.base.specs.Outcomes.{accepts}
use Rattle.base.proofs.Sums.{le_or_lt, cond_cases}
use Rattle.windows.specs.Windows.{Windows, fixed_at, Formed}
use Rattle.windows.specs.Plans.{Plannable}
use Rattle.windows.proofs.Puts.{put_same, put_other, fixed_formed, fixed_inside}
use Rattle.narrow.specs.Searching.{Test, start_count}
use Rattle.narrow.proofs.Planners.{Planner}
use Rattle.narrow.proofs.StepsKeep.{Keeps, keeps_same, keeps_trans, StartTried}
use Rattle.narrow.proofs.Exact.{accepted_plan}
use Rattle.backtracking.specs.Searches.{Search, trial, starts_from, search_from}
use Rattle.backtracking.proofs.Endings.{Ends, Any, by_else, ends_map}

-- entry i has the same window in v and u
abbrev pub SameAt : Windows → Windows → ℕ → Type 0
SameAt v u i = (u.r i ≡ v.r i) × (u.d i ≡ v.d i)

-- from the windows v to u, in which the whole entries from k on have their starts fixed, and no other entry another window
pub record Reached (whole : ℕ → Bool) (k : ℕ) (v u : Windows) : Type 0 where
  pub keeps : Keeps v u
  pub plan : Plannable u
  pub before : (i : ℕ) → i < k → SameAt v u i
  pub pause : (i : ℕ) → whole i ≡ false → SameAt v u i
  pub fixed : (i : ℕ) → k ≤ i → i < v.n → whole i ≡ true → u.d i ≡ u.r i + v.p i

keeps_fixed : (v : Windows) → Formed v → (k x : ℕ) → k < v.n → StartTried v k x → Keeps v (fixed_at v k x)
keeps_fixed v formed k x place (from, room) =
    record {
      entries = refl;
      formed = fixed_formed v formed k x place room;
      inside = fixed_inside v k x from room;
      past =
          λ i l.
          let other : i ≡ k → ⊥ = λ e. omega (arith, place, l, e) in
          (put_other k x v.r i other, put_other k (x + v.p k) v.d i other);
    }

-- entry k is passed over
reached_pause : (whole : ℕ → Bool) (k : ℕ) (v u : Windows) → whole k ≡ false → Reached whole (k + 1) v u → Reached whole k v u
reached_pause whole k v u pause x =
    record {
      keeps = x.keeps;
      plan = x.plan;
      before = λ i l. x.before i (omega arith);
      pause = x.pause;
      fixed =
          λ i l place is.
          le_or_lt (k + 1) i
          (λ m. x.fixed i m place is)
          (λ m. let z : i ≡ k = omega arith in absurd (false≢true (sym pause ∙ (rw z at is))));
    }

-- entry k starts at x
module _ (whole : ℕ → Bool) (k : ℕ) (v u : Windows) (x : ℕ) (after : Reached whole (k + 1) (fixed_at v k x) u) where
  pub reached_at : u.r k ≡ x
  reached_at = (after.before k (omega arith)).0 ∙ put_same k x v.r

  pub reached_start : Formed v → whole k ≡ true → k < v.n → StartTried v k x → Reached whole k v u
  reached_start formed is place tried =
      record {
        keeps = keeps_trans (keeps_fixed v formed k x place tried) after.keeps;
        plan = after.plan;
        before = λ i l. same i (λ e. omega (arith, l, e)) (after.before i (omega arith));
        pause = λ i q. same i (λ e. false≢true (sym q ∙ (rw e is))) (after.pause i q);
        fixed =
            λ i l below q.
            le_or_lt (k + 1) i
            (λ m. after.fixed i m below q)
            (λ m.
            let z : i ≡ k = omega arith in
            rw z (omega (arith, reached_at, (after.before k (omega arith)).1, put_same k (x + v.p k) v.d)));
      }
    where
      same : (i : ℕ) → (i ≡ k → ⊥) → SameAt (fixed_at v k x) u i → SameAt v u i
      same i other (r, d) = (r ∙ put_other k x v.r i other, d ∙ put_other k (x + v.p k) v.d i other)

-- a search that reaches such windows, if it finds any
abbrev pub Reaches : (ℕ → Bool) → ℕ → Windows → Search → Type 0
Reaches whole k v = Ends (λ u _. Reached whole k v u) Any Any

module _ {test : Test} (planner : Planner test) (may : ℕ → Bool) where
  module _ (whole : ℕ → Bool) (k : ℕ) (is : whole k ≡ true) (rest : Windows → ℕ → Search) (v : Windows) (formed : Formed v)
      (place : k < v.n)
      (deeper : (x t : ℕ) → StartTried v k x → Plannable (fixed_at v k x)
      → Reaches whole (k + 1) (fixed_at v k x) (rest (fixed_at v k x) t)) where
    starts_reach : (c s t : ℕ) → v.r k ≤ s → s + c + v.p k ≤ suc (v.d k) → Reaches whole k v (starts_from test may rest k c s v t)
    unfolding starts_from trial
    starts_reach zero s t from room = tt
    starts_reach (suc c) s t from room =
        cond_cases (Reaches whole k v) (may t) _ _
        (λ _.
        by_else _ Any Any Any (trial test rest (fixed_at v k s) t) _
        (cond_cases (Reaches whole k v) (accepts (test (fixed_at v k s))) _ _
        (λ e.
        ends_map (rest (fixed_at v k s) (t + 1)) (λ u _ after. reached_start whole k v u s after formed is place tried) (λ _ z. z)
        (λ _ z. z)
        (deeper s (t + 1) tried (accepted_plan planner v formed k place s tried.1 e)))
        (λ _. tt))
        (λ u _. starts_reach c (s + 1) u (omega arith) (omega arith)))
        (λ _. tt)
      where
        tried : StartTried v k s
        tried = (from, omega arith)

  pub search_reaches : (whole : ℕ → Bool) (j k : ℕ) (v : Windows) (t : ℕ) → Formed v → Plannable v → k + j ≡ v.n
      → Reaches whole k v (search_from test may whole j k v t)
  unfolding search_from
  search_reaches whole zero k v t formed plan count =
      record {
        keeps = keeps_same v formed;
        plan = plan;
        before = λ _ _. (refl, refl);
        pause = λ _ _. (refl, refl);
        fixed = λ i l place _. absurd (omega arith);
      }
  search_reaches whole (suc j) k v t formed plan count =
      cond_cases (Reaches whole k v) (whole k) _ _
      (λ e.
      starts_reach whole k e (search_from test may whole j (k + 1)) v formed (omega arith)
      (λ x u tried has.
      search_reaches whole j (k + 1) (fixed_at v k x) u (fixed_formed v formed k x (omega arith) tried.1) has (omega arith))
      (start_count v k) (v.r k) t (omega arith) (omega (arith, formed.room k (omega arith))))
      (λ e.
      ends_map (search_from test may whole j (k + 1) v t) (λ u _. reached_pause whole k v u e) (λ _ z. z) (λ _ z. z)
      (search_reaches whole j (k + 1) v t formed plan (omega arith)))
