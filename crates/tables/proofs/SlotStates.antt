-- In a slot Jackson's rule takes what it takes at the table.
-- Assumes nothing.
use mathlib.Core.Path.{◌≡◌, refl, sym, ap, subst, ◌∙◌, fun_ext}
use mathlib.Core.Bool.{Bool, cond, not, ◌&&◌, ◌||◌}
use Prim.Native.Nat.{ℕ, zero, suc, ◌+◌, ◌*◌, ◌-◌, ◌/◌, ◌%◌, ◌≤◌, ◌<◌}
use native.Mathlib.Nat.{mul-zero, mul-suc, mul-le-mul_left}
use native.Mathlib.Omega.{arith}
use lib.Dec.{ltb}
use Rattle.base.specs.Counting.{same, best, smaller}
use Rattle.base.proofs.Sums.{sum_cong, sum_after}
use Rattle.base.proofs.Multiples.{multiple_le, multiple_lt, of_multiple_le, multiple_leb, mul_lt, of_mul_lt, of_mul_le, mul_cancel, mul_ltb}
use Rattle.base.proofs.Multiples.{mul_eqb, quotient_rest, rest_below, quotient_below, sum_multiple}
use Rattle.windows.specs.Windows.{Windows, with_left}
use Rattle.windows.specs.Plans.{idle, minutes_of}
use Rattle.jackson.specs.Rules.{Ready}
use Rattle.jackson.specs.Minutes.{State, is_ready, comes_before, chosen, Tied, Takes, had_before, state_after, FollowsJackson}
use Rattle.tables.specs.Fillings.{just_filled, given_before, state_before, FollowsTables}
use Rattle.tables.specs.Slots.{slots, at_tables}

-- the state of the slots' day after j tables of a minute
abbrev pub slot_state : ℕ → State → ℕ → State
slot_state c s j = record { windows = slots c s.windows; t = c * s.t + j; last = s.last }

-- The algorithm: the choice reads nothing but these tests.
abbrev choose : ℕ → ℕ → (ℕ → Bool) → (ℕ → ℕ → Bool) → (ℕ → ℕ → Bool) → ℕ
choose n last ready sooner before =
    cond (ltb last n && (ready last && not (sooner (best idle n ready before) last))) last (best idle n ready before)

chosen_is : (s : State) → chosen s ≡ choose s.windows.n s.last (is_ready s) (smaller s.windows.d) (comes_before s)
unfolding chosen
chosen_is s = refl

module _ (c : ℕ) (some : 1 ≤ c) where
  pub slot_chosen : (s : State) (j : ℕ) → j < c → chosen (slot_state c s j) ≡ chosen s
  slot_chosen s j l =
      chosen_is (slot_state c s j)
      ∙ (λ x. choose s.windows.n s.last (fun_ext ready x) (fun_ext (λ i. fun_ext (sooner i)) x) (fun_ext (λ i. fun_ext (before i)) x))
      ∙ sym (chosen_is s)
    where
      ready : (i : ℕ) → is_ready (slot_state c s j) i ≡ is_ready s i
      ready i = ap (λ (b : Bool). b && ltb 0 (s.windows.p i)) (multiple_leb c (s.windows.r i) s.t j l)

      sooner : (i k : ℕ) → smaller (slots c s.windows).d i k ≡ smaller s.windows.d i k
      sooner i k = mul_ltb c some (s.windows.d i) (s.windows.d k)

      before : (i k : ℕ) → comes_before (slot_state c s j) i k ≡ comes_before s i k
      before i k =
          λ x.
          mul_ltb c some (s.windows.d i) (s.windows.d k) x
          || (mul_eqb c some (s.windows.d i) (s.windows.d k) x && ltb (s.windows.p i) (s.windows.p k))

  -- The rule in facts.
  module _ (s : State) (j : ℕ) (l : j < c) where
    abbrev at : State
    at = slot_state c s j

    to_slot : (i : ℕ) → Ready s.windows s.t i → Ready at.windows at.t i
    to_slot i h =
        record { place = h.place; released = multiple_le c (s.windows.r i) s.t j h.released; unfinished = h.unfinished }

    of_slot : (i : ℕ) → Ready at.windows at.t i → Ready s.windows s.t i
    of_slot i h =
        record { place = h.place; released = of_multiple_le c (s.windows.r i) s.t j l h.released; unfinished = h.unfinished }

    tied_to : (k i : ℕ) → Tied s k i → Tied at k i
    tied_to k i h = record { ready = to_slot i h.ready; deadline = ap (λ (z : ℕ). c * z) h.deadline }

    tied_of : (k i : ℕ) → Tied at k i → Tied s k i
    tied_of k i h = record { ready = of_slot i h.ready; deadline = mul_cancel c some _ _ h.deadline }

    pub takes_in_slot : (k : ℕ) → Takes s k → Takes at k
    takes_in_slot k a =
        record {
          deadline =
              record {
                taken = λ h. to_slot k (a.deadline.taken h);
                least = λ i h r. mul-le-mul_left {m = s.windows.d k} {n = s.windows.d i} c (a.deadline.least i h (of_slot i r));
                none = λ i h r. a.deadline.none i h (of_slot i r);
              };
          goes_on = λ r alone.
              a.goes_on (of_slot s.last r) (λ i q less. alone i (to_slot i q) (mul_lt c some _ _ less));
          fewest = λ i not_tied tied. a.fewest i (λ z. not_tied (tied_to k s.last z)) (tied_of k i tied);
          lowest = λ i not_tied tied. a.lowest i (λ z. not_tied (tied_to k s.last z)) (tied_of k i tied);
          idles = a.idles;
        }

    pub takes_at_table : (k : ℕ) → Takes at k → Takes s k
    takes_at_table k a =
        record {
          deadline =
              record {
                taken = λ h. of_slot k (a.deadline.taken h);
                least = λ i h r. of_mul_le c some _ _ (a.deadline.least i h (to_slot i r));
                none = λ i h r. a.deadline.none i h (to_slot i r);
              };
          goes_on = λ r alone.
              a.goes_on (to_slot s.last r) (λ i q less. alone i (of_slot i q) (of_mul_lt c some _ _ less));
          fewest = λ i not_tied tied. a.fewest i (λ z. not_tied (tied_of k s.last z)) (tied_to k i tied);
          lowest = λ i not_tied tied. a.lowest i (λ z. not_tied (tied_of k s.last z)) (tied_to k i tied);
          idles = a.idles;
        }

-- what agrees in the day's tables with places that follow the rule follows it
module _ (c : ℕ) (w : Windows) (m x : ℕ → ℕ → ℕ) (agrees : (t j : ℕ) → t < w.h → j < c → x t j ≡ m t j) where
  same_given : (t j i : ℕ) → t < w.h → j < c → given_before c x t j i ≡ given_before c m t j i
  same_given t j i h l =
      let same_at : (s k : ℕ) → s < w.h → k < c → same (x s k) i ≡ same (m s k) i = λ s k a b. ap (λ (z : ℕ). same z i) (agrees s k a b) in
      let minutes = sum_cong t _ _ (λ s a. sum_cong c _ _ (λ k b. same_at s k (omega arith) b)) in
      let tables = sum_cong j _ _ (λ k b. same_at t k h (omega arith)) in
      omega (arith, minutes, tables)

  same_last : (t j : ℕ) → t < w.h → j < c → just_filled c x t j ≡ just_filled c m t j
  same_last t (suc j) h l = agrees t j h (omega arith)
  same_last zero zero h l = refl
  same_last (suc t) zero h l = agrees t (c - 1) (omega arith) (omega arith)

  same_state : (t j : ℕ) → t < w.h → j < c → state_before c w x t j ≡ state_before c w m t j
  same_state t j h l =
      let left : ◌≡◌ {A = ℕ → ℕ} (λ i. w.p i - given_before c x t j i) (λ i. w.p i - given_before c m t j i) =
      fun_ext (λ i. ap (λ (k : ℕ). w.p i - k) (same_given t j i h l)) in
      λ y. record { windows = with_left w (left y); t = t; last = same_last t j h l y }

  pub tables_follow : FollowsTables c w m → FollowsTables c w x
  tables_follow follows t j h l = rw (agrees t j h l, same_state t j h l) (follows t j h l)

-- Places that follow the rule: the state in slot c * t + j is that of table j in minute t.
module _ (c : ℕ) (some : 1 ≤ c) (w : Windows) (m : ℕ → ℕ) where
  given_is : (t j i : ℕ) → minutes_of (c * t + j) m i ≡ given_before c (at_tables c m) t j i
  given_is t j i =
      let f : ℕ → ℕ = λ s. same (m s) i in
      omega (arith, sum_after (c * t) j f, sum_multiple c t f)

  last_is : (t j : ℕ) → had_before m (c * t + j) ≡ just_filled c (at_tables c m) t j
  last_is t (suc j) = let z : c * t + suc j ≡ suc (c * t + j) = omega arith in rw z refl
  last_is zero zero = let z : c * 0 + 0 ≡ 0 = omega (arith, mul-zero c) in rw z refl
  last_is (suc t) zero = let z : c * suc t + 0 ≡ suc (c * t + (c - 1)) = omega (arith, mul-suc c t) in rw z refl

  state_is : (t j : ℕ) → state_after (slots c w) m (c * t + j) ≡ slot_state c (state_before c w (at_tables c m) t j) j
  state_is t j =
      λ x.
      record {
        windows = with_left (slots c w) (λ i. w.p i - given_is t j i x);
        t = c * t + j;
        last = last_is t j x;
      }

  pub follows_tables : FollowsJackson (slots c w) m → FollowsTables c w (at_tables c m)
  follows_tables follows t j h l =
      takes_at_table c some (state_before c w (at_tables c m) t j) j l (m (c * t + j))
      (rw (state_is t j) at (follows (c * t + j) (multiple_lt c w.h t j l h)))

  pub follows_slots : FollowsTables c w (at_tables c m) → FollowsJackson (slots c w) m
  follows_slots follows s h =
      let l = rest_below c some s in
      let table = follows (s / c) (s % c) (quotient_below c some w.h s h) l in
      let slot = takes_in_slot c some (state_before c w (at_tables c m) (s / c) (s % c)) (s % c) l _ table in
      subst (λ (x : ℕ). Takes (state_after (slots c w) m x) (m x)) (quotient_rest c some s) (rw (state_is (s / c) (s % c)) slot)
