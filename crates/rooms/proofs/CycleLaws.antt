-- Turns in cyclic order, over whatever rooms: each room that is unfinished has a turn in any m turns, and a room fares as it would by its
-- own turns alone.
-- Assumes nothing.
use mathlib.Core.Path.{◌≡◌, refl, sym, ap, ◌∙◌}
use mathlib.Core.Bool.{Bool, true, false, cond, true≢false}
use Prim.Native.Nat.{ℕ, zero, suc, ◌+◌, ◌*◌, ◌<◌, ◌≤◌}
use native.Mathlib.Omega.{arith}
use borrow.Author.Tests.{lt-ltb, le-ltb, eqb-true, eqb-false, eq-eqb, ne_eqb}
use lib.Dec.{eqb}
use Rattle.base.proofs.Sums.{le_or_lt}
use Rattle.rooms.specs.Cycles.{number_after, number_used, next_unfinished, put_room, Cycle, cycle_turn, cycle_turns, alone, own_turns}
use Rattle.rooms.proofs.CyclicOrder.{after_below, used_below, used_same, ahead, ahead_below, next_unfinished_lem, next_near}

-- A room by its own turns alone.
module _ {S : Type 0} (unfinished : S → Bool) (own : S → S) where
  pub alone_finished : (k : ℕ) (s : S) → unfinished s ≡ false → alone unfinished own k s ≡ s
  unfolding alone
  alone_finished zero s e = refl
  alone_finished (suc k) s e = rw e

  pub alone_next : (k : ℕ) (s : S) → unfinished s ≡ true → alone unfinished own (suc k) s ≡ alone unfinished own k (own s)
  unfolding alone
  alone_next k s e = rw e

  pub alone_zero : (s : S) → alone unfinished own zero s ≡ s
  unfolding alone
  alone_zero s = refl

  -- so many and then so many more
  pub alone_add : (k j : ℕ) (s : S) → alone unfinished own (k + j) s ≡ alone unfinished own j (alone unfinished own k s)
  alone_add zero j s =
      let z : 0 + j ≡ j = omega arith in
      ap (λ (n : ℕ). alone unfinished own n s) z ∙ ap (alone unfinished own j) (sym (alone_zero s))
  alone_add (suc k) j s = go (unfinished s) refl (alone_add k j (own s))
    where
      by : ℕ → S → S
      by n u = alone unfinished own n u

      z : suc k + j ≡ suc (k + j)
      z = omega arith

      go : (t : Bool) → unfinished s ≡ t → by (k + j) (own s) ≡ by j (by k (own s)) → by (suc k + j) s ≡ by j (by (suc k) s)
      go true e more = ap (λ (n : ℕ). by n s) z ∙ alone_next (k + j) s e ∙ more ∙ ap (by j) (sym (alone_next k s e))
      go false e more = alone_finished (suc k + j) s e ∙ sym (alone_finished j s e) ∙ ap (by j) (sym (alone_finished (suc k) s e))

module _ {S : Type 0} (unfinished : S → Bool) (own : S → S) (m : ℕ) where
  -- the room that a turn takes, what the turn leaves, and what turns leave
  abbrev taken : Cycle S → ℕ
  taken c = next_unfinished (λ i. unfinished (c.rooms i)) m c.number

  abbrev next : Cycle S → Cycle S
  next c = cycle_turn unfinished own m c

  abbrev turns : ℕ → Cycle S → Cycle S
  turns t c = cycle_turns unfinished own m t c

  -- a room by at most k own turns
  abbrev by : ℕ → S → S
  by k s = alone unfinished own k s

  pub turn_takes : (c : Cycle S) (k : ℕ) → taken c ≡ k → k < m
      → next c ≡ record { rooms = put_room k (own (c.rooms k)) c.rooms; number = number_after m k }
  unfolding cycle_turn
  turn_takes c k e h = rw (e, lt-ltb k m h)

  -- "A turn with nothing unfinished changes nothing"
  pub turn_idle : (c : Cycle S) → m ≤ taken c → next c ≡ record { rooms = c.rooms; number = number_used m c.number }
  unfolding cycle_turn
  turn_idle c h = rw (le-ltb (taken c) m h)

  -- the room that a turn takes is unfinished
  pub taken_unfinished : (c : Cycle S) (k : ℕ) → taken c ≡ k → k < m → unfinished (c.rooms k) ≡ true
  taken_unfinished c k e h = rw (← e) (next_unfinished_lem (λ i. unfinished (c.rooms i)) m c.number (omega (arith, e)))

  -- its own turn
  pub turn_own : (c : Cycle S) (i : ℕ) → i < m → taken c ≡ i → (next c).rooms i ≡ own (c.rooms i)
  turn_own c i h e = rw (turn_takes c i e h, eq-eqb i i refl)

  -- "and touches no other row or list"
  pub turn_other : (c : Cycle S) (i : ℕ) → (taken c ≡ i → ⊥) → (next c).rooms i ≡ c.rooms i
  turn_other c i ne =
      le_or_lt m (taken c) (λ h. ap (λ (d : Cycle S). d.rooms i) (turn_idle c h))
      (λ h. let z : i ≡ taken c → ⊥ = λ q. ne (sym q) in rw (turn_takes c (taken c) refl h, ne_eqb i (taken c) z))

  -- a room that is finished keeps what it has
  turn_finished : (c : Cycle S) (i : ℕ) → i < m → unfinished (c.rooms i) ≡ false → (next c).rooms i ≡ c.rooms i
  turn_finished c i h e = turn_other c i (λ q. true≢false (sym (taken_unfinished c i q h) ∙ e))

  turns_finished : (t : ℕ) (c : Cycle S) (i : ℕ) → i < m → unfinished (c.rooms i) ≡ false → (turns t c).rooms i ≡ c.rooms i
  unfolding cycle_turns
  turns_finished zero c i h e = refl
  turns_finished (suc t) c i h e =
      let z = turn_finished c i h e in turns_finished t (next c) i h (ap unfinished z ∙ e) ∙ z

  pub turns_zero : (c : Cycle S) → turns zero c ≡ c
  unfolding cycle_turns
  turns_zero c = refl

  pub turns_next : (t : ℕ) (c : Cycle S) → turns (suc t) c ≡ turns t (next c)
  unfolding cycle_turns
  turns_next t c = refl

  -- how many rooms are ahead of i in the next turn
  abbrev waits : Cycle S → ℕ → ℕ
  waits c i = ahead m (number_used m c.number) i

  waits_below : (c : Cycle S) (i : ℕ) → i < m → waits c i < m
  waits_below c i h = ahead_below m (number_used m c.number) i (used_below m c.number (omega arith)) h

  -- the turns within which a room comes to its k-th own turn, if so many rooms are ahead of it
  abbrev due : ℕ → ℕ → ℕ
  due zero a = 0
  due (suc k) a = a + 1 + m * k

  due_most : (k a : ℕ) → a < m → due k a ≤ m * k
  due_most zero a h = omega arith
  due_most (suc k) a h = omega arith

  -- a turn, for a room that is unfinished: its own, or fewer rooms are ahead of it
  turn_near : {G : Type 0} (c : Cycle S) (i : ℕ) → i < m → unfinished (c.rooms i) ≡ true
      → (taken c ≡ i → G) → ((taken c ≡ i → ⊥) → waits (next c) i < waits c i → G) → G
  turn_near c i h is f g =
      next_near (λ j. unfinished (c.rooms j)) m c.number i h is f
      (λ b.
      let k = taken c in
      let used = used_same m (number_after m k) (after_below m k b.inside) in
      g b.other (rw (turn_takes c k refl b.inside, used) b.fewer))

  -- one turn, for a room that its own turns alone finish, and then the rest
  due_step : (t k : ℕ) (c : Cycle S) (i : ℕ) → i < m → (b : Bool) → unfinished (c.rooms i) ≡ b → unfinished (by k (c.rooms i)) ≡ false
      → due k (waits c i) ≤ suc t
      → ((k : ℕ) (d : Cycle S) → unfinished (by k (d.rooms i)) ≡ false → due k (waits d i) ≤ t → (turns t d).rooms i ≡ by k (d.rooms i))
      → (turns (suc t) c).rooms i ≡ by k (c.rooms i)
  due_step t k c i h false e ends enough rest = turns_finished (suc t) c i h e ∙ sym (alone_finished unfinished own k (c.rooms i) e)
  due_step t zero c i h true e ends enough rest =
      absurd (true≢false (sym e ∙ ap unfinished (sym (alone_zero unfinished own (c.rooms i))) ∙ ends))
  due_step t (suc k) c i h true e ends enough rest =
      let d = next c in
      let more = alone_next unfinished own k (c.rooms i) e in
      ap (λ (x : Cycle S). x.rooms i) (turns_next t c)
      ∙ turn_near c i h e
      (λ mine.
      let z = turn_own c i h mine in
      let left = due_most k (waits d i) (waits_below d i h) in
      rest k d (ap (λ (s : S). unfinished (by k s)) z ∙ sym (ap unfinished more) ∙ ends) (omega (arith, left, enough))
      ∙ ap (by k) z ∙ sym more)
      (λ other fewer.
      let z = turn_other c i other in
      rest (suc k) d (ap (λ (s : S). unfinished (by (suc k) s)) z ∙ ends) (omega (arith, fewer, enough)) ∙ ap (by (suc k)) z)

  finished_due : (t k : ℕ) (c : Cycle S) (i : ℕ) → i < m → unfinished (by k (c.rooms i)) ≡ false → due k (waits c i) ≤ t
      → (turns t c).rooms i ≡ by k (c.rooms i)
  finished_due zero k c i h ends enough =
      ap (λ (x : Cycle S). x.rooms i) (turns_zero c) ∙ sym (go k (unfinished (c.rooms i)) refl ends enough)
    where
      go : (k : ℕ) (b : Bool) → unfinished (c.rooms i) ≡ b → unfinished (by k (c.rooms i)) ≡ false → due k (waits c i) ≤ 0
          → by k (c.rooms i) ≡ c.rooms i
      go k false e ends enough = alone_finished unfinished own k (c.rooms i) e
      go zero true e ends enough = alone_zero unfinished own (c.rooms i)
      go (suc k) true e ends enough = absurd (omega arith)
  finished_due (suc t) k c i h ends enough =
      due_step t k c i h (unfinished (c.rooms i)) refl ends enough (λ k d. finished_due t k d i h)

  -- Each room that k own turns alone finish is finished after k times m turns, with what its own turns leave.
  pub finished : (t k : ℕ) (c : Cycle S) (i : ℕ) → i < m → unfinished (by k (c.rooms i)) ≡ false → m * k ≤ t
      → (turns t c).rooms i ≡ by k (c.rooms i)
  finished t k c i h ends enough =
      finished_due t k c i h ends (omega (arith, due_most k (waits c i) (waits_below c i h)))

  -- A room's own turns alone give what it has after any turns.
  pub projected : (t : ℕ) (c : Cycle S) (i : ℕ) → i < m → (turns t c).rooms i ≡ by (own_turns unfinished own m t c i) (c.rooms i)
  unfolding cycle_turns own_turns
  projected zero c i h = sym (alone_zero unfinished own (c.rooms i))
  projected (suc t) c i h = go (eqb (taken c) i) refl (projected t (next c) i h)
    where
      later : ℕ
      later = own_turns unfinished own m t (next c) i

      go : (b : Bool) → eqb (taken c) i ≡ b → (turns t (next c)).rooms i ≡ by later ((next c).rooms i)
          → (turns t (next c)).rooms i ≡ by (cond b 1 0 + later) (c.rooms i)
      go true e more =
          let is = eqb-true _ _ e in
          let z : suc later ≡ 1 + later = omega arith in
          more
          ∙ ap (by later) (turn_own c i h is)
          ∙ sym (alone_next unfinished own later (c.rooms i) (taken_unfinished c i is h))
          ∙ ap (λ (k : ℕ). by k (c.rooms i)) z
      go false e more =
          let z : later ≡ 0 + later = omega arith in
          more ∙ ap (by later) (turn_other c i (eqb-false _ _ e)) ∙ ap (λ (k : ℕ). by k (c.rooms i)) z
