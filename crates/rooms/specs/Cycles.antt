-- Turns in cyclic order, over whatever rooms: each is unfinished until its own turns finish it, and a turn is the own turn of at most one.
use Rattle.std.specs.Prelude.{ℕ, zero, suc, ◌+◌, Bool, cond, eqb, ltb}

-- "the number after it (after the last, 0)", of m rooms
unfoldable pub number_after : ℕ → ℕ → ℕ
number_after m k = cond (ltb (suc k) m) (suc k) 0

-- "any number past the last counts as 0"
unfoldable pub number_used : ℕ → ℕ → ℕ
number_used m number = cond (ltb number m) number 0

-- the first unfinished room among so many, from k on in cyclic order; m if there is none
unfoldable pub next_from : (ℕ → Bool) → ℕ → ℕ → ℕ → ℕ
next_from unfinished m zero k = m
next_from unfinished m (suc left) k = cond (unfinished k) k (next_from unfinished m left (number_after m k))

-- "From the room number handed in .., .. the next unfinished room in cyclic order"; m if nothing is unfinished
unfoldable pub next_unfinished : (ℕ → Bool) → ℕ → ℕ → ℕ
next_unfinished unfinished m number = next_from unfinished m m (number_used m number)

-- rooms with x for room k
abbrev pub put_room : {S : Type 0} → ℕ → S → (ℕ → S) → ℕ → S
put_room k x rooms i = cond (eqb i k) x (rooms i)

-- rooms, and the number for the next turn
pub record Cycle (S : Type 0) : Type 0 where
  pub rooms : ℕ → S
  pub number : ℕ

-- a turn of m rooms; if nothing is unfinished, no room changes
unfoldable pub cycle_turn : {S : Type 0} → (S → Bool) → (S → S) → ℕ → Cycle S → Cycle S
cycle_turn unfinished own m c =
    let k = next_unfinished (λ i. unfinished (c.rooms i)) m c.number in
    cond (ltb k m)
    (record { rooms = put_room k (own (c.rooms k)) c.rooms; number = number_after m k })
    (record { rooms = c.rooms; number = number_used m c.number })

-- turns "with .. the number handed on"
unfoldable pub cycle_turns : {S : Type 0} → (S → Bool) → (S → S) → ℕ → ℕ → Cycle S → Cycle S
cycle_turns unfinished own m zero c = c
cycle_turns unfinished own m (suc t) c = cycle_turns unfinished own m t (cycle_turn unfinished own m c)

-- a room by its own turns alone: at most so many, and none once it is finished
unfoldable pub alone : {S : Type 0} → (S → Bool) → (S → S) → ℕ → S → S
alone unfinished own zero s = s
alone unfinished own (suc k) s = cond (unfinished s) (alone unfinished own k (own s)) s

-- how many of t turns are room i's own
unfoldable pub own_turns : {S : Type 0} → (S → Bool) → (S → S) → ℕ → ℕ → Cycle S → ℕ → ℕ
own_turns unfinished own m zero c i = 0
own_turns unfinished own m (suc t) c i =
    cond (eqb (next_unfinished (λ j. unfinished (c.rooms j)) m c.number) i) 1 0
    + own_turns unfinished own m t (cycle_turn unfinished own m c) i
