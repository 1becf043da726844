-- The filling of the tables is Jackson's schedule of the slots.
-- Assumes nothing.
use mathlib.Core.Path.{◌≡◌, refl, sym, ap, ◌∙◌}
use Prim.Native.Nat.{ℕ, zero, suc, ◌+◌, ◌*◌, ◌≤◌, ◌<◌}
use native.Mathlib.Nat.{mul-zero, mul-suc}
use native.Mathlib.Numerals.{add-one}
use native.Mathlib.Omega.{arith}
use Rattle.base.proofs.Multiples.{multiple_lt, list_multiple, concat_same}
use Rattle.windows.specs.Windows.{Windows}
use Rattle.windows.specs.Plans.{idle}
use Rattle.jackson.specs.Minutes.{State, MinuteAnswer, day_start, chosen, after, minute_of, later, place_at, schedule}
use Rattle.jackson.proofs.Schedules.{minute_on}
use Rattle.jackson.proofs.Stretches.{later_later}
use Rattle.tables.specs.Fillings.{after_table, after_tables, next_minute, later_at, table_at, filling}
use Rattle.tables.specs.Slots.{slots}
use Rattle.tables.proofs.SlotStates.{slot_state, slot_chosen}

-- filling the tables of a minute, time and the day's length stay
tables_time : (j : ℕ) (s : State) → (after_tables j s).t ≡ s.t
unfolding after_tables
tables_time zero s = refl
tables_time (suc j) s = tables_time j s

tables_h : (j : ℕ) (s : State) → (after_tables j s).windows.h ≡ s.windows.h
unfolding after_tables
tables_h zero s = refl
tables_h (suc j) s = tables_h j s

module _ (c : ℕ) where
  minutes_time : (k : ℕ) (s : State) → (later_at c k s).t ≡ s.t + k
  unfolding later_at
  minutes_time zero s = omega arith
  minutes_time (suc k) s = omega (arith, minutes_time k s)

  minutes_h : (k : ℕ) (s : State) → (later_at c k s).windows.h ≡ s.windows.h
  unfolding later_at
  minutes_h zero s = refl
  minutes_h (suc k) s = tables_h c (later_at c k s) ∙ minutes_h k s

module _ (c : ℕ) (some : 1 ≤ c) where
  -- one slot on
  slot_on : (s : State) (j : ℕ) → j < c → s.t < s.windows.h
      → minute_of (slot_state c s j) ≡ record { place = chosen s; next = slot_state c (after_table s (chosen s)) (suc j) }
  slot_on s j l h =
      minute_on (slot_state c s j) (multiple_lt c s.windows.h s.t j l h)
      ∙ (λ x. record { place = slot_chosen c some s j l x; next = after (slot_state c s j) (slot_chosen c some s j l x) })
      ∙ ap (λ (z : ℕ). record { place = chosen s; next = moved z }) time
    where
      moved : ℕ → State
      moved z = record { windows = slots c (after_table s (chosen s)).windows; t = z; last = chosen s }

      time : c * s.t + j + 1 ≡ c * s.t + suc j
      time = omega arith

  module _ (s : State) (h : s.t < s.windows.h) where
    -- j tables on
    tables_on : (j : ℕ) → j ≤ c → later j (slot_state c s 0) ≡ slot_state c (after_tables j s) j
    unfolding later after_tables
    tables_on zero l = refl
    tables_on (suc j) l =
        ap (λ (z : State). (minute_of z).next) (tables_on j (omega arith))
        ∙ ap (λ (z : MinuteAnswer). z.next) (slot_on (after_tables j s) j l (omega (arith, tables_time j s, tables_h j s)))

    minute_end : slot_state c (after_tables c s) c ≡ slot_state c (next_minute c s) 0
    minute_end = ap (λ (z : ℕ). record { windows = slots c (after_tables c s).windows; t = z; last = (after_tables c s).last }) time
      where
        time : c * (after_tables c s).t + c ≡ c * (s.t + 1) + 0
        time = rw (tables_time c s, add-one, mul-suc) (omega arith)

  module _ (w : Windows) where
    abbrev first : State
    first = day_start (slots c w)

    first_slot : first ≡ slot_state c (day_start w) 0
    first_slot = ap (λ (z : ℕ). record { windows = slots c w; t = z; last = idle }) (omega (arith, mul-zero c))

    -- the day is not over in its minutes
    in_day : (k : ℕ) → k < w.h → (later_at c k (day_start w)).t < (later_at c k (day_start w)).windows.h
    in_day k l = omega (arith, minutes_time c k (day_start w), minutes_h c k (day_start w))

    minutes_on : (k : ℕ) → k ≤ w.h → later (c * k) first ≡ slot_state c (later_at c k (day_start w)) 0
    unfolding later later_at
    minutes_on zero l = ap (λ (z : ℕ). later z first) (mul-zero c) ∙ first_slot
    minutes_on (suc k) l =
        let q = later_at c k (day_start w) in
        let on = in_day k (omega arith) in
        let sums : c * suc k ≡ c * k + c = mul-suc c k in
        ap (λ (z : ℕ). later z first) sums
        ∙ sym (later_later first (c * k) c)
        ∙ ap (later c) (minutes_on k (omega arith))
        ∙ tables_on q on c (omega arith)
        ∙ minute_end q on

    -- slot c * k + j has the place of table j in minute k
    pub slot_is : (k j : ℕ) → k < w.h → j < c → place_at first (c * k + j) ≡ table_at c (day_start w) k j
    slot_is k j l b =
        let q = later_at c k (day_start w) in
        let on = in_day k l in
        let state : later (c * k + j) first ≡ slot_state c (after_tables j q) j =
        sym (later_later first (c * k) j) ∙ ap (later j) (minutes_on k (omega arith)) ∙ tables_on q on j (omega arith) in
        ap (λ (z : State). (minute_of z).place) state
        ∙ ap (λ (z : MinuteAnswer). z.place) (slot_on (after_tables j q) j b (omega (arith, tables_time j q, tables_h j q)))

    -- so the filling is the slots' schedule
    pub filling_is : filling c w ≡ schedule (slots c w)
    unfolding filling schedule
    filling_is =
        sym (list_multiple c w.h (place_at first) ∙ concat_same c w.h (λ k j. place_at first (c * k + j)) (table_at c (day_start w))
        slot_is)
