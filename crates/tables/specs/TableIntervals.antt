-- "Overloaded here means more work than c times the length": the intervals of a room with c tables. The work of an interval is the sum of p
-- as ever, in table minutes.
use Rattle.std.specs.Prelude.{ℕ, ◌*◌, ◌-◌, ◌<◌, ◌≤◌, ◌≡◌, Bool, ◌&&◌, [], ◌∷◌, ltb}
use Rattle.base.specs.Outcomes.{Code, code, Outcome, answered, first_of}
use Rattle.base.specs.Counting.{best, smaller, larger}
use Rattle.windows.specs.Windows.{Windows}
use Rattle.windows.specs.Intervals.{work}

-- "For a an earliest and b a latest minute of the list, .. With a below b"
pub record TableOverloaded (c : ℕ) (w : Windows) (a b : ℕ) : Type 0 where
  pub earliest : (i : ℕ) × (i < w.n) × (w.r i ≡ a)
  pub latest : (j : ℕ) × (j < w.n) × (w.d j ≡ b)
  pub interval : a < b
  pub exceeds : c * (b - a) < work w a b

-- "The interval shown has the smallest b, and with it the largest a."
pub record TableIntervalShown (c : ℕ) (w : Windows) (a b : ℕ) : Type 0 where
  pub overloaded : TableOverloaded c w a b
  pub smallest : (a' b' : ℕ) → TableOverloaded c w a' b' → b ≤ b'
  pub largest : (a' : ℕ) → TableOverloaded c w a' b → a' ≤ a

-- no interval is overloaded
abbrev pub NoTableOverload : ℕ → Windows → Type 0
NoTableOverload c w = (a b : ℕ) → TableOverloaded c w a b → ⊥

-- what a refusal by row 9 carries: the interval shown, in minutes, and its work, in table minutes
pub record ShowsTableOverload (c : ℕ) (w : Windows) (k : Code) : Type 0 where
  pub a : ℕ
  pub b : ℕ
  pub carries : k ≡ code 9 (a ∷ b ∷ work w a b ∷ [])
  pub shown : TableIntervalShown c w a b

-- the test of an interval between an earliest and a latest minute
abbrev pub is_table_overloaded : ℕ → Windows → ℕ → ℕ → Bool
is_table_overloaded c w a b = ltb a b && ltb (c * (b - a)) (work w a b)

-- the place with the largest left end of an overloaded interval that ends at b; n if there is none
unfoldable pub table_left_end : ℕ → Windows → ℕ → ℕ
table_left_end c w b = best w.n w.n (λ i. is_table_overloaded c w (w.r i) b) (larger w.r)

-- the place with the smallest right end of an overloaded interval; n if there is none
unfoldable pub table_right_end : ℕ → Windows → ℕ
table_right_end c w = best w.n w.n (λ j. ltb (table_left_end c w (w.d j)) w.n) (smaller w.d)

-- row 9, which carries a, b and work
unfoldable pub table_overload_of : ℕ → Windows → Outcome (Unit {0})
table_overload_of c w =
    let j = table_right_end c w in
    let b = w.d j in
    let a = w.r (table_left_end c w b) in
    first_of (record { holds = ltb j w.n; refusal = code 9 (a ∷ b ∷ work w a b ∷ []) } ∷ []) (answered tt)
