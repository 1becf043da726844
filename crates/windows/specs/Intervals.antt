-- Overloaded intervals.
use Rattle.std.specs.Prelude.{ℕ, ◌-◌, ◌<◌, ◌≤◌, ◌≡◌, ◌↔◌, Bool, cond, ◌&&◌, [], ◌∷◌, leb, ltb}
use Rattle.base.specs.Outcomes.{Code, code, Outcome, answered, refused, first_of}
use Rattle.base.specs.Counting.{sum, best, smaller, larger}
use Rattle.windows.specs.Windows.{Windows}

-- "the work of [a, b) is the sum of p over entries with r at least a and d at most b"
unfoldable pub work : Windows → ℕ → ℕ → ℕ
work w a b = sum w.n (λ i. cond (leb a (w.r i) && leb (w.d i) b) (w.p i) 0)

-- no [a, b) has more work than minutes, for whatever numbers a and b
abbrev pub Fits : Windows → Type 0
Fits w = (a b : ℕ) → work w a b ≤ b - a

-- "For a an earliest and b a latest minute of the list, .. With a below b, it is overloaded if the work exceeds b - a; other pairs are no
-- intervals."
pub record Overloaded (w : Windows) (a b : ℕ) : Type 0 where
  pub earliest : (i : ℕ) × (i < w.n) × (w.r i ≡ a)
  pub latest : (j : ℕ) × (j < w.n) × (w.d j ≡ b)
  pub interval : a < b
  pub exceeds : b - a < work w a b

-- "The interval shown has the smallest b, and with it the largest a."
pub record IntervalShown (w : Windows) (a b : ℕ) : Type 0 where
  pub overloaded : Overloaded w a b
  pub smallest : (a' b' : ℕ) → Overloaded w a' b' → b ≤ b'
  pub largest : (a' : ℕ) → Overloaded w a' b → a' ≤ a

-- no interval is overloaded
abbrev pub NoOverload : Windows → Type 0
NoOverload w = (a b : ℕ) → Overloaded w a b → ⊥

-- what a refusal by row 9 carries: the interval shown, and its work
pub record ShowsOverload (w : Windows) (k : Code) : Type 0 where
  pub a : ℕ
  pub b : ℕ
  pub carries : k ≡ code 9 (a ∷ b ∷ work w a b ∷ [])
  pub shown : IntervalShown w a b

-- the test of an interval between an earliest and a latest minute
abbrev pub is_overloaded : Windows → ℕ → ℕ → Bool
is_overloaded w a b = ltb a b && ltb (b - a) (work w a b)

-- place i has the left end of an overloaded interval that ends at b
abbrev pub left_of : Windows → ℕ → ℕ → Bool
left_of w b i = is_overloaded w (w.r i) b

-- the place with the largest of these left ends; n if there is none
unfoldable pub left_end : Windows → ℕ → ℕ
left_end w b = best w.n w.n (left_of w b) (larger w.r)

-- place j has the right end of an overloaded interval
abbrev pub right_of : Windows → ℕ → Bool
right_of w j = ltb (left_end w (w.d j)) w.n

-- the place with the smallest of these right ends; n if there is none
unfoldable pub right_end : Windows → ℕ
right_end w = best w.n w.n (right_of w) (smaller w.d)

-- row 9, which carries a, b and work
unfoldable pub overload_of : Windows → Outcome (Unit {0})
overload_of w =
    let j = right_end w in
    let b = w.d j in
    let a = w.r (left_end w b) in
    first_of (record { holds = ltb j w.n; refusal = code 9 (a ∷ b ∷ work w a b ∷ []) } ∷ []) (answered tt)

-- the same in facts, for all windows: `overload_law` of proofs/ShownInterval.antt
pub record OverloadLaw (w : Windows) : Type 0 where
  pub none : (overload_of w ≡ answered tt) ↔ NoOverload w
  pub shown : (k : Code) → overload_of w ≡ refused k → ShowsOverload w k
