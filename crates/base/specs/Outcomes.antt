-- What a call answers, and how the rows of "Where a list is turned back" are tested.
use Rattle.std.specs.Prelude.{ℕ, Bool, true, false, cond, List, [], ◌∷◌}

-- a refusal: its number and the values that it carries
pub record Code : Type 0 where
  pub number : ℕ
  pub carries : List ℕ

abbrev pub code : ℕ → List ℕ → Code
code k xs = record { number = k; carries = xs }

-- the thing asked for, or a refusal
pub data Outcome (A : Type 0) : Type 0 where
  answered : A → Outcome A
  refused : Code → Outcome A

-- a row of the table: whether its condition holds, and its refusal
pub record Row : Type 0 where
  pub holds : Bool
  pub refusal : Code

-- the row with number k and condition b, which carries x
abbrev pub row : ℕ → Bool → ℕ → Row
row k b x = record { holds = b; refusal = code k (x ∷ []) }

-- "Rows are tested in this order ..; the first that holds is given, none otherwise."
abbrev pub first_of : {A : Type 0} → List Row → Outcome A → Outcome A
first_of [] a = a
first_of (w ∷ ws) a = cond w.holds (refused w.refusal) (first_of ws a)

-- the rest of a rule, given what was answered so far; a refusal stays
abbrev pub and_then : {A B : Type 0} → Outcome A → (A → Outcome B) → Outcome B
and_then (answered a) f = f a
and_then (refused k) f = refused k

-- whether an outcome is no refusal
abbrev pub accepts : {A : Type 0} → Outcome A → Bool
accepts (answered a) = true
accepts (refused k) = false
