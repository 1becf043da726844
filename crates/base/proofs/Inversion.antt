-- What an outcome says of the steps that led to it: one fact for the answer and one for the refusal go from step to step.
-- Assumes nothing.
use mathlib.Core.Path.{◌≡◌, refl}
use mathlib.Core.Bool.{Bool, true, false, cond, ◌&&◌, ◌||◌, true≢false, false≢true}
use Prim.Native.Nat.{ℕ}
use native.Mathlib.Omega.{arith}
use Rattle.base.specs.Outcomes.{Code, Outcome, answered, refused, and_then, accepts}

-- an outcome answers one thing or refuses by one code, and not both
pub answered_same : {A : Type 0} {o : Outcome A} {a b : A} → o ≡ answered a → o ≡ answered b → a ≡ b
answered_same e f = cc (e, f)

pub refused_same : {A : Type 0} {o : Outcome A} {a b : Code} → o ≡ refused a → o ≡ refused b → a ≡ b
refused_same e f = cc (e, f)

pub answered_refused : {A : Type 0} {o : Outcome A} {a : A} {x : Code} → o ≡ answered a → o ≡ refused x → ⊥
answered_refused e f = let z : ◌≡◌ {A = ℕ} 0 1 = cc (e, f) in omega arith

-- a test that accepts has answered
pub accepted_answered : (o : Outcome (Unit {0})) → accepts o ≡ true → o ≡ answered tt
accepted_answered (answered _) e = refl
accepted_answered (refused k) e = absurd (false≢true e)

-- P of what is answered, R of a refusal
abbrev pub Says : {A : Type 0} → (A → Type 0) → (Code → Type 0) → Outcome A → Type 0
Says P R (answered a) = P a
Says P R (refused k) = R k

module _ {A : Type 0} (P : A → Type 0) (R : Code → Type 0) where
  -- a row's refusal, or the rows after it
  pub by_row : (t : Bool) (k : Code) (o : Outcome A) → (t ≡ true → R k) → (t ≡ false → Says P R o) → Says P R (cond t (refused k) o)
  by_row true k o p q = p refl
  by_row false k o p q = q refl

  -- one step, then the rest
  pub by_step : {B : Type 0} (Q : B → Type 0) (o : Outcome A) (f : A → Outcome B) → Says P R o → ((a : A) → P a → Says Q R (f a))
      → Says Q R (and_then o f)
  by_step Q (answered a) f p q = q a p
  by_step Q (refused k) f p q = p

  -- one step, then two rests that agree on what it answers
  pub same_after : {B : Type 0} (o : Outcome A) (f g : A → Outcome B) → Says P R o → ((a : A) → P a → f a ≡ g a)
      → and_then o f ≡ and_then o g
  same_after (answered a) f g p q = q a p
  same_after (refused k) f g p q = refl

-- what is said of an outcome, with which outcome it is
pub says_which : {A : Type 0} (P : A → Type 0) (R : Code → Type 0) (o : Outcome A) → Says P R o
    → Says (λ a. P a × (o ≡ answered a)) (λ k. R k × (o ≡ refused k)) o
says_which P R (answered a) p = (p, refl)
says_which P R (refused k) p = (p, refl)

-- what follows of a refusal
pub says_refusal : {A : Type 0} (P : A → Type 0) (R Q : Code → Type 0) (o : Outcome A) → ((k : Code) → R k → Q k) → Says P R o → Says P Q o
says_refusal P R Q (answered a) f p = p
says_refusal P R Q (refused k) f p = f k p

-- where refusals do not count
abbrev pub Anything : Code → Type 0
Anything k = Unit {0}

-- an "and" that holds, and an "or" that does not
pub both : (a b : Bool) → a && b ≡ true → (a ≡ true) × (b ≡ true)
both true b e = (refl, e)
both false b e = absurd (false≢true e)

pub neither : (a b : Bool) → (a || b) ≡ false → (a ≡ false) × (b ≡ false)
neither true b e = absurd (true≢false e)
neither false b e = (refl, e)

-- what follows an outcome is the same if it is the same for each answer
pub then_same : {A B : Type 0} (o : Outcome A) (f g : A → Outcome B) → ((x : A) → o ≡ answered x → f x ≡ g x) → and_then o f ≡ and_then o g
then_same (answered x) f g same = same x refl
then_same (refused k) f g same = refl
