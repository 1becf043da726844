-- What an answer tells of the outcome that it says; number and values tell one refusal, and an outcome one answer.
-- Assumes nothing.
use mathlib.Core.Path.{◌≡◌, refl, sym, ap, ◌∙◌}
use mathlib.Core.Bool.{cond}
use lib.Dec.{eqb}
use lib.ListN.{get_or}
use Rattle.base.specs.Outcomes.{Code, Outcome, refused, accepts}
use Rattle.list.specs.Refusals.{code_of, outcome_of}
use Rattle.list.specs.declared.types.Refusal.{Refusal}
use Rattle.list.specs.declared.types.Refusal.TheVariants.{BytesMissing, BadDayLength, TooManyEntries, BadMapByte, DefaultWritten}
use Rattle.list.specs.declared.types.Refusal.TheVariants.{NoMinutes, BadWindow, BytesLeftOver, Overloaded, NoPlace, PlanBufferShort}
use Rattle.list.specs.declared.types.Refusal.TheVariants.{ListBufferShort, UnknownPlace, SerialClash, BadOpening}
use Rattle.list.specs.declared.types.Refusal.TheVariants.{BeforeOpening, StaleStamp, DayFull, RoomCount, BadFlatLength}
use Rattle.std.specs.Prelude.{Result, Ok, Err, is_ok, IsErrAnd}
use Rattle.base.proofs.Inversion.{answered_refused, refused_same}

-- what an answer that is known tells of the outcome that it says
pub by_answer : {A : Type 0} {o : Outcome A} {v t : Result A Refusal} → outcome_of v ≡ o → v ≡ t → o ≡ outcome_of t
by_answer says e = sym says ∙ ap outcome_of e

-- whether an answer is no refusal
pub ok_accepts : {A : Type 0} (r : Result A Refusal) → is_ok r ≡ accepts (outcome_of r)
ok_accepts (Ok a) = refl
ok_accepts (Err x) = refl

-- an answer is one thing, and not both
pub the_ok : {A : Type 0} {a b : A} → ◌≡◌ {A = Result A Refusal} (Ok a) (Ok b) → a ≡ b
the_ok e = cc e

pub not_both : {A : Type 0} {r : Result A Refusal} {a : A} {x : Refusal} → r ≡ Ok a → r ≡ Err x → ⊥
not_both e f = answered_refused (ap outcome_of e) (ap outcome_of f)

-- a `?` hands on the refusal that it met
pub passed_on : {A : Type 0} (r : Result A Refusal) (x : Refusal) → IsErrAnd r (λ (y : Refusal). y ≡ x) → r ≡ Err x
passed_on (Ok a) x p = absurd p
passed_on (Err y) x p = ap Err p

pub handed_on : {A : Type 0} (r : Result A Refusal) (x : Refusal) → IsErrAnd r (λ (y : Refusal). y ≡ x) → outcome_of r ≡ refused (code_of x)
handed_on r x p = ap outcome_of (passed_on r x p)

-- the refusal with these number and values
abbrev refusal_of : Code → Refusal
refusal_of k =
    let n = k.number in
    let x = get_or k.carries 0 0 in
    cond (eqb n 1) (BytesMissing x)
    (cond (eqb n 2) BadDayLength
    (cond (eqb n 3) (TooManyEntries x)
    (cond (eqb n 4) (BadMapByte x)
    (cond (eqb n 5) (DefaultWritten x)
    (cond (eqb n 6) (NoMinutes x)
    (cond (eqb n 7) (BadWindow x)
    (cond (eqb n 8) (BytesLeftOver x)
    (cond (eqb n 9) (Overloaded x (get_or k.carries 1 0) (get_or k.carries 2 0))
    (cond (eqb n 10) (NoPlace x)
    (cond (eqb n 11) (PlanBufferShort x)
    (cond (eqb n 12) (ListBufferShort x)
    (cond (eqb n 13) (UnknownPlace x)
    (cond (eqb n 14) (SerialClash x)
    (cond (eqb n 15) (BadOpening x)
    (cond (eqb n 16) (BeforeOpening x)
    (cond (eqb n 17) (StaleStamp x)
    (cond (eqb n 18) (DayFull x)
    (cond (eqb n 19) (RoomCount x) (BadFlatLength x)))))))))))))))))))

refusal_is : (x : Refusal) → refusal_of (code_of x) ≡ x
refusal_is (BytesMissing x) = refl
refusal_is BadDayLength = refl
refusal_is (TooManyEntries x) = refl
refusal_is (BadMapByte x) = refl
refusal_is (DefaultWritten x) = refl
refusal_is (NoMinutes x) = refl
refusal_is (BadWindow x) = refl
refusal_is (BytesLeftOver x) = refl
refusal_is (Overloaded a b x) = refl
refusal_is (NoPlace x) = refl
refusal_is (PlanBufferShort x) = refl
refusal_is (ListBufferShort x) = refl
refusal_is (UnknownPlace x) = refl
refusal_is (SerialClash x) = refl
refusal_is (BadOpening x) = refl
refusal_is (BeforeOpening x) = refl
refusal_is (StaleStamp x) = refl
refusal_is (DayFull x) = refl
refusal_is (RoomCount x) = refl
refusal_is (BadFlatLength x) = refl

-- so no two refusals have the same number and values
pub one_refusal : (j k : Refusal) → code_of j ≡ code_of k → j ≡ k
one_refusal j k e = sym (refusal_is j) ∙ ap refusal_of e ∙ refusal_is k

-- so an outcome is that of one answer
pub one_answer : {A : Type 0} (u v : Result A Refusal) → outcome_of u ≡ outcome_of v → u ≡ v
one_answer (Ok a) (Ok b) e = let same : a ≡ b = cc e in ap Ok same
one_answer (Ok a) (Err k) e = absurd (answered_refused refl e)
one_answer (Err j) (Ok b) e = absurd (answered_refused refl (sym e))
one_answer (Err j) (Err k) e = ap Err (one_refusal j k (refused_same refl e))
