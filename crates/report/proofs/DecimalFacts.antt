-- Numbers are printed in base ten.
-- Assumes nothing.
use mathlib.Core.Path.{◌≡◌, refl}
use mathlib.Core.List.{List, [], ◌∷◌, ◌++◌}
use Prim.Native.Nat.{ℕ, zero, suc, ◌+◌, ◌*◌, ◌-◌, ◌/◌, ◌%◌, ◌<◌, ◌≤◌}
use native.Mathlib.Omega.{arith}
use lib.ListN.{length, get_or, length-append, get_or-append}
use lib.Seq.{get_or-append_seam}
use Rattle.base.proofs.Sums.{le_or_lt, below_suc}
use Rattle.report.specs.Text.{decimal, says_after, IsDecimal}
use Rattle.report.proofs.Texts.{decimal_one, decimal_more}

says_append : (v : ℕ) (bs : List ℕ) (d : ℕ) → says_after v (bs ++ (d ∷ [])) ≡ says_after v bs * 10 + (d - 48)
says_append v [] d = refl
says_append v (b ∷ bs) d = says_append (v * 10 + (b - 48)) bs d

-- a first digit 0 is the number 0, or has others after it
zero_alone : (x : ℕ) (bs : List ℕ) → IsDecimal x bs → 1 ≤ x → get_or bs 0 0 ≡ 48 → ⊥
zero_alone x [] is more e = absurd (omega (arith, is.some))
zero_alone x (b ∷ []) is more e = omega (arith, is.value, e)
zero_alone x (b ∷ c ∷ bs) is more e = is.first (omega arith) e

-- a number below ten
one_digit : (x : ℕ) → x < 10 → IsDecimal x ((48 + x) ∷ [])
one_digit x less =
    record {
      some = omega arith;
      each = elim [ zero ↦ λ _. (omega arith, omega arith) | suc i ↦ λ h. absurd (omega arith) ];
      first = λ h. absurd (omega arith);
      value = omega arith;
    }

-- one digit more
more_digits : (x : ℕ) (bs : List ℕ) → 10 ≤ x → IsDecimal (x / 10) bs → IsDecimal x (bs ++ ((48 + x % 10) ∷ []))
more_digits x bs more tenth =
    let d = 48 + x % 10 in
    record {
      some = simp length-append (omega arith);
      each =
          λ i h.
          below_suc (length bs) (λ j. (48 ≤ get_or (bs ++ (d ∷ [])) j 0) × (get_or (bs ++ (d ∷ [])) j 0 ≤ 57))
          (λ j l. rw (get_or-append bs (d ∷ []) 0 j l) (tenth.each j l))
          (rw (get_or-append_seam bs d [] 0) (omega arith, omega arith))
          i (omega (arith, length-append bs (d ∷ [])));
      first = λ h. rw (get_or-append bs (d ∷ []) 0 0 tenth.some) (zero_alone (x / 10) bs tenth (omega arith));
      value = omega (arith, says_append 0 bs d, tenth.value);
    }

below : (k x : ℕ) → x < k → IsDecimal x (decimal x)
below zero x h = absurd (omega arith)
below (suc k) x h =
    le_or_lt 10 x
    (λ more. rw (decimal_more x more) (more_digits x (decimal (x / 10)) more (below k (x / 10) (omega arith))))
    (λ less. rw (decimal_one x less) (one_digit x less))

pub decimal_is : (x : ℕ) → IsDecimal x (decimal x)
decimal_is x = below (suc x) x (omega arith)
