-- Steps of the report's writer, one after the other.
-- Assumes nothing.
use mathlib.Core.Path.{◌≡◌, sym, ap, subst, ◌∙◌}
use mathlib.Core.List.{List, [], ◌∷◌, ◌++◌, append_assoc, append-nil}
use Prim.Native.Nat.{ℕ, ◌+◌, ◌/◌, ◌%◌, ◌≤◌, ◌<◌}
use native.Mathlib.Numerals.{add-one}
use native.Mathlib.Nat.{mod-eq_of_lt}
use native.Mathlib.Omega.{arith}
use lib.ListN.{length, get_or, take, length-append}
use lib.Seq.{take-suc, take-length}
use Rattle.report.specs.Text.{decimal, texts}
use Rattle.report.specs.Internal.{Puts}
use Rattle.report.proofs.Texts.{decimal_one, decimal_more}

pub puts_nothing : (room : ℕ) (old : List ℕ) → Puts room old [] old
puts_nothing room old = record { put = λ _. sym (append-nil old) }

pub puts_then : {room : ℕ} {old a mid b new : List ℕ} → Puts room old a mid → Puts room mid b new → Puts room old (a ++ b) new
puts_then {room} {old} {a} {mid} {b} p q =
    record {
      put = λ fits.
          let long = length-append a b in
          let is : mid ≡ old ++ a = p.put (omega (arith, fits, long)) in
          let now : length mid ≡ length old + length a = ap (λ (l : List ℕ). length l) is ∙ length-append old a in
          q.put (omega (arith, fits, long, now)) ∙ ap (λ (l : List ℕ). l ++ b) is ∙ append_assoc old a b;
    }

-- a number: one digit, or the digits of its tenth and then its last one
pub puts_digit : {room : ℕ} {old new : List ℕ} (x : ℕ) → x < 10 → Puts room old ((48 + x % 10) ∷ []) new → Puts room old (decimal x) new
puts_digit x h p = rw (decimal_one x h) (rw (mod-eq_of_lt h) at p)

pub puts_digits : {room : ℕ} {old mid new : List ℕ} (x : ℕ) → 10 ≤ x → Puts room old (decimal (x / 10)) mid
    → Puts room mid ((48 + x % 10) ∷ []) new → Puts room old (decimal x) new
puts_digits x h p q = rw (decimal_more x h) (puts_then p q)

-- A loop's steps: i of n were made, and the text so far was put.
pub record PutSoFar (room : ℕ) (from text now : List ℕ) (i n : ℕ) : Type 0 where
  pub passed : i ≤ n
  pub puts : Puts room from text now

pub so_far_none : (room : ℕ) (from : List ℕ) (n : ℕ) → PutSoFar room from [] from 0 n
so_far_none room from n = record { passed = omega arith; puts = puts_nothing room from }

so_far_next : {room : ℕ} {from text now : List ℕ} {i n : ℕ} (more all : List ℕ) {new : List ℕ} → all ≡ text ++ more
    → PutSoFar room from text now i n → i < n → Puts room now more new → PutSoFar room from all new (i + 1) n
so_far_next {room} {from} {i = i} {n} more all {new} e so below p =
    subst (λ (t : List ℕ). PutSoFar room from t new (i + 1) n) (sym e)
    (record { passed = omega arith; puts = puts_then so.puts p })

-- the bytes of a text one by one
module _ {room : ℕ} {from now : List ℕ} {i : ℕ} (bytes : List ℕ) (so : PutSoFar room from (take i bytes) now i (length bytes)) where
  pub bytes_next : {new : List ℕ} → i < length bytes → Puts room now (get_or bytes i 0 ∷ []) new
      → PutSoFar room from (take (i + 1) bytes) new (i + 1) (length bytes)
  bytes_next below p = so_far_next (get_or bytes i 0 ∷ []) _ (rw (add-one i) (take-suc bytes i 0 below)) so below p

  pub bytes_done : length bytes ≤ i → Puts room from bytes now
  bytes_done end =
      let z : i ≡ length bytes = omega (arith, so.passed) in
      rw (z, take-length bytes) at so.puts

-- the texts of 0, .., n - 1 one by one
module _ {room : ℕ} {from now : List ℕ} {i : ℕ} (n : ℕ) (f : ℕ → List ℕ) (so : PutSoFar room from (texts i f) now i n) where
  pub texts_next : {new : List ℕ} → i < n → Puts room now (f i) new → PutSoFar room from (texts (i + 1) f) new (i + 1) n
  unfolding texts
  texts_next below p = so_far_next (f i) _ (rw (add-one i)) so below p

  pub texts_done : n ≤ i → Puts room from (texts n f) now
  texts_done end = let z : i ≡ n = omega (arith, so.passed) in rw z at so.puts
