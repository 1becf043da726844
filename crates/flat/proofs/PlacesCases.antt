-- The numbers of the 64 places, one after the other.
-- Assumes nothing.
use borrow.Rule.Slice.PartMut.{put_mid}
use mathlib.Core.Path.{◌≡◌, refl}
use mathlib.Core.List.{List, [], ◌++◌, append-nil}
use Prim.Native.Nat.{ℕ, ◌≤◌}
use native.Mathlib.Omega.{arith}
use lib.ListN.{length, drop, length-append, length-drop, drop_of_length-le}
use lib.Seq.{take_at}

-- two runs of 64 numbers copied one behind the other fill 128
pub both_copied : (old front back : List ℕ) {ends starts : List ℕ} → front ≡ ends → back ≡ starts
    → length old ≡ 128 → length ends ≡ 64 → length starts ≡ 64
    → put_mid 64 64 (front ++ drop 64 old) back ≡ ends ++ starts
both_copied old front back {ends} {starts} f b long e s =
    let all : length (ends ++ drop 64 old) ≡ 128 = simp (length-append, length-drop) (omega (arith, long, e)) in
    let none : drop 64 (drop 64 (ends ++ drop 64 old)) ≡ [] =
    let short : length (drop 64 (ends ++ drop 64 old)) ≤ 64 = simp length-drop (omega (arith, all)) in
    drop_of_length-le _ short in
    rw (f, b, take_at ends (drop 64 old) 64 e, none, append-nil) refl
