-- What a buffer holds after numbers were copied to a part of it: the stores of one after the other.
-- Assumes nothing.
use borrow.Rule.Slice.PartMut.{put_mid}
use mathlib.Core.Path.{◌≡◌, sym, ◌∙◌}
use mathlib.Core.List.{List, append_assoc}
use Prim.Native.Nat.{ℕ, ◌+◌, ◌-◌, ◌≤◌}
use native.Mathlib.Omega.{arith}
use lib.ListN.{length, take, drop}
use lib.Seq.{sets, sets-eq}
use Rattle.std.proofs.lemmas.List.Edits.{paste_all}
use Rattle.std.proofs.lemmas.Slice.{put_mid-paste}

pub copied : (old part xs : List ℕ) (at n : ℕ) → at + n ≤ length old → n ≡ length xs → part ≡ xs
    → put_mid at (at + n - at) old part ≡ sets old at xs
copied old part xs at n room long e =
    put_mid-paste at (at + n - at) old part xs n e (omega arith) long
    ∙ paste_all old at xs n long
    ∙ rw long (sym (sets-eq xs old at (omega (arith, long)) ∙ append_assoc (take at old) xs (drop (at + length xs) old)))
