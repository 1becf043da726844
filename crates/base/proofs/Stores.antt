-- Steps of the writer, one after the other.
-- Assumes nothing.
use mathlib.Core.Path.{◌≡◌, refl, sym, ap, ◌∙◌}
use mathlib.Core.List.{List, [], ◌∷◌, ◌++◌}
use Prim.Native.Nat.{ℕ, suc, ◌+◌, ◌≤◌}
use native.Mathlib.Nat.{add-zero}
use native.Mathlib.Omega.{arith}
use lib.ListN.{length, set, length-append}
use lib.Seq.{sets, length-sets}
use Rattle.base.specs.Storing.{Wrote}

pub sets_append : (l : List ℕ) (i : ℕ) (a b : List ℕ) → sets l i (a ++ b) ≡ sets (sets l i a) (i + length a) b
sets_append l i [] b = rw add-zero
sets_append l i (x ∷ a) b =
    let z : suc i + length a ≡ i + suc (length a) = omega arith in
    sets_append (set l i x) (suc i) a b ∙ ap (λ (k : ℕ). sets (sets (set l i x) (suc i) a) k b) z

pub wrote_nothing : (old : List ℕ) (at : ℕ) → Wrote old at [] old at
wrote_nothing old at = record { place = sym (add-zero at); stored = refl }

pub wrote_one : (old : List ℕ) (at x : ℕ) → Wrote old at (x ∷ []) (set old at x) (at + 1)
wrote_one old at x = record { place = refl; stored = refl }

module _ {old : List ℕ} {at : ℕ} {a mid : List ℕ} {half : ℕ} (w : Wrote old at a mid half) where
  pub wrote_length : length mid ≡ length old
  wrote_length = rw w.stored (length-sets old at a)

  pub wrote_more : (b : List ℕ) → sets mid half b ≡ sets old at (a ++ b)
  wrote_more b = rw (w.stored, w.place) (sym (sets_append old at a b))

  pub wrote_then : {b new : List ℕ} {next : ℕ} → Wrote mid half b new next → Wrote old at (a ++ b) new next
  wrote_then {b} {new} {next} v =
      record {
        place = omega (arith, v.place, w.place, length-append a b);
        stored = v.stored ∙ wrote_more b;
      }

  -- what is left of the room that both texts have
  pub room_after_lem : (b : List ℕ) → at + length (a ++ b) ≤ length old → half + length b ≤ length mid
  room_after_lem b h = omega (arith, w.place, wrote_length, simp length-append at h)

pub room_first : (a b : List ℕ) (at n : ℕ) → at + length (a ++ b) ≤ n → at + length a ≤ n
room_first a b at n h = omega (arith, simp length-append at h)
