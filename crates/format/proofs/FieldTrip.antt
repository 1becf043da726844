-- Fields and back: what is written is read again, and bytes that are read are the field's own bytes. A minute's field may be missing.
-- Assumes nothing.
use mathlib.Core.Path.{◌≡◌, refl, sym, ap, ◌∙◌}
use mathlib.Core.Bool.{Bool, true, false, cond, not, ◌&&◌}
use mathlib.Core.List.{List, [], ◌∷◌, ◌++◌}
use Prim.Native.Nat.{ℕ, ◌+◌, ◌*◌, ◌/◌, ◌%◌, ◌^◌, ◌≤◌, ◌<◌}
use native.Mathlib.Nat.{add_assoc, add-zero}
use native.Mathlib.Numerals.{add-one}
use native.Mathlib.Omega.{arith}
use borrow.Author.Tests.{eqb-true, eq-eqb}
use lib.Dec.{eqb}
use lib.ListN.{length, get_or, drop}
use lib.Seq.{drop-cons, drop-drop, drop_at, get_or-drop}
use Rattle.list.specs.Machine.{Bytes}
use Rattle.format.specs.LittleEndian.{u16_at, u32_at, u16_bytes, u32_bytes}
use Rattle.format.specs.Forms.{minute_bytes}

pub bytes_drop : (bs : List ℕ) (k : ℕ) → Bytes bs → Bytes (drop k bs)
bytes_drop bs k h i = rw get_or-drop (h (k + i))

pub u16_back : (x : ℕ) (tail : List ℕ) → x < 65536 → u16_at (u16_bytes x ++ tail) 0 ≡ x
u16_back x tail h = omega arith

u32_back : (x : ℕ) (tail : List ℕ) → x < 2 ^ 32 → u32_at (u32_bytes x ++ tail) 0 ≡ x
u32_back x tail h = omega (arith, u16_back (x % 65536) [] (omega arith), u16_back (x / 65536) [] (omega arith))

u16_form : (a b : ℕ) → a < 256 → b < 256 → u16_bytes (a + 256 * b) ≡ a ∷ b ∷ []
u16_form a b p q =
    let low : (a + 256 * b) % 256 ≡ a = omega arith in
    let high : (a + 256 * b) / 256 ≡ b = omega arith in
    let byte : b % 256 ≡ b = omega arith in
    rw (low, high, byte)

u32_form : (x y : ℕ) → x < 65536 → y < 65536 → u32_bytes (x + 65536 * y) ≡ u16_bytes x ++ u16_bytes y
u32_form x y p q =
    let low : (x + 65536 * y) % 65536 ≡ x = omega arith in
    let high : (x + 65536 * y) / 65536 ≡ y = omega arith in
    rw (low, high)

-- the same at a place i of bs
module _ (bs : List ℕ) (i : ℕ) where
  -- past n bytes that stand there
  pub past_field : (xs tail : List ℕ) (n : ℕ) → length xs ≡ n → drop i bs ≡ xs ++ tail → drop (i + n) bs ≡ tail
  past_field xs tail n l e = rw (← drop-drop, e) (drop_at xs tail n l)

  u16_place : u16_at (drop i bs) 0 ≡ u16_at bs i
  u16_place = simp (get_or-drop, add-zero)

  u32_place : u32_at (drop i bs) 0 ≡ u32_at bs i
  u32_place = simp (get_or-drop, add-zero, add_assoc)

  pub u16_read : (x : ℕ) (tail : List ℕ) → x < 65536 → drop i bs ≡ u16_bytes x ++ tail → u16_at bs i ≡ x
  u16_read x tail h e = sym u16_place ∙ rw e (u16_back x tail h)

  pub u32_read : (x : ℕ) (tail : List ℕ) → x < 2 ^ 32 → drop i bs ≡ u32_bytes x ++ tail → u32_at bs i ≡ x
  u32_read x tail h e = sym u32_place ∙ rw e (u32_back x tail h)

  -- a minute is read back, where its field is missing as its default
  pub minute_read : (x x₀ : ℕ) → x < 65536 → (t : Bool) → eqb x x₀ ≡ t → (tail : List ℕ) → drop i bs ≡ minute_bytes (not t) x ++ tail
      → x ≡ cond (not t) (u16_at bs i) x₀
  minute_read x x₀ h true q tail e = eqb-true _ _ q
  minute_read x x₀ h false q tail e = sym (u16_read x tail h e)

  pub byte_stands : i < length bs → drop i bs ≡ get_or bs i 0 ∷ drop (i + 1) bs
  byte_stands h = rw add-one (drop-cons bs i 0 h)

module _ (bs : List ℕ) (b : Bytes bs) where
  u16_small : (i : ℕ) → u16_at bs i < 65536
  u16_small i = omega (arith, b i, b (i + 1))

  pub u32_small : (i : ℕ) → u32_at bs i < 2 ^ 32
  u32_small i = omega (arith, u16_small i, u16_small (i + 2))

  pub u16_stands : (i : ℕ) → i + 2 ≤ length bs → drop i bs ≡ u16_bytes (u16_at bs i) ++ drop (i + 2) bs
  u16_stands i h =
      byte_stands bs i (omega arith)
      ∙ ap (λ (l : List ℕ). get_or bs i 0 ∷ l) (rw (add_assoc i 1 1) at (byte_stands bs (i + 1) (omega arith)))
      ∙ ap (λ (l : List ℕ). l ++ drop (i + 2) bs) (sym (u16_form _ _ (b i) (b (i + 1))))

  pub u32_stands : (i : ℕ) → i + 4 ≤ length bs → drop i bs ≡ u32_bytes (u32_at bs i) ++ drop (i + 4) bs
  u32_stands i h =
      u16_stands i (omega arith)
      ∙ ap (λ (l : List ℕ). u16_bytes (u16_at bs i) ++ l) (rw (add_assoc i 2 2) at (u16_stands (i + 2) (omega arith)))
      ∙ ap (λ (l : List ℕ). l ++ drop (i + 4) bs) (sym (u32_form _ _ (u16_small i) (u16_small (i + 2))))

-- a minute that is not a written default: its field follows again exactly if it did
pub written_again : (w : Bool) (x x₀ : ℕ) → w && eqb (cond w x x₀) x₀ ≡ false → not (eqb (cond w x x₀) x₀) ≡ w
written_again true x x₀ e = rw e
written_again false x x₀ e = rw (eq-eqb x₀ x₀ refl)

-- and its bytes stand where it was read
pub minute_stands : (bs : List ℕ) → Bytes bs → (i : ℕ) (w : Bool) (x₀ : ℕ) → i + cond w 2 0 ≤ length bs
    → w && eqb (cond w (u16_at bs i) x₀) x₀ ≡ false
    → drop i bs ≡ minute_bytes (not (eqb (cond w (u16_at bs i) x₀) x₀)) (cond w (u16_at bs i) x₀) ++ drop (i + cond w 2 0) bs
minute_stands bs b i true x₀ l e = simp e (u16_stands bs b i l)
minute_stands bs b i false x₀ l e = simp (eq-eqb x₀ x₀ refl, add-zero)
