-- Text as bytes: words, numbers in base ten, and lines.
use Rattle.std.specs.Prelude.{ℕ, zero, suc, ◌+◌, ◌*◌, ◌-◌, ◌/◌, ◌%◌, ◌<◌, ◌≤◌, ◌≡◌, cond, List, [], ◌∷◌, ◌++◌, length, get_or, ltb}
use Prim.Native.Char.{code}
use Prim.Native.String.{String, [] as []ˢ, ◌∷◌ as ◌∷ˢ◌}

-- a text's bytes: the report has ASCII characters only
unfoldable pub ascii : String → List ℕ
ascii []ˢ = []
ascii (c ∷ˢ s) = code c ∷ ascii s

-- the last k digits of x, or all of them if it has fewer
unfoldable pub digits : ℕ → ℕ → List ℕ
digits zero x = []
digits (suc k) x = cond (ltb x 10) ((48 + x) ∷ []) (digits k (x / 10) ++ ((48 + x % 10) ∷ []))

-- x in base ten; it has no more than x + 1 digits. That these bytes are `IsDecimal` is `decimal_is` of proofs/DecimalFacts.antt.
unfoldable pub decimal : ℕ → List ℕ
decimal x = digits (suc x) x

-- the number that digits say in base ten, the most significant first, where v is what those before them say; 48 is the byte of 0
abbrev pub says_after : ℕ → List ℕ → ℕ
says_after v [] = v
says_after v (b ∷ bs) = says_after (v * 10 + (b - 48)) bs

-- the same, most plainly: these bytes are the number x in base ten
pub record IsDecimal (x : ℕ) (bytes : List ℕ) : Type 0 where
  pub some : 1 ≤ length bytes
  -- each is a digit
  pub each : (i : ℕ) → i < length bytes → (48 ≤ get_or bytes i 0) × (get_or bytes i 0 ≤ 57)
  -- the first is no 0, unless it is the only one
  pub first : 2 ≤ length bytes → get_or bytes 0 0 ≡ 48 → ⊥
  pub value : says_after 0 bytes ≡ x

-- "fields one space apart and every line ended by a newline"
unfoldable pub line : List (List ℕ) → List ℕ
line [] = ascii "\n"
line (f ∷ []) = f ++ ascii "\n"
line (f ∷ g ∷ fs) = f ++ (ascii " " ++ line (g ∷ fs))

-- the texts of 0, .., n - 1, one after the other
unfoldable pub texts : ℕ → (ℕ → List ℕ) → List ℕ
texts zero f = []
texts (suc n) f = texts n f ++ f n
