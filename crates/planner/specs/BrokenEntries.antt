-- "`broken` counts whole entries whose planned minutes are not consecutive."
use Rattle.std.specs.Prelude.{ℕ, ◌+◌, ◌≡◌, Bool, true, cond, not, ◌&&◌, eqb}
use Rattle.base.specs.Counting.{sum}
use Rattle.windows.specs.Windows.{Windows}
use Rattle.windows.specs.Plans.{minutes_of, start_of, end_of, Consecutive}

-- entry i is whole and does not have all the minutes from its start to its end
abbrev pub is_broken : (ℕ → Bool) → ℕ → (ℕ → ℕ) → ℕ → Bool
is_broken whole h m i = whole i && not (eqb (start_of h m i + minutes_of h m i) (end_of h m i))

-- how many of the entries are broken in m
unfoldable pub broken_in : (ℕ → Bool) → Windows → (ℕ → ℕ) → ℕ
broken_in whole w m = sum w.n (λ i. cond (is_broken whole w.h m i) 1 0)

-- the same, most plainly: entry i is whole and its minutes are not consecutive
abbrev pub Broken : (ℕ → Bool) → ℕ → (ℕ → ℕ) → ℕ → Type 0
Broken whole h m i = (whole i ≡ true) × ((s e : ℕ) → Consecutive h m i s e → ⊥)
