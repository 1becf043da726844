-- The first eight rows: up to eight rows stand there as they are, and behind them rows that no room has.
-- Assumes nothing.
use mathlib.Core.Path.{◌≡◌, refl, ap, ◌∙◌}
use mathlib.Core.List.{List, map, [], ◌∷◌, ◌++◌}
use Prim.Native.Nat.{ℕ, zero, suc, ◌+◌, ◌-◌, ◌<◌, ◌≤◌}
use native.Mathlib.Omega.{arith}
use lib.ListN.{length, get_or, take, replicate}
use lib.Seq.{take-append_seam}
use Rattle.rooms.specs.Turns.{most_rooms, no_row, eight_rows}
use Rattle.std.specs.Array.{IsFromFnResult, IsFromFnResultFrom}
use Rattle.std.specs.Fn.{Called}
use Rattle.std.specs.List.{range_with_len}
use Rattle.std.proofs.lemmas.List.FromFn.{fill_by_all}
use denote.Param.Members.{Mut}
use Rattle.base.proofs.Sums.{same_cases}
use Rattle.rooms.specs.declared.types.Room.{Room}

abbrev pub eight : List Room → List Room
eight rows = eight_rows rows no_row

padded : List Room → List Room
padded rows = rows ++ replicate (most_rooms - length rows) no_row

eight_padded : (rows : List Room) → length rows ≤ most_rooms → eight rows ≡ padded rows
unfolding padded
eight_padded [] h = refl
eight_padded (a ∷ []) h = refl
eight_padded (a ∷ b ∷ []) h = refl
eight_padded (a ∷ b ∷ c ∷ []) h = refl
eight_padded (a ∷ b ∷ c ∷ d ∷ []) h = refl
eight_padded (a ∷ b ∷ c ∷ d ∷ e ∷ []) h = refl
eight_padded (a ∷ b ∷ c ∷ d ∷ e ∷ f ∷ []) h = refl
eight_padded (a ∷ b ∷ c ∷ d ∷ e ∷ f ∷ g ∷ []) h = refl
eight_padded (a ∷ b ∷ c ∷ d ∷ e ∷ f ∷ g ∷ i ∷ []) h = refl
eight_padded (a ∷ b ∷ c ∷ d ∷ e ∷ f ∷ g ∷ i ∷ j ∷ rows) h = absurd (omega arith)

-- Eight calls of a closure, one for each place, that give the rows.
module _ {F : Type 0} (g : Mut F (ℕ × Unit {0}) Room) (f : F) (row : ℕ → Room)
    (step : (i : ℕ) (r : Room) (q : F) → Called g f (i, tt) r q → (q ≡ f) × (r ≡ row i)) (rows : List Room) where
  given_at : (i n : ℕ) (p : F) → p ≡ f → IsFromFnResultFrom g p rows i n → (k : ℕ) → i ≤ k → k < i + n → (d : Room)
      → get_or rows k d ≡ row k
  given_at i zero p e given k l u d = absurd (omega arith)
  given_at i (suc n) p e (q, r, at, call, given) k l u d =
      let so = step i r q (rw e at call) in
      same_cases k i
      (λ z _. rw z (at.1 d ∙ so.1))
      (λ z _. given_at (i + 1) n q so.0 given k (omega arith) (omega arith) d)

  pub given_eight : IsFromFnResult g f rows most_rooms → rows ≡ map row (range_with_len 0 most_rooms)
  given_eight given =
      fill_by_all row rows most_rooms no_row given.long
      (λ k u. given_at 0 most_rooms f refl given.each k (omega arith) u no_row)

-- so each stands at its place
past_rows : (k i : ℕ) → get_or (replicate k no_row) i no_row ≡ no_row
past_rows zero i = refl
past_rows (suc k) zero = refl
past_rows (suc k) (suc i) = past_rows k i

pad_at : (rows : List Room) (k i : ℕ) → get_or (rows ++ replicate k no_row) i no_row ≡ get_or rows i no_row
pad_at [] k i = past_rows k i
pad_at (r ∷ rows) k zero = refl
pad_at (r ∷ rows) k (suc i) = pad_at rows k i

pub eight_at : (rows : List Room) → length rows ≤ most_rooms → (i : ℕ) → get_or (eight rows) i no_row ≡ get_or rows i no_row
unfolding padded
eight_at rows h i = ap (λ (xs : List Room). get_or xs i no_row) (eight_padded rows h) ∙ pad_at rows (most_rooms - length rows) i

-- the rows themselves are the first of them
pub first_rows : (rows : List Room) → length rows ≤ most_rooms → take (length rows) (eight rows) ≡ rows
unfolding padded
first_rows rows h = ap (take (length rows)) (eight_padded rows h) ∙ take-append_seam rows _
