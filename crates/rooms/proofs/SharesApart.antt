-- The shares of one buffer: storing one leaves every byte outside of it.
-- Assumes nothing.
use mathlib.Core.Path.{◌≡◌, sym, ap, ◌∙◌}
use mathlib.Core.List.{List, ◌++◌, append_assoc}
use Prim.Native.Nat.{ℕ, ◌+◌, ◌-◌, ◌*◌, ◌<◌, ◌≤◌}
use native.Mathlib.Omega.{arith}
use lib.ListN.{length, get_or, take, drop, length-append, length-take, length-drop, take-append-drop, get_or-eq_default}
use lib.Seq.{length-take-le, take_at, drop_at, take-append-le, drop-append-le, drop-append-add, drop-drop, get_or-take, get_or-drop}
use Rattle.base.proofs.Sums.{le_or_lt}
use Rattle.list.specs.Machine.{Bytes}
use Rattle.format.proofs.FieldTrip.{bytes_drop}
use Rattle.shares.specs.Shares.{share_bytes}
use Rattle.rooms.specs.Turns.{share_of, put_share}
use Rattle.rooms.specs.Laws.{InShare}

-- a share that lies in front of what follows is a share of the front
share_front : (i : ℕ) (xs ys : List ℕ) → i * share_bytes + share_bytes ≤ length xs → share_of i (xs ++ ys) ≡ share_of i xs
share_front i xs ys h =
    ap (take share_bytes) (drop-append-le (i * share_bytes) xs ys (omega arith))
    ∙ take-append-le share_bytes (drop (i * share_bytes) xs) ys (omega (arith, length-drop (i * share_bytes) xs))

module _ (k : ℕ) (new lists : List ℕ) (long : k * share_bytes + share_bytes ≤ length lists) (size : length new ≡ share_bytes) where
  abbrev start : ℕ
  start = k * share_bytes

  abbrev end : ℕ
  end = k * share_bytes + share_bytes

  abbrev before : List ℕ
  before = take start lists

  abbrev behind : List ℕ
  behind = drop end lists

  before_length : length before ≡ start
  before_length = length-take-le start lists (omega arith)

  front_length : length (before ++ new) ≡ end
  front_length = length-append before new ∙ omega (arith, before_length, size)

  front_apart : put_share k new lists ≡ (before ++ new) ++ behind
  front_apart = sym (append_assoc before new behind)

  pub share_same : share_of k (put_share k new lists) ≡ new
  share_same = ap (take share_bytes) (drop_at before (new ++ behind) start before_length) ∙ take_at new behind share_bytes size

  share_before : (i : ℕ) → i < k → share_of i (put_share k new lists) ≡ share_of i lists
  share_before i h =
      let room : i * share_bytes + share_bytes ≤ length before = omega (arith, before_length) in
      share_front i before (new ++ behind) room
      ∙ sym (share_front i before (drop start lists) room)
      ∙ ap (share_of i) (take-append-drop start lists)

  share_later : (i : ℕ) → k < i → share_of i (put_share k new lists) ≡ share_of i lists
  share_later i h =
      let more = i * share_bytes - end in
      let at : i * share_bytes ≡ length (before ++ new) + more = omega (arith, front_length) in
      let here : i * share_bytes ≡ end + more = omega arith in
      ap (take share_bytes)
      (ap (drop (i * share_bytes)) front_apart
      ∙ ap (λ (n : ℕ). drop n ((before ++ new) ++ behind)) at
      ∙ drop-append-add (before ++ new) behind more
      ∙ drop-drop more end lists
      ∙ ap (λ (n : ℕ). drop n lists) (sym here))

  pub share_other : (i : ℕ) → (i ≡ k → ⊥) → share_of i (put_share k new lists) ≡ share_of i lists
  share_other i ne = le_or_lt k i (λ h. share_later i (omega (arith, ne))) (λ h. share_before i h)

  pub put_length : length (put_share k new lists) ≡ length lists
  put_length =
      length-append before (new ++ behind) ∙ omega (arith, before_length, length-append new behind, size, length-drop end lists)

  byte_before : (j : ℕ) → j < start → get_or (put_share k new lists) j 0 ≡ get_or lists j 0
  byte_before j h =
      sym (get_or-take start (put_share k new lists) j 0 h)
      ∙ ap (λ (xs : List ℕ). get_or xs j 0) (take_at before (new ++ behind) start before_length)
      ∙ get_or-take start lists j 0 h

  byte_behind : (j : ℕ) → end ≤ j → get_or (put_share k new lists) j 0 ≡ get_or lists j 0
  byte_behind j h =
      let here : j ≡ end + (j - end) = omega arith in
      ap (λ (i : ℕ). get_or (put_share k new lists) i 0) here
      ∙ sym (get_or-drop end (put_share k new lists) (j - end) 0)
      ∙ ap (λ (xs : List ℕ). get_or xs (j - end) 0) (ap (drop end) front_apart ∙ drop_at (before ++ new) behind end front_length)
      ∙ get_or-drop end lists (j - end) 0
      ∙ ap (λ (i : ℕ). get_or lists i 0) (sym here)

  pub byte_other : (j : ℕ) → (InShare k j → ⊥) → get_or (put_share k new lists) j 0 ≡ get_or lists j 0
  byte_other j out =
      le_or_lt start j (λ h. le_or_lt end j (byte_behind j) (λ l. absurd (out (h, l)))) (byte_before j)

-- a share stored where it was taken from
pub put_back : (k : ℕ) (lists : List ℕ) → put_share k (share_of k lists) lists ≡ lists
put_back k lists =
    let start = k * share_bytes in
    ap (λ (ys : List ℕ). take start lists ++ (share_of k lists ++ ys)) (sym (drop-drop share_bytes start lists))
    ∙ ap (λ (ys : List ℕ). take start lists ++ ys) (take-append-drop share_bytes (drop start lists))
    ∙ take-append-drop start lists

pub share_size : (i : ℕ) (lists : List ℕ) → i * share_bytes + share_bytes ≤ length lists → length (share_of i lists) ≡ share_bytes
share_size i lists h = length-take-le share_bytes (drop (i * share_bytes) lists) (omega (arith, length-drop (i * share_bytes) lists))

bytes_take : (n : ℕ) (bs : List ℕ) → Bytes bs → Bytes (take n bs)
bytes_take n bs b i =
    le_or_lt n i
    (λ h. let z : get_or (take n bs) i 0 ≡ 0 = get_or-eq_default (take n bs) 0 (omega (arith, length-take n bs)) in omega (arith, z))
    (λ h. omega (arith, get_or-take n bs i 0 h, b i))

pub share_is_bytes : (i : ℕ) (lists : List ℕ) → Bytes lists → Bytes (share_of i lists)
share_is_bytes i lists b = bytes_take share_bytes (drop (i * share_bytes) lists) (bytes_drop lists (i * share_bytes) b)
