-- An array of 64 entries that is filled from its first place on: blank entries stand after those filled.
-- Assumes nothing.
use mathlib.Core.Path.{◌≡◌, sym, ◌∙◌}
use mathlib.Core.List.{List, ◌++◌}
use Prim.Native.Nat.{ℕ, suc, ◌+◌, ◌-◌, ◌<◌}
use native.Mathlib.Omega.{arith}
use lib.ListN.{length, take, drop, set, replicate, take-append-drop}
use lib.Seq.{drop-set-lt, drop-drop}
use Rattle.list.specs.DayLists.{blank, day_list}
use Rattle.list.specs.declared.types.Entry.{Entry}
use Rattle.list.specs.declared.types.Frame.{Frame}

-- one entry more
pub blank_after : (entries : List Entry) (i : ℕ) (e : Entry) → i < 64 → drop i entries ≡ replicate (64 - i) blank
    → drop (i + 1) (set entries i e) ≡ replicate (64 - (i + 1)) blank
blank_after entries i e h unused =
    let z : 64 - i ≡ suc (64 - (i + 1)) = omega arith in
    drop-set-lt (i + 1) entries i e (omega arith) ∙ sym (drop-drop 1 i entries) ∙ rw (unused, z)

-- so it is the list value with the entries filled
pub filled_list : (f : Frame) (n : ℕ) (es entries : List Entry) → length es ≡ n → take n entries ≡ es
    → drop n entries ≡ replicate (64 - n) blank
    → record { frame = f; n = n; entries = entries } ≡ day_list f es
filled_list f n es entries count filled unused = padded (sym (take-append-drop n entries) ∙ rw (filled, unused))
  where
    padded : entries ≡ es ++ replicate (64 - n) blank → record { frame = f; n = n; entries = entries } ≡ day_list f es
    padded e = rw (e, ← count)
