-- Document 02, one box in two places: "An entry whose given window shares a minute with an earlier entry of the same serial is turned back.
-- Windows that only touch are fine."
use Rattle.std.specs.Prelude.{ℕ, ◌<◌, ◌≤◌, min, max, ◌≡◌, Bool, ◌&&◌, List, length, get_or, eqb, ltb}
use Rattle.base.specs.Outcomes.{Row, row}
use Rattle.base.specs.Counting.{first_below}
use Rattle.list.specs.DayLists.{blank}
use Rattle.list.specs.declared.types.Entry.{Entry}

-- two windows share a minute: the later r is before the earlier d
abbrev pub share_minute : Entry → Entry → Bool
share_minute a b = ltb (max a.r b.r) (min a.d b.d)

-- two entries clash: they have one serial, and their windows share a minute
abbrev pub clash : Entry → Entry → Bool
clash a b = eqb a.serial b.serial && share_minute a b

-- the entry at a place clashes with an earlier one
abbrev pub clashes_earlier : List Entry → ℕ → Bool
clashes_earlier es place = ltb (first_below place (λ i. clash (get_or es i blank) (get_or es place blank))) place

-- "the first in list order", or the number of entries if there is none
unfoldable pub first_clash : List Entry → ℕ
first_clash es = first_below (length es) (clashes_earlier es)

-- row 14, which carries what `carried` says of that entry's place
abbrev pub clash_row : (ℕ → ℕ) → List Entry → Row
clash_row carried es = row 14 (ltb (first_clash es) (length es)) (carried (first_clash es))

-- The same as facts. Minute t lies in the entry's window [r, d).
abbrev pub InWindow : Entry → ℕ → Type 0
InWindow e t = (e.r ≤ t) × (t < e.d)

-- the entries at places i and k, i before k in list order, have one serial, and a minute lies in both windows
pub record Clash (es : List Entry) (i k : ℕ) : Type 0 where
  pub earlier : i < k
  pub in_list : k < length es
  pub serial : (get_or es i blank).serial ≡ (get_or es k blank).serial
  pub minute : ℕ
  pub in_earlier : InWindow (get_or es i blank) minute
  pub in_later : InWindow (get_or es k blank) minute

-- no two entries clash
abbrev pub Apart : List Entry → Type 0
Apart es = (i k : ℕ) → Clash es i k → ⊥

-- the entry at place k clashes with an earlier one, and no entry before it does
pub record FirstClash (es : List Entry) (k : ℕ) : Type 0 where
  pub partner : ℕ
  pub clashes : Clash es partner k
  pub first : (i j : ℕ) → j < k → Clash es i j → ⊥
