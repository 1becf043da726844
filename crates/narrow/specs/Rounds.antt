-- Rounds of visits.
use Rattle.std.specs.Prelude.{ℕ, zero, suc, ◌+◌, ◌-◌, Bool, cond, eqb}
use Rattle.base.specs.Outcomes.{Outcome, answered, and_then}
use Rattle.base.specs.Counting.{sum}
use Rattle.windows.specs.Windows.{Windows, with_r, with_d}
use Rattle.narrow.specs.Searching.{Test, least_start, greatest_end}

-- a side of a window: r, its earliest minute, or d, its latest
pub data Side : Type 0 where
  earliest : Side
  latest : Side

-- "it makes a round's search for that entry's r, or the one for its d with the r it then has"
abbrev pub step : Test → Side → ℕ → Windows → Outcome Windows
step test earliest k w = and_then (least_start test w k) (λ s. answered (with_r w k s))
step test latest k w = and_then (greatest_end test w k) (λ e. answered (with_d w k e))

-- windows, and the moves made so far
pub record Narrowed : Type 0 where
  pub windows : Windows
  pub moves : ℕ

-- nothing moved yet
abbrev pub unmoved : Windows → Narrowed
unmoved w = record { windows = w; moves = 0 }

-- "A changed r is one move, a changed d another."
abbrev pub moved : ℕ → ℕ → ℕ
moved before after = cond (eqb before after) 0 1

-- the moves that a change of entry k from w to v makes
abbrev pub moves_of : ℕ → Windows → Windows → ℕ
moves_of k w v = moved (w.r k) (v.r k) + moved (w.d k) (v.d k)

-- "The moves are counted as they are made and carried in the result": windows v after s, where those of entry k may have changed
abbrev pub counted : ℕ → Narrowed → Windows → Narrowed
counted k s v = record { windows = v; moves = s.moves + moves_of k s.windows v }

-- a search of a round, with its moves
unfoldable pub narrow_side : Test → Side → ℕ → Narrowed → Outcome Narrowed
narrow_side test side k s = and_then (step test side k s.windows) (λ v. answered (counted k s v))

-- "pause entries are passed over. For a whole entry, its r becomes .. Then its d becomes ..": `whole k` says whether entry k is whole
unfoldable pub visit : Test → (ℕ → Bool) → ℕ → Narrowed → Outcome Narrowed
visit test whole k s = cond (whole k) (and_then (narrow_side test earliest k s) (narrow_side test latest k)) (answered s)

-- "A round visits places from 0 up": those below k
unfoldable pub visits : Test → (ℕ → Bool) → ℕ → Narrowed → Outcome Narrowed
visits test whole zero s = answered s
visits test whole (suc k) s = and_then (visits test whole k s) (visit test whole k)

-- an outcome with so many moves made before it
abbrev pub moved_before : ℕ → Outcome Narrowed → Outcome Narrowed
moved_before m o = and_then o (λ v. answered (record { windows = v.windows; moves = m + v.moves }))

-- one round: a visit to each place
abbrev pub round : Test → (ℕ → Bool) → Narrowed → Outcome Narrowed
round test whole s = visits test whole s.windows.n s

-- "Then rounds follow. .. A round without moves is the last, and what it leaves are the windows answered": after so many rounds it stops
-- with the windows that it has, which never happens where `narrowing` uses it (`by_rounds` of Laws.antt)
unfoldable pub rounds : Test → (ℕ → Bool) → ℕ → Narrowed → Outcome Narrowed
rounds test whole zero s = answered s
rounds test whole (suc fuel) s =
    and_then (round test whole s) (λ v. cond (eqb v.moves s.moves) (answered v) (rounds test whole fuel v))

-- the minutes that can still be cut; each round but the last cuts at least one, so that one round more is enough
abbrev pub slack : (ℕ → Bool) → Windows → ℕ
slack whole w = sum w.n (λ i. cond (whole i) (w.d i - (w.r i + w.p i)) 0)

-- all of them, from windows in which nothing was moved yet
abbrev pub all_rounds : Test → (ℕ → Bool) → Windows → Outcome Narrowed
all_rounds test whole w = rounds test whole (suc (slack whole w)) (unmoved w)

-- "First the given windows are tested for overload. Then rounds follow."
unfoldable pub narrowing : Test → (ℕ → Bool) → Windows → Outcome Narrowed
narrowing test whole w = and_then (test w) (λ _. all_rounds test whole w)
