-- Narrowing the fast way (request 7): each start by jumps, each end by jumps in the mirror, and rounds that begin with the first place that
-- a visit would move. `order` gives windows their places with the largest r first. That this answers what `narrowing` of Rounds.antt does,
-- where each search tries every start, is `FastLaw`.
use Rattle.std.specs.Prelude.{ℕ, zero, suc, ◌+◌, ◌<◌, ◌≡◌, ◌↔◌, Bool, false, cond, not, ◌&&◌, [], ◌∷◌, eqb, ltb, None, Option, Some}
use Rattle.base.specs.Outcomes.{code, Outcome, answered, refused, and_then, accepts}
use Rattle.base.specs.Counting.{first_below}
use Rattle.windows.specs.Windows.{Windows, with_r}
use Rattle.windows.specs.Plans.{Plannable}
use Rattle.windows.specs.Mirrors.{mirror}
use Rattle.windows.specs.Intervals.{overload_of}
use Rattle.windows.specs.RunningSums.{LatestReleaseFirst}
use Rattle.edges.specs.Starts.{start_by_jumps}
use Rattle.edges.specs.Ends.{closed_end}
use Rattle.narrow.specs.Rounds.{Side, earliest, latest, Narrowed, counted, unmoved, visit, round, slack, narrowing}

-- the outcome of a search for entry k
abbrev pub found_of : ℕ → Option ℕ → Outcome ℕ
found_of k (Some t) = answered t
found_of k None = refused (code 10 (k ∷ []))

-- whether a visit would move an entry: it is whole, and its least end in closed form is not r + p, or in the mirror, where its r is `from`
-- and its least end `late`, not from + p
abbrev pub would_move : Bool → ℕ → ℕ → ℕ → ℕ → ℕ → Bool
would_move whole r from p end late = whole && not (eqb end (r + p) && eqb late (from + p))

abbrev pub moves_at : (ℕ → Bool) → Windows → ℕ → Bool
moves_at whole w k = would_move (whole k) (w.r k) ((mirror w).r k) (w.p k) (closed_end w k) (closed_end (mirror w) k)

-- the first place that a visit would move, or n if there is none
unfoldable pub first_moved : (ℕ → Bool) → Windows → ℕ
first_moved whole w = first_below w.n (moves_at whole w)

-- one round of windows without a plan: the first whole entry is refused
unfoldable pub unplanned_round : (ℕ → Bool) → Windows → Outcome Narrowed
unplanned_round whole w = let k = first_below w.n whole in cond (ltb k w.n) (refused (code 10 (k ∷ []))) (answered (unmoved w))

module _ (order : Windows → ℕ → ℕ) (whole : ℕ → Bool) where
  abbrev pub fast_step : Side → ℕ → Windows → Outcome Windows
  fast_step earliest k w = and_then (found_of k (start_by_jumps w (order w) k)) (λ s. answered (with_r w k s))
  fast_step latest k w =
      and_then (found_of k (start_by_jumps (mirror w) (order (mirror w)) k)) (λ s. answered (mirror (with_r (mirror w) k s)))

  abbrev pub fast_side : Side → ℕ → Narrowed → Outcome Narrowed
  fast_side side k s = and_then (fast_step side k s.windows) (λ v. answered (counted k s v))

  abbrev pub fast_visit : ℕ → Narrowed → Outcome Narrowed
  fast_visit k s = cond (whole k) (and_then (fast_side earliest k s) (fast_side latest k)) (answered s)

  -- the visits to the places below k; those below `first` are passed over
  unfoldable pub fast_visits : ℕ → ℕ → Narrowed → Outcome Narrowed
  fast_visits first zero s = answered s
  fast_visits first (suc k) s = cond (ltb k first) (answered s) (and_then (fast_visits first k s) (fast_visit k))

  abbrev pub fast_round : Narrowed → Outcome Narrowed
  fast_round s = fast_visits (first_moved whole s.windows) s.windows.n s

  unfoldable pub fast_rounds : ℕ → Narrowed → Outcome Narrowed
  fast_rounds zero s = answered s
  fast_rounds (suc fuel) s = and_then (fast_round s) (λ v. cond (eqb v.moves s.moves) (answered v) (fast_rounds fuel v))

  -- row 9, then rounds
  unfoldable pub fast_narrowing : Windows → Outcome Narrowed
  fast_narrowing w = and_then (overload_of w) (λ _. fast_rounds (suc (slack whole w)) (unmoved w))

  -- one round, for which row 9 is not told
  unfoldable pub fast_one_round : Windows → Outcome Narrowed
  fast_one_round w = cond (accepts (overload_of w)) (fast_round (unmoved w)) (unplanned_round whole w)

-- the law, for windows with room: the fast way and the defined way refuse alike or agree in windows and moves
pub record FastLaw (whole : ℕ → Bool) (w : Windows) : Type 0 where
  pub narrowed : (order : Windows → ℕ → ℕ) → ((v : Windows) → LatestReleaseFirst v (order v))
      → fast_narrowing order whole w ≡ narrowing overload_of whole w
  -- the round for which row 9 is not told
  pub one_round : (order : Windows → ℕ → ℕ) → ((v : Windows) → LatestReleaseFirst v (order v))
      → fast_one_round order whole w ≡ round overload_of whole (unmoved w)
  -- where a plan exists, the places that the closed forms say would not move are those that a visit does not change
  pub not_moved : Plannable w → (k : ℕ) → k < w.n
      → (moves_at whole w k ≡ false) ↔ (visit overload_of whole k (unmoved w) ≡ answered (unmoved w))
