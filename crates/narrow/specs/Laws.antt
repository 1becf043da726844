-- What narrowing answers, over all sets of windows, all plans and all lists of steps.
use Rattle.std.specs.Prelude.{ℕ, ◌+◌, ◌<◌, ◌≤◌, ◌≡◌, ◌↔◌, ◌⊎◌, Bool, true, List, [], ◌∷◌}
use Rattle.base.specs.Outcomes.{Code, code, Outcome, answered, refused}
use Rattle.windows.specs.Windows.{Windows, Inside, with_windows}
use Rattle.windows.specs.Plans.{Plan, Plannable}
use Rattle.windows.specs.Intervals.{ShowsOverload}
use Rattle.narrow.specs.Searching.{Test, SearchLaw}
use Rattle.narrow.specs.Settling.{SettledInside, NoneSettled, Widest, Unbroken, minutes_cut}
use Rattle.narrow.specs.Rounds.{Narrowed, unmoved, moved_before, slack}
use Rattle.narrow.specs.StepLists.{Step, NamesWhole, steps_leave, some_refused, Completes}
use Rattle.narrow.specs.RoundsByPlans.{RoundGives, RoundsGive, rounds_steps}

-- windows v of the entries of w, inside w and with room
pub record RoomInside (w v : Windows) : Type 0 where
  pub entries : v ≡ with_windows w v.r v.d
  pub inside : Inside v w
  pub room : (i : ℕ) → i < w.n → v.r i + w.p i ≤ v.d i

-- row 10 with the place of a whole entry
abbrev pub WholeRefused : (ℕ → Bool) → ℕ → Code → Type 0
WholeRefused whole n k = (i : ℕ) × (i < n) × (whole i ≡ true) × (k ≡ code 10 (i ∷ []))

-- why narrowing w is turned back: by row 9 with the interval shown, where no plan exists, or by row 10, where one does
abbrev pub Reason : (ℕ → Bool) → Windows → Code → Type 0
Reason whole w k = (ShowsOverload w k × (Plannable w → ⊥)) ⊎ (WholeRefused whole w.n k × Plannable w)

-- the outcome o as that of a list of steps ss from the windows w: after it nothing is left to do and it left the windows answered, or one
-- of its steps is refused
abbrev pub FromSteps : Test → (ℕ → Bool) → Windows → List Step → Outcome Narrowed → Type 0
FromSteps test whole w ss (answered v) = Completes test whole w ss × (steps_leave test ss w ≡ v.windows)
FromSteps test whole w ss (refused k) = NamesWhole whole w.n ss × (some_refused test ss w ≡ true)

-- the outcome o of one round of the windows w
pub record RoundLaw (whole : ℕ → Bool) (w : Windows) (o : Outcome Narrowed) : Type 0 where
  -- it is that of the round as document 01 has it, each search of which finds the minute for which a plan exists; whatever moves were made
  -- before, so that rounds may be made one by one
  pub by_plans : (moves : ℕ) → RoundGives whole (record { windows = w; moves = moves }) (moved_before moves o)
  pub inside : (v : Narrowed) → o ≡ answered v → Inside v.windows w
  -- every settled set of windows inside stays inside, and after a refusal there is none
  pub stays : (v : Narrowed) → o ≡ answered v → (r d : ℕ → ℕ) → SettledInside whole w r d → SettledInside whole v.windows r d
  pub none : (k : Code) → o ≡ refused k → NoneSettled whole w
  -- row 10 carries a whole entry's place
  pub ten : (k : Code) → o ≡ refused k → WholeRefused whole w.n k
  -- each move cuts a minute, and one of those that could be cut
  pub moves_cut : (v : Narrowed) → o ≡ answered v → v.moves ≤ minutes_cut w v.windows
  pub moves_slack : (v : Narrowed) → o ≡ answered v → v.moves + slack whole v.windows ≤ slack whole w

-- the outcome o of narrowing the given windows w
pub record NarrowLaw (test : Test) (whole : ℕ → Bool) (w : Windows) (o : Outcome Narrowed) : Type 0 where
  -- a search, in any windows with room inside those given, answers the minute of which document 01 speaks
  pub searches : (v : Windows) → RoomInside w v → (k : ℕ) → k < w.n → SearchLaw test v k
  -- and the windows that a list of steps leaves are such windows
  pub steps_room : (ss : List Step) → NamesWhole whole w.n ss → RoomInside w (steps_leave test ss w)
  -- every settled set inside the given windows is inside those that a list of steps leaves, finished or not
  pub steps_keep : (ss : List Step) → NamesWhole whole w.n ss
      → (r d : ℕ → ℕ) → SettledInside whole w r d → SettledInside whole (steps_leave test ss w) r d
  -- the answer is that of the rounds as document 01 has them, each search of which finds the minute for which a plan exists
  pub by_rounds : Plannable w → RoundsGive whole (unmoved w) o
  -- it is the widest settled set of windows inside those given
  pub widest : (v : Narrowed) → o ≡ answered v → Widest whole w v.windows
  -- or a refusal, exactly when there is none
  pub refused_exactly : ((k : Code) × (o ≡ refused k)) ↔ NoneSettled whole w
  pub reason : (k : Code) → o ≡ refused k → Reason whole w k
  -- lists of steps: if a step of one is refused, the answer is 10 with the place that the rounds give
  pub steps_refused : Plannable w → (ss : List Step) → NamesWhole whole w.n ss → some_refused test ss w ≡ true
      → (i : ℕ) × (o ≡ refused (code 10 (i ∷ []))) × RoundsGive whole (unmoved w) (refused (code 10 (i ∷ [])))
  -- if nothing is left to do after one, the rounds answer the windows that it left
  pub steps_settled : Plannable w → (ss : List Step) → Completes test whole w ss
      → (moves : ℕ) × (o ≡ answered (record { windows = steps_leave test ss w; moves = moves }))
  -- the steps of the rounds are such a list: one after which nothing is left to do, or one that meets a refusal
  pub rounds_steps_lem : Plannable w → (rounds : ℕ) × FromSteps test whole w (rounds_steps whole w.n rounds) o
  -- so two such lists leave the same windows, and if some list meets a refusal there is no such list
  pub order_free : Plannable w → (ss xs : List Step) → Completes test whole w ss → Completes test whole w xs
      → steps_leave test ss w ≡ steps_leave test xs w
  pub refused_once : Plannable w → (ss xs : List Step) → NamesWhole whole w.n ss → some_refused test ss w ≡ true
      → Completes test whole w xs → ⊥
  -- plans that keep all whole entries in one piece are kept, and under a refusal there is none
  pub unbroken_kept : (v : Narrowed) → o ≡ answered v → (m : ℕ → ℕ) → Plan w m → Unbroken whole w m → Plan v.windows m
  pub unbroken_none : (k : Code) → o ≡ refused k → (m : ℕ → ℕ) → Plan w m → Unbroken whole w m → ⊥
  -- each move cuts a minute
  pub moves_cut : (v : Narrowed) → o ≡ answered v → v.moves ≤ minutes_cut w v.windows
