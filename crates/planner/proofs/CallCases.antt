-- The three calls in each case that the code meets.
-- Assumes nothing.
use mathlib.Core.Path.{◌≡◌, refl, sym, ap, ◌∙◌}
use mathlib.Core.Bool.{Bool, true, false, cond}
use mathlib.Core.List.{List, [], ◌∷◌, ◌++◌}
use Prim.Native.Nat.{ℕ, ◌<◌, ◌≤◌}
use native.Mathlib.Omega.{arith}
use borrow.Author.Tests.{le-ltb, le-leb, lt-leb, leb-false, ltb-false}
use lib.ListN.{length, take, drop}
use lib.Seq.{length-take-le, take_at}
use Rattle.base.specs.Outcomes.{Code, code, Row, Outcome, answered, refused, first_of, and_then}
use Rattle.base.proofs.Inversion.{answered_same, answered_refused}
use Rattle.list.specs.Refusals.{code_of, outcome_of}
use Rattle.list.specs.DayLists.{whole_in, marked}
use Rattle.list.specs.Checks.{check_of, WellFormed}
use Rattle.list.specs.declared.types.Refusal.{Refusal}
use Rattle.std.specs.Prelude.{Result, Ok, Err}
use Rattle.list.specs.declared.types.DayList.{DayList}
use Rattle.list.proofs.Sound.{sound_list}
use Rattle.windows.specs.Windows.{Windows, windows_of, windows_in, Formed}
use Rattle.windows.specs.Plans.{places_in}
use Rattle.windows.specs.Calls.{Holds}
use Rattle.windows.specs.declared.types.WindowSet.{WindowSet}
use Rattle.windows.proofs.Room.{formed_passes}
use Rattle.windows.proofs.FormedLists.{list_few, list_formed}
use Rattle.jackson.specs.Minutes.{schedule}
use Rattle.jackson.specs.Calls.{buffer_row, buffer_fault, FillsWindows}
use Rattle.narrow.specs.Settling.{Widest}
use Rattle.narrow.specs.Rounds.{Narrowed}
use Rattle.narrow.specs.Calls.{list_with, listed, narrow_windows, narrowed_by, narrowed_of, narrow_answer_of, narrowed_in, settle_of}
use Rattle.narrow.specs.Calls.{NarrowsWindows, AnswersAs}
use Rattle.narrow.specs.declared.types.NarrowedWindows.{NarrowedWindows}
use Rattle.narrow.specs.declared.types.NarrowedList.{NarrowedList}
use Rattle.narrow.proofs.OverloadPlanner.{overload_planner}
use Rattle.narrow.proofs.StepsKeep.{Keeps}
use Rattle.narrow.proofs.Fixpoints.{widest_formed}
use Rattle.narrow.proofs.NarrowLaws.{narrow_law}
use Rattle.narrow.proofs.ListAnswers.{settle_keeps, holds_answer}
use Rattle.bounds.specs.ShownPlans.{bound_of, shown_plan}
use Rattle.bounds.specs.Ends.{least_ends, greatest_starts}
use Rattle.bounds.specs.Calls.{in_room, HoldsBounds, place_row, show_rows, StoresPlan}
use Rattle.bounds.specs.declared.types.Shown.{Shown}
use Rattle.bounds.specs.declared.types.Bounds.{Bounds}
use Rattle.bounds.proofs.ShownFacts.{bound_kind, plan_kind}
use Rattle.jackson.proofs.Schedules.{schedule_long}
use Rattle.jackson.proofs.StoredPlans.{stored_long, filled_with}
use Rattle.planner.specs.BrokenEntries.{broken_in}
use Rattle.planner.specs.Demand2.{PlansWindows}
use Rattle.planner.specs.Calls.{before_nine, plan_checks, shown_checks, narrow_after, settled_or, planned, ends_of, starts_of, broken_of}
use Rattle.planner.specs.Internal.{HoldsPlan, NarrowsAfter}
use Rattle.planner.proofs.Demands.{plans_windows}

-- The checks before 9.
module _ (l : DayList) where
  module _ {k : Code} (fails : refused k ≡ check_of l) where
    pub plan_failed : (room : ℕ) → refused k ≡ plan_checks l room
    unfolding plan_checks
    plan_failed room = rw (← fails) refl

    pub shown_failed : (place room : ℕ) → refused k ≡ shown_checks l place room
    unfolding shown_checks
    shown_failed place room = rw (← fails) refl

  module _ (passes : answered tt ≡ check_of l) (room : ℕ) where
    pub plan_buffer : buffer_fault l.frame.h room ≡ plan_checks l room
    unfolding plan_checks
    plan_buffer = rw (← passes) refl

    module _ (k : ℕ) where
      pub place_unknown : l.n ≤ k → refused (code 13 (k ∷ [])) ≡ shown_checks l k room
      unfolding shown_checks
      place_unknown h = rw (← passes, le-leb l.n k h) refl

      pub place_known : k < l.n → buffer_fault l.frame.h room ≡ shown_checks l k room
      unfolding shown_checks
      place_known h = rw (← passes, lt-leb l.n k h) refl

-- what they say where they are passed
abbrev Passed : Outcome (Unit {0}) → Type 0
Passed o = o ≡ answered tt

module _ (l : DayList) where
  rows_passed : (rows : List Row) → Passed (before_nine l rows) → WellFormed l × Passed (first_of rows (answered tt))
  rows_passed rows = go (check_of l) refl
    where
      go : (o : Outcome (Unit {0})) → check_of l ≡ o → Passed (and_then o (λ _. first_of rows (answered tt)))
          → WellFormed l × Passed (first_of rows (answered tt))
      go (answered t) e q = (e, q)
      go (refused k) e q = absurd (answered_refused q refl)

  row_passed : (t : Bool) (k : Code) (o : Outcome (Unit {0})) → Passed (cond t (refused k) o) → (t ≡ false) × Passed o
  row_passed true k o e = absurd (answered_refused e refl)
  row_passed false k o e = (refl, e)

  pub plan_formed : (room : ℕ) → plan_checks l room ≡ answered tt → WellFormed l
  unfolding plan_checks
  plan_formed room e = (rows_passed (buffer_row l.frame.h room ∷ []) e).0

  pub plan_room : (room : ℕ) → plan_checks l room ≡ answered tt → l.frame.h ≤ room
  unfolding plan_checks
  plan_room room e = ltb-false _ _ (row_passed _ _ _ (rows_passed (buffer_row l.frame.h room ∷ []) e).1).0

  pub shown_plan_lem : (k room : ℕ) → shown_checks l k room ≡ answered tt → (k < l.n) × (plan_checks l room ≡ answered tt)
  unfolding plan_checks shown_checks
  shown_plan_lem k room e =
      let z = rows_passed (place_row l.n k ∷ buffer_row l.frame.h room ∷ []) e in
      let q = row_passed _ _ _ z.1 in
      (leb-false _ _ q.0, rw z.0 q.1)

  pub shown_formed : (k room : ℕ) → shown_checks l k room ≡ answered tt → WellFormed l
  shown_formed k room e = plan_formed room (shown_plan_lem k room e).1

-- Narrowing after them, from the marks of the whole entries and the windows of the list.
module _ (checks : Outcome (Unit {0})) (l : DayList) (formed : checks ≡ answered tt → WellFormed l) where
  pub after_checks : (a : Result NarrowedList Refusal) → AnswersAs l (narrow_after checks l) a → NarrowsAfter checks l a
  unfolding settle_of
  after_checks a answers = record { answers = answers; holds = holds_answer l (narrow_after checks l) keeps a answers }
    where
      keeps : (v : Narrowed) → narrow_after checks l ≡ answered v → Keeps (windows_of l) v.windows × WellFormed l
      keeps v = go checks refl
        where
          go : (o : Outcome (Unit {0})) → checks ≡ o → narrow_after o l ≡ answered v → Keeps (windows_of l) v.windows × WellFormed l
          go (answered t) e q = settle_keeps l v (rw (formed e) q)
          go (refused k) e q = absurd (answered_refused q refl)

  -- a refusal
  pub narrows_not : (a : Result NarrowedList Refusal) (x : Refusal) → a ≡ Err x → narrow_after checks l ≡ refused (code_of x)
      → NarrowsAfter checks l a
  narrows_not a x e is = after_checks a (ap narrow_answer_of e ∙ ap (listed l) (sym is))

  module _ (passed : answered tt ≡ checks) where
    pub found_is : (marks : List Bool) → marked marks ≡ whole_in l → (s : WindowSet) → Holds l s → (found : Result NarrowedWindows Refusal)
        → NarrowsWindows (marked marks) s found → narrowed_of found ≡ narrow_after checks l
    unfolding narrow_windows
    found_is marks kinds s holds found narrows =
        let given : narrow_windows (marked marks) (windows_in s) ≡ narrow_windows (whole_in l) (windows_of l) =
        λ i. narrow_windows (kinds i) (holds.windows i) in
        narrows.outcome ∙ given ∙ rw (← passed, formed_passes (windows_of l) (list_formed l (formed (sym passed)))) refl

  -- the answer that code makes of what was found
  pub narrows_after : (found : NarrowedWindows) → answered (narrowed_by found) ≡ narrow_after checks l → (v : NarrowedList)
      → v ≡ record { list = list_with l (windows_in found.windows); moves = found.moves } → NarrowsAfter checks l (Ok v)
  narrows_after found is v made = after_checks (Ok v) (rw made (ap (listed l) is))

-- the windows and moves answered
abbrev pub settled_in : NarrowedList → Narrowed
settled_in v = record { windows = windows_of v.list; moves = v.moves }

-- checks that were passed
checks_passed : (checks : Outcome (Unit {0})) (l : DayList) (v : Narrowed) → narrow_after checks l ≡ answered v → checks ≡ answered tt
checks_passed (answered t) l v q = refl
checks_passed (refused k) l v q = absurd (answered_refused q refl)

-- an answer that is no refusal: the list answered has the settled windows
pub record IsSettled (checks : Outcome (Unit {0})) (l : DayList) (v : NarrowedList) : Type 0 where
  pub passed : checks ≡ answered tt
  pub formed : WellFormed v.list
  pub few : v.list.n ≤ 64
  pub kinds : whole_in v.list ≡ whole_in l
  pub outcome : narrow_after checks l ≡ answered (settled_in v)
  pub widest : Widest (whole_in l) (windows_of l) (windows_of v.list)

pub is_settled : {checks : Outcome (Unit {0})} {l : DayList} {a : Result NarrowedList Refusal} → NarrowsAfter checks l a
    → (v : NarrowedList) → a ≡ Ok v → (checks ≡ answered tt → WellFormed l) → IsSettled checks l v
is_settled {checks} {l} after v e formed =
    let outcome : narrow_after checks l ≡ answered (settled_in v) = sym after.holds.narrowed ∙ ap narrowed_in e in
    let passed = checks_passed checks l (settled_in v) outcome in
    let law = narrow_law overload_planner (whole_in l) (windows_of l) (list_formed l (formed passed)) in
    let kept = after.holds.keeps v e in
    record {
      passed = passed;
      formed = kept.formed;
      few = (sound_list v.list kept.formed).header.room;
      kinds = kept.kinds;
      outcome = outcome;
      widest = law.widest _ (rw passed at outcome);
    }

-- The settled list: its windows, its day and its plan.
module _ {checks : Outcome (Unit {0})} {l : DayList} {a : NarrowedList} (settled : IsSettled checks l a) where
  settled_formed : Formed (windows_of a.list)
  settled_formed = list_formed a.list settled.formed

  pub settled_few : (windows_of a.list).n ≤ 64
  settled_few = list_few a.list settled.formed

  pub settled_day : (windows_of a.list).h ≡ l.frame.h
  settled_day = ap (λ (w : Windows). w.h) settled.widest.entries

  pub settled_plan : PlansWindows (whole_in l) (windows_of a.list) (schedule (windows_of a.list))
      (broken_in (whole_in l) (windows_of a.list) (places_in (schedule (windows_of a.list))))
  settled_plan = plans_windows (whole_in l) (windows_of a.list) settled_formed settled.widest.settled.plan

-- the windows of the list answered are those told
pub windows_told : (a : Result NarrowedList Refusal) (v : Narrowed) → narrowed_in a ≡ answered v
    → (u : NarrowedList) × (a ≡ Ok u) × (windows_of u.list ≡ v.windows)
windows_told (Ok u) v q = (u, refl, ap (λ (x : Narrowed). x.windows) (answered_same refl q))
windows_told (Err x) v q = absurd (answered_refused q refl)

-- What the code has where nothing was refused: the settled windows in arrays, with the marks of the whole entries, and a plan buffer with
-- room.
pub record Planning (checks : Outcome (Unit {0})) (l : DayList) (old : List ℕ) (marks : List Bool) (found : NarrowedWindows) : Type 0 where
  pub passed : checks ≡ answered tt
  pub outcome : narrow_after checks l ≡ answered (narrowed_by found)
  pub widest : Widest (whole_in l) (windows_of l) (windows_in found.windows)
  pub formed : Formed (windows_in found.windows)
  pub kinds : marked marks ≡ whole_in l
  pub room : l.frame.h ≤ length old

pub is_planning : {checks : Outcome (Unit {0})} {l : DayList} {old : List ℕ} {marks : List Bool} (found : NarrowedWindows)
    → (checks ≡ answered tt → plan_checks l (length old) ≡ answered tt) → marked marks ≡ whole_in l
    → answered (narrowed_by found) ≡ narrow_after checks l → Planning checks l old marks found
is_planning {checks} {l} {old} found plan kinds is =
    let passed = checks_passed checks l (narrowed_by found) (sym is) in
    let given = list_formed l (plan_formed l (length old) (plan passed)) in
    let widest =
    (narrow_law overload_planner (whole_in l) (windows_of l) given).widest (narrowed_by found) (rw passed at (sym is)) in
    record {
      passed = passed;
      outcome = sym is;
      widest = widest;
      formed = widest_formed (whole_in l) (windows_of l) (windows_in found.windows) given widest;
      kinds = kinds;
      room = plan_room l (length old) (plan passed);
    }

-- where the checks were passed, and narrowing found windows
pub found_planning : (checks : Outcome (Unit {0})) (l : DayList) (old : List ℕ) → (checks ≡ answered tt → plan_checks l (length old) ≡ answered tt)
    → answered tt ≡ checks → (marks : List Bool) → marked marks ≡ whole_in l → (s : WindowSet) → Holds l s → (found : NarrowedWindows)
    → NarrowsWindows (marked marks) s (Ok found) → Planning checks l old marks found
found_planning checks l old plan passes marks kinds s holds found narrows =
    is_planning found plan kinds
    (found_is checks l (λ e. plan_formed l (length old) (plan e)) passes marks kinds s holds (Ok found) narrows)

module _ {checks : Outcome (Unit {0})} {l : DayList} {old : List ℕ} {marks : List Bool} {found : NarrowedWindows}
    (planning : Planning checks l old marks found) where
  abbrev w : Windows
  w = windows_in found.windows

  day_is : w.h ≡ l.frame.h
  day_is = ap (λ (u : Windows). u.h) planning.widest.entries

  has_room : w.h ≤ length old
  has_room = omega (arith, day_is, planning.room)

  -- a place of the list is one of the settled windows
  pub place_in : WellFormed l → length l.entries ≡ 64 → (k : ℕ) → k < l.n → k < w.n
  place_in formed long k h =
      let given : (windows_of l).n ≡ l.n = length-take-le l.n l.entries (omega (arith, long, (sound_list l formed).header.room)) in
      let same : w.n ≡ (windows_of l).n = ap (λ (u : Windows). u.n) planning.widest.entries in
      omega (arith, given, same, h)

  -- the bounds of the settled windows
  module _ {b : Bounds} (bounds : HoldsBounds (marked marks) w b) where
    in_room_lem : (xs : List ℕ) → in_room w xs ≡ xs
    in_room_lem xs = rw (formed_passes w planning.formed) refl

    pub ends_are : b.ends ≡ ends_of (whole_in l) (narrow_after checks l)
    ends_are = bounds.ends ∙ in_room_lem _ ∙ (λ i. least_ends (planning.kinds i) w) ∙ rw planning.outcome refl

    pub starts_are : b.starts ≡ starts_of (whole_in l) (narrow_after checks l)
    starts_are = bounds.starts ∙ in_room_lem _ ∙ (λ i. greatest_starts (planning.kinds i) w) ∙ rw planning.outcome refl

  -- the day's plan
  module _ {v : Result (Unit {0}) Refusal} {new : List ℕ} (fills : FillsWindows w old v new) where
    stored : new ≡ schedule w ++ drop w.h old
    stored = filled_with w old v new fills has_room

    pub plan_is : new ≡ planned schedule old (narrow_after checks l)
    plan_is = rw planning.outcome stored

    front : take w.h new ≡ schedule w
    front = rw stored (take_at (schedule w) _ _ (schedule_long _))

    pub plan_long : length new ≡ length old
    plan_long = stored_long w.h (schedule w) old new stored (schedule_long _) has_room

    pub plan_held : HoldsPlan w new
    plan_held =
        record {
          few = omega arith;
          room = omega (arith, plan_long, has_room);
          plan = rw front (plans_windows (whole_in l) w planning.formed planning.widest.settled.plan).plan.plan;
        }

    pub broken_is : (x : ℕ) → x ≡ broken_in (marked marks) w (places_in (take w.h new)) → x ≡ broken_of (whole_in l) (narrow_after checks l)
    broken_is x e =
        e
        ∙ ap (λ (xs : List ℕ). broken_in (marked marks) w (places_in xs)) front
        ∙ (λ i. broken_in (planning.kinds i) w (places_in (schedule w)))
        ∙ rw planning.outcome refl

  -- a shown plan
  module _ {x : Shown} {k : ℕ} (place : k < w.n) {b : Result ℕ Refusal} {new : List ℕ}
      (stores : StoresPlan x (marked marks k) w k old b new) where
    rows_are : show_rows w k (length old) ≡ answered tt
    unfolding show_rows
    rows_are = rw (formed_passes w planning.formed, lt-leb _ k place, le-ltb (length old) w.h has_room) refl

    kind_is : marked marks k ≡ whole_in l k
    kind_is = ap (λ (whole : ℕ → Bool). whole k) planning.kinds

    is_answered : outcome_of b ≡ answered (bound_of x (λ _. marked marks k) k w)
    is_answered = rw rows_are at stores.outcome

    -- none of its rows holds
    pub shown_some : (r : Refusal) → b ≡ Err r → ⊥
    shown_some r e = answered_refused is_answered (ap outcome_of e)

    pub shown_bound : (v : ℕ) → b ≡ Ok v → v ≡ settled_or 0 (bound_of x (whole_in l) k) (narrow_after checks l)
    shown_bound v e =
        rw planning.outcome (answered_same (ap outcome_of e) is_answered ∙ bound_kind x (whole_in l) _ w k kind_is)

    pub shown_stored : new ≡ planned (shown_plan x (whole_in l) k) old (narrow_after checks l)
    shown_stored =
        rw planning.outcome
        ((rw rows_are at stores.buffer) ∙ (λ i. plan_kind x (whole_in l) (marked marks k) w k kind_is i ++ drop w.h old))
