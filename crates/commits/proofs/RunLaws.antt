-- The statement over every list of asks and commits from a fresh day.
-- Assumes nothing.
use mathlib.Core.Path.{◌≡◌, refl, sym, ap, ◌∙◌}
use mathlib.Core.Bool.{true, false≢true}
use mathlib.Core.List.{List, [], ◌∷◌, ◌++◌, append_assoc, append-nil}
use Prim.Native.Nat.{ℕ, ◌+◌, ◌<◌, ◌≤◌}
use native.Mathlib.Omega.{arith}
use lib.ListN.{length, get_or, length-append, length-take}
use Rattle.base.specs.Outcomes.{Code, code, Outcome, answered, refused, and_then, accepts}
use Rattle.base.proofs.Inversion.{answered_same, refused_same, answered_refused}
use Rattle.list.specs.DayLists.{most_entries, entries_of, blank, is_whole, day_list, whole_in}
use Rattle.list.specs.Checks.{check_of, WellFormed}
use Rattle.list.specs.Refusals.{outcome_of}
use Rattle.list.specs.declared.types.Entry.{Entry}
use Rattle.list.specs.declared.types.DayList.{DayList}
use Rattle.std.specs.Prelude.{Result, Ok, Err}
use Rattle.list.specs.declared.types.Refusal.{Refusal}
use Rattle.list.proofs.Sound.{sound_list, list_apart, well_formed}
use Rattle.windows.specs.Windows.{windows_of}
use Rattle.windows.specs.Intervals.{overload_of}
use Rattle.narrow.specs.Rounds.{Narrowed, narrowing}
use Rattle.narrow.specs.Calls.{settle_of, narrowed_in}
use Rattle.narrow.proofs.ListAnswers.{settle_keeps}
use Rattle.planner.specs.Calls.{plan_checks, narrow_after, plan_of, planning, narrowed_by_plan}
use Rattle.planner.specs.declared.types.PlannedDay.{PlannedDay}
use Rattle.planner.proofs.OneAnswer.{one_planned}
use Rattle.commits.specs.Days.{trimmed, with_entry}
use Rattle.commits.specs.Calls.{commit_fault, longer_checks, MakesDay, Succeeds, Asks, Commits}
use Rattle.commits.specs.Runs.{Event, asked, committed, Happens, none, ask, commit, HandsOn, entry_if, committed_in, commits_in}
use Rattle.commits.specs.Runs.{RunsSo}
use Rattle.commits.specs.declared.types.StampedDay.{StampedDay}
use Rattle.commits.specs.declared.types.AskAnswer.{AskAnswer}
use Rattle.commits.specs.declared.types.CommitAnswer.{CommitAnswer}
use Rattle.commits.proofs.RowFacts.{commit_passed, stamp_right, stamp_stale}
use Rattle.commits.proofs.EntryLaws.{entries_are}
use Rattle.commits.proofs.CommitLaws.{outcome, day_is, commit_law}
use Rattle.commits.proofs.CallCases.{planning_settles}

-- A list that can be planned.
abbrev pub CanBePlanned : DayList → Type 0
CanBePlanned l = accepts (planning l) ≡ true

after_rows : (c r : Outcome (Unit {0})) (o : Outcome Narrowed) (v : Narrowed) → and_then (and_then c (λ _. r)) (λ _. o) ≡ answered v
    → and_then c (λ _. o) ≡ answered v
after_rows (answered t) (answered u) o v q = q
after_rows (answered t) (refused k) o v q = absurd (answered_refused q refl)
after_rows (refused k) r o v q = absurd (answered_refused q refl)

module _ (l : DayList) where
  settles_can : (v : Narrowed) → settle_of l ≡ answered v → CanBePlanned l
  settles_can v e = rw (planning_settles l, e) refl

  -- it is one that was planned with some buffer
  planned_can : (room : ℕ) (v : Narrowed) → plan_of l room ≡ answered v → CanBePlanned l
  unfolding plan_checks settle_of
  planned_can room v e = settles_can v (after_rows (check_of l) _ (narrowing overload_of (whole_in l) (windows_of l)) v e)

  can_settles : CanBePlanned l → (v : Narrowed) × (settle_of l ≡ answered v)
  can_settles can = go (settle_of l) refl
    where
      go : (o : Outcome Narrowed) → settle_of l ≡ o → (v : Narrowed) × (settle_of l ≡ answered v)
      go (answered v) e = (v, e)
      go (refused k) e = absurd (false≢true (sym (rw (planning_settles l, e) refl) ∙ can))

  pub can_formed : CanBePlanned l → WellFormed l
  can_formed can = let z = can_settles can in (settle_keeps l z.0 z.1).1

-- the entries that count can be planned as the list can
module _ (l : DayList) (can : CanBePlanned l) where
  few_entries : length (entries_of l) ≤ most_entries
  few_entries = omega (arith, length-take l.n l.entries, (sound_list l (can_formed l can)).header.room)

  trimmed_formed : WellFormed (trimmed l)
  trimmed_formed =
      let formed = can_formed l can in
      let sound = sound_list l formed in
      let same = entries_are l.frame (entries_of l) in
      well_formed (trimmed l)
      (record {
        header = record { some_minutes = sound.header.some_minutes; one_day = sound.header.one_day; room = few_entries };
        opening = sound.opening;
        entries = rw same sound.entries;
      })
      (rw same (list_apart l formed))

  trimmed_can : CanBePlanned (trimmed l)
  unfolding settle_of
  trimmed_can =
      let z = can_settles l can in
      let told : narrowing overload_of (whole_in l) (windows_of l) ≡ answered z.0 = rw (can_formed l can) at z.1 in
      let same = entries_are l.frame (entries_of l) in
      let whole : whole_in (trimmed l) ≡ whole_in l = λ j i. is_whole (get_or (same j) i blank).kind in
      settles_can (trimmed l) z.0 (rw (trimmed_formed, whole, same) told)

-- The day after events in which these entries were committed with success.
record Stands (l : DayList) (cs : List Entry) (d : StampedDay) : Type 0 where
  list : d.list ≡ day_list l.frame (entries_of l ++ cs)
  stamp : d.stamp ≡ length cs
  can : CanBePlanned d.list
  few : length (entries_of l) + length cs ≤ most_entries

fresh_stands : (l : DayList) (d : StampedDay) → MakesDay l (Ok d) → Stands l [] d
fresh_stands l d told = go (planning l) refl
  where
    go : (o : Outcome Narrowed) → planning l ≡ o → Stands l [] d
    go (refused k) q = absurd (answered_refused {x = k} (sym told) (rw q refl))
    go (answered v) q =
        let can : CanBePlanned l = rw q refl in
        let day : d ≡ record { list = trimmed l; stamp = 0 } = answered_same (sym told) (rw q refl) in
        rw day
        (record {
          list = ap (day_list l.frame) (sym (append-nil (entries_of l)));
          stamp = refl;
          can = trimmed_can l can;
          few = omega (arith, few_entries l can);
        })

-- One commit more.
module _ {l : DayList} {cs : List Entry} {d : StampedDay} (so : Stands l cs d) {e : Entry} {s : ℕ} {old new : List ℕ} {a : CommitAnswer}
    (w : Commits d e s old a new) where
  abbrev es : List Entry
  es = entries_of l

  -- what a success tells
  success : {v : Narrowed} (o : Outcome (Unit {0})) → narrow_after (longer_checks o d.list e (length old)) (with_entry d.list e) ≡ answered v
      → (o ≡ answered tt) × (plan_of (with_entry d.list e) (length old) ≡ answered v)
  success (answered t) q = (refl, q)
  success (refused k) q = absurd (answered_refused q refl)

  longer_list : with_entry d.list e ≡ day_list l.frame (es ++ (cs ++ (e ∷ [])))
  longer_list =
      let z : day_list l.frame ((es ++ cs) ++ (e ∷ [])) ≡ _ = ap (day_list l.frame) (append_assoc es cs (e ∷ [])) in
      rw (so.list, entries_are l.frame (es ++ cs)) z

  committed_stands : Succeeds a.planned → Stands l (cs ++ (e ∷ [])) a.day
  committed_stands (p, q) =
      let told = success (commit_fault d s) (outcome w (Ok p) q) in
      let room : d.list.n < most_entries = commit_passed d s told.0 in
      let count : d.list.n ≡ length es + length cs = ap (λ (k : DayList). k.n) so.list ∙ length-append es cs in
      let more : length (cs ++ (e ∷ [])) ≡ length cs + 1 = length-append cs (e ∷ []) in
      rw (day_is w (Ok p) q)
      (record {
        list = longer_list;
        stamp = omega (arith, so.stamp, so.few, more);
        can = planned_can (with_entry d.list e) (length old) _ told.1;
        few = omega (arith, room, count, more);
      })

  commit_stands : Stands l (cs ++ entry_if a.planned e) a.day
  commit_stands = go a.planned refl
    where
      go : (b : Result PlannedDay Refusal) → a.planned ≡ b → Stands l (cs ++ entry_if b e) a.day
      go (Ok p) q = committed_stands (p, q)
      go (Err x) q = rw (append-nil cs, day_is w (Err x) q) so

  -- the stamp after a success, while stamps are small
  next_is : Succeeds a.planned → a.day.stamp ≡ d.stamp + 1
  next_is q = sym w.stamp ∙ (commit_law w).counts q (omega (arith, so.stamp, so.few))

-- All events.
run_stands : {l : DayList} {cs : List Entry} {d last : StampedDay} {es : List Event} → Stands l cs d → Happens d es last
    → Stands l (cs ++ committed_in es) last
unfolding committed_in
run_stands {l} {cs} so none = rw (append-nil cs) so
run_stands so (ask w rest) = run_stands so rest
run_stands {l} {cs} so (commit {e = e} {a = a} {es = more} w rest) =
    rw (← (append_assoc cs (entry_if a.planned e) (committed_in more))) (run_stands (commit_stands so w) rest)

without_asks : {d last : StampedDay} {es : List Event} → Happens d es last → Happens d (commits_in es) last
unfolding commits_in
without_asks none = none
without_asks (ask w rest) = without_asks rest
without_asks (commit w rest) = commit w (without_asks rest)

-- the day between events
split : (before after : List Event) {d last : StampedDay} → Happens d (before ++ after) last
    → (m : StampedDay) × Happens d before m × Happens m after last
split [] after {d} happens = (d, none, happens)
split (asked e old a new ∷ before) after (ask w rest) = let z = split before after rest in (z.0, ask w z.1, z.2)
split (committed e s old a new ∷ before) after (commit w rest) = let z = split before after rest in (z.0, commit w z.1, z.2)

-- one event more
one_event : (es : List Event) {d m last : StampedDay} (x : Event) → Happens d es m → HandsOn m x last → Happens d (es ++ (x ∷ [])) last
one_event [] (asked e old a new) none f = rw f.1 (ask f.0 none)
one_event [] (committed e s old a new) none f = rw f.1 (commit f.0 none)
one_event (asked e old a new ∷ es) x (ask w rest) f = ask w (one_event es x rest f)
one_event (committed e s old a new ∷ es) x (commit w rest) f = commit w (one_event es x rest f)

-- a commit with the day's stamp, and an ask
same_answer : (d : StampedDay) (e : Entry) (old : List ℕ) (c : CommitAnswer) (left : List ℕ) (a : AskAnswer) (new : List ℕ)
    → Commits d e d.stamp old c left → Asks d e old a new → (c.planned ≡ a.planned) × (left ≡ new)
same_answer d e old c left a new w q = one_planned (rw (stamp_right d d.stamp refl) at w.plans) q.plans

-- a commit with another stamp
stale_answer : (d : StampedDay) (e : Entry) (s : ℕ) (old : List ℕ) (a : CommitAnswer) (new : List ℕ) → (s ≡ d.stamp → ⊥)
    → Commits d e s old a new → outcome_of a.planned ≡ refused (code 17 (d.stamp ∷ []))
stale_answer d e s old a new other w = go a.planned (w.plans.holds.narrowed ∙ rw (stamp_stale d s other) refl)
  where
    k : Code
    k = code 17 (d.stamp ∷ [])

    go : (b : Result PlannedDay Refusal) → narrowed_in (narrowed_by_plan b) ≡ refused k → outcome_of b ≡ refused k
    go (Ok p) q = absurd (answered_refused refl q)
    go (Err y) q = ap refused (refused_same refl q)

pub run_law : RunsSo
run_law l fresh made es d happens =
    let so : Stands l (committed_in es) d = run_stands (fresh_stands l fresh made) happens in
    record {
      list = so.list;
      stamp = so.stamp;
      asks_leave = without_asks happens;
      as_asked = same_answer d;
      asked_stamp = λ e old a new q. q.stamp ∙ so.stamp;
      committed_stamp = λ e s old a new w. w.stamp ∙ (commit_stands so w).stamp;
      goes_on = λ x last. one_event es x happens;
      at_each = λ before after q. split before after (rw q at happens);
      formed = can_formed d.list so.can;
      can_be_planned = so.can;
      few = so.few;
      one_of_two = λ e f old now b c new then first success second.
          let next = next_is so first success in
          rw next at (stale_answer b.day f d.stamp now c then (λ q. omega (arith, q, next)) second);
    }
