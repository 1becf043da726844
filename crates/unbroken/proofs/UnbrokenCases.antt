-- The contract of looking for an unbroken day, from what the code has.
-- Assumes nothing.
use mathlib.Core.Path.{◌≡◌, refl, sym, ap, subst, ◌∙◌}
use mathlib.Core.Bool.{Bool, true, false, cond}
use mathlib.Core.List.{List}
use Prim.Native.Nat.{ℕ, ◌<◌, ◌≤◌}
use native.Mathlib.Omega.{arith}
use borrow.Author.Tests.{le-ltb}
use lib.ListN.{length, get_or, take, length-take}
use lib.Seq.{take_at}
use Rattle.std.specs.Prelude.{Result, Ok, Err}
use Rattle.base.specs.Outcomes.{answered, refused}
use Rattle.base.proofs.Inversion.{refused_same}
use Rattle.list.specs.DayLists.{whole_in}
use Rattle.list.specs.Refusals.{code_of, outcome_of}
use Rattle.list.specs.declared.types.DayList.{DayList}
use Rattle.list.specs.declared.types.Refusal.{Refusal}
use Rattle.list.proofs.Answered.{the_ok, not_both}
use Rattle.list.proofs.ByPlace.{by_place_lem}
use Rattle.windows.specs.Windows.{Windows, windows_of, windows_in}
use Rattle.windows.specs.Intervals.{overload_of}
use Rattle.windows.proofs.FormedLists.{list_formed}
use Rattle.jackson.specs.Calls.{buffer_fault, plan_after}
use Rattle.jackson.specs.Minutes.{schedule}
use Rattle.jackson.proofs.Schedules.{schedule_long}
use Rattle.narrow.specs.declared.types.NarrowedList.{NarrowedList}
use Rattle.narrow.proofs.OverloadPlanner.{overload_planner}
use Rattle.planner.specs.Calls.{plan_checks, plan_of, planned}
use Rattle.planner.specs.Internal.{NarrowsAfter}
use Rattle.planner.proofs.SettledPlans.{plan_law}
use Rattle.planner.proofs.CallCases.{plan_formed, plan_room, narrows_not, settled_in, IsSettled, is_settled, settled_few, settled_day}
use Rattle.backtracking.specs.Searches.{Search, found, none, spent, trials_of, search_within}
use Rattle.backtracking.specs.Laws.{with_starts, LeastDay, FoundLaw, UnbrokenLaw}
use Rattle.backtracking.specs.Calls.{ending_of, windows_after, is_found, AnswersSearch}
use Rattle.backtracking.specs.declared.types.Ending.TheVariants.{DayFound, TrialsSpent}
use Rattle.backtracking.specs.declared.types.SearchAnswer.{SearchAnswer}
use Rattle.backtracking.proofs.UnbrokenLaws.{settled_law, refused_none}
use Rattle.unbroken.specs.Calls.{unbroken_of, whole_starts, starts_found, found_after, narrowed_by_search, start_in, TellsUnbroken}
use Rattle.unbroken.specs.Calls.{HoldsSearch, FindsUnbroken}
use Rattle.unbroken.specs.Internal.{starts_said, StoresFound}
use Rattle.unbroken.specs.declared.types.UnbrokenSearch.{UnbrokenSearch}
use Rattle.backtracking.proofs.SaidEndings.{said_found, said_none, said_spent, same_starts, same_least}

-- Refused: nothing is searched.
module _ (l : DayList) (limit : ℕ) (old : List ℕ) (a : Result UnbrokenSearch Refusal) (k : Refusal) (e : a ≡ Err k)
    (is : plan_of l (length old) ≡ refused (code_of k)) where
  pub finds_refused : FindsUnbroken l limit old a old
  unfolding unbroken_of
  finds_refused =
      record {
        answers = after.answers;
        holds = after.holds;
        search = λ u q. absurd (not_both q e);
        ending = rw (e, is) refl;
        trials = rw (e, is) refl;
        starts = rw (e, is) refl;
        buffer = rw is refl;
        tells = λ u q. absurd (not_both q e);
        unsearched = λ j q. (rw is (ap refused (refused_same (ap outcome_of e) (ap outcome_of q))), refl);
        not_searched = λ j q. rw q (refl, refl, refl);
        law = λ passed. rw after.holds.narrowed (plan_law l (length old) passed);
        refused_none =
            λ passed j q.
            refused_none (whole_in l) (windows_of l) (plan_of l (length old)) (plan_law l (length old) passed) _ is;
        larger = λ _ more _. rw is refl;
        no_whole = λ u q. absurd (not_both q e);
      }
    where
      after : NarrowsAfter (plan_checks l (length old)) l (narrowed_by_search a)
      after =
          narrows_not (plan_checks l (length old)) l (plan_formed l (length old)) (narrowed_by_search a) k (ap narrowed_by_search e) is

-- Not refused: what the search's answer s says in the settled windows is answered, and a day that is found is stored.
module _ (l : DayList) (limit : ℕ) (old : List ℕ) (n : NarrowedList) (after : NarrowsAfter (plan_checks l (length old)) l (Ok n))
    (s : SearchAnswer)
    (says : AnswersSearch (windows_of n.list) (search_within overload_of limit (whole_in l) (windows_of n.list)) s) (new : List ℕ)
    (stores : StoresFound s old new) where
  abbrev whole : ℕ → Bool
  whole = whole_in l

  abbrev v : Windows
  v = windows_of n.list

  abbrev x : Search
  x = search_within overload_of limit whole v

  abbrev a : UnbrokenSearch
  a = record { narrowed = n; ending = s.ending; trials = s.trials; starts = starts_said whole s }

  settled : IsSettled (plan_checks l (length old)) l n
  settled = is_settled after n refl (plan_formed l (length old))

  outcome : plan_of l (length old) ≡ answered (settled_in n)
  outcome = settled.outcome

  law : UnbrokenLaw overload_of whole (windows_of l) v limit
  law =
      settled_law overload_planner whole (windows_of l) (list_formed l (plan_formed l (length old) settled.passed))
      (plan_of l (length old)) (plan_law l (length old) settled.passed) (settled_in n) outcome limit

  has_room : v.h ≤ length old
  has_room = omega (arith, settled_day settled, plan_room l (length old) settled.passed)

  -- what was found, by what is said
  starts_are : starts_said whole s ≡ starts_found whole x
  starts_are = go x says.ending says.windows
    where
      go : (y : Search) → s.ending ≡ ending_of y → windows_in s.windows ≡ windows_after v y → starts_said whole s ≡ starts_found whole y
      go (found u t) e q = rw e (ap (whole_starts whole) q)
      go (none t) e q = rw e refl
      go (spent t) e q = rw e refl

  found_day : (u : Windows) (t : ℕ) → x ≡ found u t → u.h ≡ v.h
  found_day u t e = ap (λ (y : Windows). y.h) (law.found_is u t e).fixed

  stored : new ≡ found_after old x
  stored = go x refl says.ending says.windows
    where
      go : (y : Search) → x ≡ y → s.ending ≡ ending_of y → windows_in s.windows ≡ windows_after v y → new ≡ found_after old y
      go (found u t) is e q =
          let fits = le-ltb (length old) u.h (omega (arith, has_room, found_day u t is)) in
          stores
          ∙ (λ j. cond (is_found (e j)) (plan_after (buffer_fault (q j).h (length old)) (q j) old) old)
          ∙ rw fits refl
      go (none t) is e q = stores ∙ rw e refl
      go (spent t) is e q = stores ∙ rw e refl

  -- a day is found
  module _ (u : Windows) (t : ℕ) (is : x ≡ found u t) where
    is_found_law : FoundLaw whole (windows_of l) v u
    is_found_law = law.found_is u t is

    count : u.n ≡ v.n
    count = ap (λ (y : Windows). y.n) is_found_law.fixed

    start_is : (i : ℕ) → i < v.n → whole i ≡ true → u.r i ≡ start_in a i
    start_is i h e =
        sym
        (ap (λ (xs : List ℕ). get_or xs i 0) starts_are
        ∙ ap (λ (y : Search). get_or (starts_found whole y) i 0) is
        ∙ by_place_lem (λ j. cond (whole j) (u.r j) 0) u.n i (omega (arith, count, settled_few settled)) (omega (arith, count, h))
        ∙ rw e refl)

    front : take l.frame.h new ≡ schedule u
    front =
        let long : length (schedule u) ≡ l.frame.h = schedule_long u ∙ found_day u t is ∙ settled_day settled in
        rw (stored, is) (take_at (schedule u) _ _ long)

    jackson_is : take l.frame.h new ≡ schedule (with_starts whole v (start_in a))
    jackson_is = front ∙ ap schedule (is_found_law.fixed ∙ same_starts whole v u.r (start_in a) start_is)

    least_is : LeastDay whole (windows_of l) (take l.frame.h new) (start_in a)
    least_is =
        let given : (windows_of l).n ≡ v.n = sym (ap (λ (y : Windows). y.n) settled.widest.entries) in
        rw front
        (same_least whole (windows_of l) u.r (start_in a) (λ i h e. start_is i (omega (arith, given, h)) e) (schedule u)
        is_found_law.day)

  tells : TellsUnbroken whole (windows_of l) limit a (take l.frame.h new)
  tells =
      record {
        jackson = λ e. let z = said_found x (sym says.ending ∙ e) in jackson_is z.0 z.1 z.2;
        least = λ e. let z = said_found x (sym says.ending ∙ e) in least_is z.0 z.1 z.2;
        found_exactly = (
          λ e. law.found_exactly.0 (said_found x (sym says.ending ∙ e)),
          λ z. let y = law.found_exactly.1 z in says.ending ∙ ap ending_of y.2,
        );
        none_exactly = (
          λ e. law.none_exactly.0 (said_none x (sym says.ending ∙ e)),
          λ z. let y = law.none_exactly.1 z in says.ending ∙ ap ending_of y.1,
        );
        spent_exactly = (
          λ e. law.limits.spent_exactly.0 (said_spent x (sym says.ending ∙ e)),
          λ z. let y = law.limits.spent_exactly.1 z in says.ending ∙ ap ending_of y.1,
        );
        spent_all =
            λ e.
            let z = said_spent x (sym says.ending ∙ e) in
            says.trials ∙ ap trials_of z.1 ∙ law.limits.spent_all z.0 z.1;
        trials_needed_lem = λ h. says.trials ∙ ap trials_of (law.limits.enough h);
        limits = law.limits;
      }

  held : HoldsSearch whole (unbroken_of l limit (length old)) a
  unfolding unbroken_of
  held = record { ended = x; outcome = rw outcome refl; ending = says.ending; trials = says.trials; starts = starts_are }

  no_whole : ((i : ℕ) → i < l.n → whole i ≡ false)
      → (s.ending ≡ DayFound) × (s.trials ≡ 0) × (new ≡ planned schedule old (plan_of l (length old)))
  no_whole pauses =
      let given : v.n ≡ (windows_of l).n = ap (λ (y : Windows). y.n) settled.widest.entries in
      let is = law.limits.no_whole (λ i h. pauses i (omega (arith, h, given, length-take l.n l.entries))) in
      (says.ending ∙ ap ending_of is, says.trials ∙ ap trials_of is, stored ∙ rw (outcome, is) refl)

  larger : (s.ending ≡ TrialsSpent → ⊥) → (more : ℕ) → limit ≤ more → unbroken_of l more (length old) ≡ unbroken_of l limit (length old)
  unfolding unbroken_of
  larger not more le = rw outcome (ap answered (go x refl))
    where
      go : (y : Search) → x ≡ y → search_within overload_of more whole v ≡ x
      go (found u t) e = law.limits.larger_found more le u t e ∙ sym e
      go (none t) e = law.limits.larger_none more le t e ∙ sym e
      go (spent t) e = absurd (not (says.ending ∙ ap ending_of e))

  finds_said : FindsUnbroken l limit old (Ok a) new
  unfolding unbroken_of
  finds_said =
      record {
        answers = after.answers;
        holds = after.holds;
        search = λ u e. subst (HoldsSearch whole (unbroken_of l limit (length old))) (the_ok e) held;
        ending = rw outcome says.ending;
        trials = rw outcome says.trials;
        starts = rw outcome starts_are;
        buffer = rw outcome stored;
        tells =
            λ u e. subst (λ (b : UnbrokenSearch). TellsUnbroken whole (windows_of l) limit b (take l.frame.h new)) (the_ok e) tells;
        unsearched = λ k e. absurd (not_both refl e);
        not_searched = λ k e. absurd (not_both refl e);
        law = λ passed. rw after.holds.narrowed (plan_law l (length old) passed);
        refused_none = λ _ k e. absurd (not_both refl e);
        larger = λ not. larger (not a refl);
        no_whole =
            λ u e pauses.
            subst
            (λ (b : UnbrokenSearch). (b.ending ≡ DayFound) × (b.trials ≡ 0) × (new ≡ planned schedule old (plan_of l (length old))))
            (the_ok e) (no_whole pauses);
      }

  pub finds_searched : (starts : List ℕ) → starts ≡ starts_said whole s
      → FindsUnbroken l limit old (Ok (record { narrowed = n; ending = s.ending; trials = s.trials; starts = starts })) new
  finds_searched starts e = rw e finds_said
