-- The laws of the search: a limit only cuts it; what it finds is the least of all unbroken days, and it finds one if there is any.
-- Assumes nothing.
use mathlib.Core.Path.{◌≡◌, refl, sym, ap, ◌∙◌, fun_ext}
use mathlib.Core.Logic.{inl, inr}
use mathlib.Core.Bool.{Bool, true, false, ◌&&◌, true≢false}
use Prim.Native.Nat.{ℕ, zero, suc, ◌+◌, ◌<◌, ◌≤◌}
use native.Mathlib.Omega.{arith}
use borrow.Author.Tests.{lt-ltb, ltb-true}
use lib.Dec.{ltb}
use Rattle.base.specs.Outcomes.{Code, Outcome, answered, refused}
use Rattle.base.proofs.Sums.{le_or_lt, cond_cases, and_true, below_suc}
use Rattle.windows.specs.Windows.{Windows, Inside, with_windows, Formed, windows_in}
use Rattle.windows.specs.Plans.{Plan, Plannable, PlanBytes, places_in, start_of, Consecutive}
use Rattle.windows.proofs.Room.{formed_roomy}
use Rattle.windows.proofs.PlanFacts.{widen, filled, run_start, plan_start}
use Rattle.jackson.specs.Minutes.{schedule}
use Rattle.jackson.proofs.Law.{schedule_law}
use Rattle.narrow.specs.Searching.{Test}
use Rattle.narrow.specs.Rounds.{Narrowed}
use Rattle.narrow.specs.Laws.{NarrowLaw}
use Rattle.narrow.proofs.Planners.{Planner}
use Rattle.narrow.proofs.Fixpoints.{widest_formed}
use Rattle.narrow.proofs.OverloadPlanner.{overload_planner}
use Rattle.backtracking.specs.Searches.{Search, found, none, spent, trials_of, search_from, search_within, search_all}
use Rattle.backtracking.specs.Laws.{UnbrokenDay, NoneUnbroken, HasStarts, NotAfter, at_whole, with_starts, LeastDay, FoundLaw}
use Rattle.backtracking.specs.Laws.{LimitLaw, UnbrokenLaw}
use Rattle.backtracking.specs.Calls.{AnswersSearch, SearchesWindows}
use Rattle.backtracking.specs.declared.types.SearchAnswer.{SearchAnswer}
use Rattle.windows.specs.Intervals.{overload_of}
use Rattle.windows.specs.declared.types.WindowSet.{WindowSet}
use Rattle.backtracking.proofs.Endings.{search_counts}
use Rattle.backtracking.proofs.Limits.{up_to_more, up_to_less, within_all}
use Rattle.backtracking.proofs.Reaching.{Reached, Reaches, search_reaches}
use Rattle.backtracking.proofs.Leasts.{Pieces, Leads, FindsFirst, search_finds}

-- A limit.

-- an ending that is spent is no other
found_spent : {x : Search} {u : Windows} {s t : ℕ} → x ≡ found u s → x ≡ spent t → ⊥
found_spent e f = let z : ◌≡◌ {A = ℕ} 0 1 = cc (e, f) in omega arith

none_spent : {x : Search} {s t : ℕ} → x ≡ none s → x ≡ spent t → ⊥
none_spent e f = let z : ◌≡◌ {A = ℕ} 0 1 = cc (e, f) in omega arith

-- entries that are not whole are passed over
search_passes : (test : Test) (may whole : ℕ → Bool) (j k : ℕ) (v : Windows) (t : ℕ) → ((i : ℕ) → i < k + j → whole i ≡ false)
    → search_from test may whole j k v t ≡ found v t
unfolding search_from
search_passes test may whole zero k v t pause = refl
search_passes test may whole (suc j) k v t pause =
    rw (pause k (omega arith)) (search_passes test may whole j (k + 1) v t (λ i l. pause i (omega arith)))

module _ (test : Test) (whole : ℕ → Bool) (v : Windows) where
  abbrev all : Search
  all = search_all test whole v

  -- without a limit no trials are spent
  all_unspent : (t : ℕ) → all ≡ spent t → ⊥
  unfolding search_all
  all_unspent t e = true≢false (rw e at (search_counts test (λ _. true) whole v.n 0 v 0)).1

  -- so it finds windows, or none
  all_cases : {G : Type 0} → ((u : Windows) (t : ℕ) → all ≡ found u t → G) → ((t : ℕ) → all ≡ none t → G) → G
  all_cases {G} f g = go all refl
    where
      go : (x : Search) → all ≡ x → G
      go (found u t) e = f u t e
      go (none t) e = g t e
      go (spent t) e = absurd (all_unspent t e)

  module _ (limit : ℕ) where
    abbrev within : Search
    within = search_within test limit whole v

    enough : trials_of all ≤ limit → within ≡ all
    enough l = sym (within_all test limit whole v) ∙ up_to_less limit all l

    short : limit < trials_of all → within ≡ spent limit
    short l = sym (within_all test limit whole v) ∙ up_to_more limit all l

    -- the trials suffice, or all are used
    by_limit : {G : Type 0} → (trials_of all ≤ limit → within ≡ all → G) → (limit < trials_of all → within ≡ spent limit → G) → G
    by_limit f g = le_or_lt (trials_of all) limit (λ l. f l (enough l)) (λ l. g l (short l))

    -- spent is said if all are used
    spent_short : (t : ℕ) → within ≡ spent t → (t ≡ limit) × (limit < trials_of all)
    spent_short t e = by_limit (λ l is. absurd (all_unspent t (sym is ∙ e))) (λ l is. (cc (e, is), l))

    -- and found or none if they suffice
    found_enough : (u : Windows) (t : ℕ) → within ≡ found u t → (trials_of all ≤ limit) × (all ≡ found u t)
    found_enough u t e = by_limit (λ l is. (l, sym is ∙ e)) (λ l is. absurd (found_spent e is))

    none_enough : (t : ℕ) → within ≡ none t → (trials_of all ≤ limit) × (all ≡ none t)
    none_enough t e = by_limit (λ l is. (l, sym is ∙ e)) (λ l is. absurd (none_spent e is))

    passes : ((i : ℕ) → i < v.n → whole i ≡ false) → within ≡ found v 0
    unfolding search_within
    passes pause = search_passes test (λ t. ltb t limit) whole v.n 0 v 0 (λ i l. pause i (omega arith))

  pub limit_law : (limit : ℕ) → LimitLaw test whole v limit
  limit_law limit =
      record {
        spent_exactly = (λ z. (spent_short limit z.0 z.1).1, λ l. (limit, short limit l));
        spent_all = λ t e. (spent_short limit t e).0;
        one_more =
            λ t e.
            let l = (spent_short limit t e).1 in
            by_limit (suc limit) (λ m is. ap trials_of is ∙ omega arith) (λ m is. ap trials_of is);
        enough = enough limit;
        never_spent = all_unspent;
        within = by_limit limit (λ m is. rw is m) (λ m is. rw is (omega arith));
        larger_found = λ more l u t e. let z = found_enough limit u t e in enough more (omega arith) ∙ z.1;
        larger_none = λ more l t e. let z = none_enough limit t e in enough more (omega arith) ∙ z.1;
        no_whole = passes limit;
      }

-- Starts.

-- "compared from place 0 on": if each is at most the other, where those before it are the same
leads_not_after : (whole : ℕ → Bool) (n : ℕ) (a s : ℕ → ℕ) → Leads whole n 0 a s → NotAfter whole n a s
leads_not_after whole zero a s leads = inr (λ i place _. absurd (omega arith))
leads_not_after whole (suc n) a s leads = go (leads_not_after whole n a s (λ q l place. leads q l (omega arith)))
  where
    last : ((i : ℕ) → i < n → whole i ≡ true → a i ≡ s i) → (b : Bool) → whole n ≡ b → NotAfter whole (suc n) a s
    last same false e = inr (below_suc n (λ i. whole i ≡ true → a i ≡ s i) same (λ is. absurd (true≢false (sym is ∙ e))))
    last same true e =
        le_or_lt (s n) (a n)
        (λ l.
        let le = leads n (omega arith) (omega arith) e (λ i _. same i) in
        inr (below_suc n (λ i. whole i ≡ true → a i ≡ s i) same (λ _. omega arith)))
        (λ l. inl (n, omega arith, e, l, same))

    go : NotAfter whole n a s → NotAfter whole (suc n) a s
    go (inl z) = inl (z.0, omega (arith, z.1), z.2, z.3, z.4)
    go (inr same) = last same (whole n) refl

-- f is x at the whole places and y at the others
at_whole_lem : (whole : ℕ → Bool) (n : ℕ) (x y f : ℕ → ℕ) → ((i : ℕ) → i < n → whole i ≡ true → f i ≡ x i)
    → ((i : ℕ) → whole i ≡ false → f i ≡ y i) → ((i : ℕ) → n ≤ i → f i ≡ y i) → f ≡ at_whole whole n x y
at_whole_lem whole n x y f is pause past =
    fun_ext
    (λ i.
    cond_cases (λ (z : ℕ). f i ≡ z) (ltb i n && whole i) (x i) (y i)
    (λ e. let z = and_true (ltb i n) (whole i) e in is i (ltb-true i n z.0) z.1)
    (λ e. le_or_lt n i (past i) (λ l. pause i (rw (lt-ltb i n l) at e))))

-- what is reached from v is v with the starts fixed
reached_fixed : (whole : ℕ → Bool) (v u : Windows) → Reached whole 0 v u → u ≡ with_starts whole v u.r
reached_fixed whole v u reached =
    reached.keeps.entries
    ∙ (λ j.
    with_windows v
    (at_whole_lem whole v.n u.r v.r u.r (λ _ _ _. refl) (λ i q. (reached.pause i q).0) (λ i l. (reached.keeps.past i l).0) j)
    (at_whole_lem whole v.n (λ i. u.r i + v.p i) v.d u.d (λ i. reached.fixed i (omega arith)) (λ i q. (reached.pause i q).1)
    (λ i l. (reached.keeps.past i l).1) j))

-- Jackson's schedule of windows u of the entries of w, inside w, in which the starts of the whole entries are fixed.
module _ (whole : ℕ → Bool) (w : Windows) (r d : ℕ → ℕ) (inside : Inside (with_windows w r d) w) (formed : Formed (with_windows w r d))
    (planned : Plannable (with_windows w r d)) (fixed : (i : ℕ) → i < w.n → whole i ≡ true → d i ≡ r i + w.p i) where
  abbrev u : Windows
  u = with_windows w r d

  bytes : PlanBytes u (schedule u)
  bytes = (schedule_law u (formed_roomy u formed) formed.few).plan.0 planned

  -- a whole entry has all of its window
  fixed_run : (k : ℕ) → k < w.n → whole k ≡ true → Consecutive w.h (places_in (schedule u)) k (r k) (r k + w.p k)
  fixed_run k place is =
      let full = fixed k place is in
      record {
        each = λ t _ l h. filled u (places_in (schedule u)) bytes.plan k place (sym full) (formed.in_day k place) t l (omega arith);
        only = λ t below e. let z = bytes.plan.inside k t place below e in (z.0, omega arith);
      }

  fixed_starts : HasStarts whole w (places_in (schedule u)) r
  fixed_starts i place is =
      let run = fixed_run i place is in
      let some = formed.minutes i place in
      let below : r i < w.h = omega (arith, formed.in_day i place, formed.room i place) in
      record {
        below = below;
        minute = run.each (r i) below (omega arith) (omega arith);
        none_before = λ t l e. omega (arith, (run.only t (omega arith) e).0, l);
      }

  -- so it is the least day, if its starts are the least
  fixed_least : ((m x : ℕ → ℕ) → UnbrokenDay whole w m → HasStarts whole w m x → NotAfter whole w.n r x)
      → LeastDay whole w (schedule u) r
  fixed_least least =
      record {
        plan = record { long = bytes.long; places = bytes.places; plan = widen w r d (places_in (schedule u)) inside bytes.plan };
        unbroken = λ k place is. (r k, fixed_run k place is);
        starts = fixed_starts;
        least = least;
      }

-- The search.

-- an unbroken day of w, if it is a plan in other windows of the same entries, is one that the search there could find
day_pieces : (whole : ℕ → Bool) (w : Windows) → Formed w → (r d m s : ℕ → ℕ) → UnbrokenDay whole w m → HasStarts whole w m s
    → Plan (with_windows w r d) m → Pieces whole (with_windows w r d) m s
day_pieces whole w formed r d m s day starts plan =
    record {
      plan = plan;
      first = starts;
      run =
          λ k place is.
          let z = day.unbroken k place is in
          let some = formed.minutes k place in
          rw (run_start w.h m k (s k) z.0 _ (starts k place is) z.1 (omega arith)) at z.1;
    }

-- in windows v of the entries of w, inside w, in which every unbroken day of w is a plan
module _ {test : Test} (planner : Planner test) (whole : ℕ → Bool) (w v : Windows) (formed : Formed w)
    (entries : v ≡ with_windows w v.r v.d) (inside : Inside v w) (room : Formed v) (planned : Plannable v)
    (kept : (m : ℕ → ℕ) → UnbrokenDay whole w m → Plan v m) where
  same_n : v.n ≡ w.n
  same_n = ap (λ (y : Windows). y.n) entries

  -- with a limit or without
  module _ (may : ℕ → Bool) where
    abbrev search : Search
    search = search_from test may whole v.n 0 v 0

    reaches : Reaches whole 0 v search
    reaches = search_reaches planner may whole v.n 0 v 0 room planned (omega arith)

    finds : (m s : ℕ → ℕ) → UnbrokenDay whole w m → HasStarts whole w m s → FindsFirst whole m s v.n 0 search
    finds m s day starts =
        search_finds whole m s planner may v.n 0 v 0 room (omega arith)
        (rw entries (day_pieces whole w formed v.r v.d m s day starts (rw entries at (kept m day))))

    search_found : (u : Windows) (t : ℕ) → search ≡ found u t → FoundLaw whole w v u
    search_found u t e =
        record {
          fixed = reached_fixed whole v u reached;
          inside = reached.keeps.inside;
          day =
              rw same
              (fixed_least whole w u.r u.d
              (record {
                r = λ i place. omega (arith, inside.r i place, reached.keeps.inside.r i (rw same_n place));
                d = λ i place. omega (arith, inside.d i place, reached.keeps.inside.d i (rw same_n place));
              })
              (rw same at reached.keeps.formed)
              (rw same at reached.plan)
              (λ i place is. reached.fixed i (omega arith) (rw same_n place) is ∙ ap (λ (y : Windows). u.r i + y.p i) entries)
              (λ m x day starts. leads_not_after whole w.n u.r x (rw same_n at (rw e at (finds m x day starts)))));
        }
      where
        reached : Reached whole 0 v u
        reached = rw e at reaches

        same : u ≡ with_windows w u.r u.d
        same = reached.keeps.entries ∙ ap (λ y. with_windows y u.r u.d) entries

    search_none : (t : ℕ) → search ≡ none t → NoneUnbroken whole w
    search_none t e m day =
        rw e at (finds m (start_of w.h m) day (λ i place _. plan_start w m day.plan i place (formed.minutes i place)))

  all_found : (u : Windows) (t : ℕ) → all test whole v ≡ found u t → FoundLaw whole w v u
  unfolding search_all
  all_found = search_found (λ _. true)

  all_none : (t : ℕ) → all test whole v ≡ none t → NoneUnbroken whole w
  unfolding search_all
  all_none = search_none (λ _. true)

  -- a day that was found
  found_day : (u : Windows) → FoundLaw whole w v u → (m : ℕ → ℕ) × UnbrokenDay whole w m
  found_day u law = (places_in (schedule u), record { plan = law.day.plan.plan; unbroken = law.day.unbroken })

  pub unbroken_law : (limit : ℕ) → UnbrokenLaw test whole w v limit
  unbroken_law limit =
      record {
        found_is = λ u t e. all_found u t (found_enough test whole v limit u t e).1;
        none_exactly = (
          λ z. let y = none_enough test whole v limit z.0 z.1 in (all_none z.0 y.1, y.0),
          λ z.
              all_cases test whole v
              (λ u t e. let day = found_day u (all_found u t e) in absurd (z.0 day.0 day.1))
              (λ t e. (t, enough test whole v limit z.1 ∙ e)),
        );
        found_exactly = (
          λ z. let y = found_enough test whole v limit z.0 z.1 z.2 in (found_day z.0 (all_found z.0 z.1 y.1), y.0),
          λ z.
              all_cases test whole v
              (λ u t e. (u, t, enough test whole v limit z.1 ∙ e))
              (λ t e. absurd (all_none t e z.0.0 z.0.1)),
        );
        limits = limit_law test whole v limit;
      }

-- in the settled windows that narrowing answers
pub settled_law : {test : Test} → Planner test → (whole : ℕ → Bool) (w : Windows) → Formed w → (o : Outcome Narrowed)
    → NarrowLaw test whole w o → (n : Narrowed) → o ≡ answered n → (limit : ℕ) → UnbrokenLaw test whole w n.windows limit
settled_law planner whole w formed o law n e =
    let best = law.widest n e in
    unbroken_law planner whole w n.windows formed best.entries best.inside (widest_formed whole w n.windows formed best)
    best.settled.plan
    (λ m day. law.unbroken_kept n e m day.plan day.unbroken)

-- and where it refuses there is no unbroken day
pub refused_none : {test : Test} (whole : ℕ → Bool) (w : Windows) (o : Outcome Narrowed) → NarrowLaw test whole w o
    → (k : Code) → o ≡ refused k → NoneUnbroken whole w
refused_none whole w o law k e m day = law.unbroken_none k e m day.plan day.unbroken

-- the contract of the search, from what its answer says
pub searches_so : (whole : ℕ → Bool) (s : WindowSet) (limit : ℕ) (a : SearchAnswer)
    → AnswersSearch (windows_in s) (search_within overload_of limit whole (windows_in s)) a → SearchesWindows whole s limit a
searches_so whole s limit a says =
    let w = windows_in s in
    record {
      says = says;
      limits = limit_law overload_of whole w limit;
      law =
          λ formed planned.
          unbroken_law overload_planner whole w w formed refl (record { r = λ i _. omega arith; d = λ i _. omega arith }) formed planned
          (λ m day. day.plan) limit;
    }
