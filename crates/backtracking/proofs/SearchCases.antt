-- The search as code makes it, step by step.
-- Assumes nothing.
use mathlib.Core.Path.{◌≡◌, refl, sym, ap, ◌∙◌}
use mathlib.Core.Bool.{Bool, true, false, true≢false}
use Prim.Native.Nat.{ℕ, suc, ◌+◌, ◌<◌, ◌≤◌}
use native.Mathlib.Omega.{arith}
use borrow.Author.Tests.{lt-ltb, le-ltb, leb-true, leb-false}
use lib.Dec.{leb}
use Rattle.std.proofs.Common.{Option, None, Some}
use Rattle.std.specs.Option.{MatchOption}
use Rattle.base.specs.Outcomes.{accepts}
use Rattle.windows.specs.Windows.{Windows, windows_in, with_windows, with_window, fixed_at, put}
use Rattle.windows.specs.Intervals.{overload_of}
use Rattle.windows.specs.declared.types.WindowSet.{WindowSet}
use Rattle.base.proofs.Sums.{le_or_lt}
use Rattle.windows.proofs.Puts.{put_same, put_other}
use Rattle.backtracking.specs.Searches.{Search, found, none, spent, search_within}
use Rattle.backtracking.specs.Calls.{AnswersSearch}
use Rattle.backtracking.specs.Internal.{NextWhole, FindsNext, LastWhole, FixedBelow, going_back, from_start, Stands, Entered, Reopens}
use Rattle.backtracking.specs.Internal.{StartLeft, Tries, OnTheWay}
use Rattle.backtracking.specs.declared.search.Position.{Position}
use Rattle.backtracking.specs.declared.types.Ending.TheVariants.{DayFound, NoneExists, TrialsSpent}
use Rattle.backtracking.proofs.Remainders.{from_first, from_last, from_next, from_whole, back_none, back_whole}
use Rattle.backtracking.proofs.Remainders.{start_none, start_spent, start_fails, start_holds}

-- The first whole place that a search of those from k on and below n finds, if any.
pub next_found : (whole : ℕ → Bool) (n k : ℕ) → k ≤ n → (r : Option ℕ)
    → MatchOption r ((i : ℕ) → k ≤ i → i < n → whole i ≡ false)
    (λ j. (k ≤ j) × (j < n) × (whole j ≡ true) × ((i : ℕ) → k ≤ i → i < j → whole i ≡ false))
    → FindsNext whole n k r
next_found whole n k h None pauses = record { from = h; within = omega arith; pauses = pauses; is_whole = λ l. absurd (omega arith) }
next_found whole n k h (Some j) (from, below, is, pauses) =
    (below, record { from = from; within = omega arith; pauses = pauses; is_whole = λ _. is })

-- Which starts are fixed.
module _ (whole : ℕ → Bool) (w : Windows) where
  module _ (v : Windows) (k : ℕ) (so : FixedBelow whole w v k) where
    fixed_later : (j : ℕ) → k ≤ j → FixedBelow whole w v j
    fixed_later j h = record { entries = so.entries; later = λ i l. so.later i (omega arith); pauses = so.pauses }

    same_n : v.n ≡ w.n
    same_n = ap (λ (y : Windows). y.n) so.entries

    same_p : (i : ℕ) → v.p i ≡ w.p i
    same_p i = ap (λ (y : Windows). y.p i) so.entries

    -- another window of entry j
    module _ (j x y : ℕ) where
      other_entries : with_window v j x y ≡ with_windows w (put j x v.r) (put j y v.d)
      other_entries = ap (λ (u : Windows). with_windows u (put j x v.r) (put j y v.d)) so.entries

      other_window : (i : ℕ) → (i ≡ j → ⊥) → (v.r i ≡ w.r i) × (v.d i ≡ w.d i)
          → (put j x v.r i ≡ w.r i) × (put j y v.d i ≡ w.d i)
      other_window i ne z = (put_other j x v.r i ne ∙ z.0, put_other j y v.d i ne ∙ z.1)

    -- entry k has a start
    pub fixed_next : (s e : ℕ) → whole k ≡ true → FixedBelow whole w (with_window v k s e) (k + 1)
    fixed_next s e is =
        record {
          entries = other_entries k s e;
          later = λ i l. other_window k s e i (λ q. omega (arith, q, l)) (so.later i (omega arith));
          pauses = λ i pause. other_window k s e i (λ q. true≢false (sym is ∙ sym (ap whole q) ∙ pause)) (so.pauses i pause);
        }

    -- the last whole entry before k has its window again
    fixed_back : (j : ℕ) → LastWhole whole k (suc j) → FixedBelow whole w (with_window v j (w.r j) (w.d j)) j
    fixed_back j last =
        record {
          entries = other_entries j (w.r j) (w.d j);
          later = λ i l.
              le_or_lt i j
              (λ m.
              let z : i ≡ j = omega arith in
              rw z (put_same j (w.r j) v.r, put_same j (w.d j) v.d))
              (λ m.
              other_window j (w.r j) (w.d j) i (λ q. omega (arith, q, m))
              (le_or_lt k i (λ h. so.later i h) (λ h. so.pauses i (last.pauses i (omega arith) h))));
          pauses = λ i pause.
              other_window j (w.r j) (w.d j) i (λ q. true≢false (sym (last.is_whole j refl) ∙ sym (ap whole q) ∙ pause))
              (so.pauses i pause);
        }

-- Place k is reached.
module _ (whole : ℕ → Bool) (w : Windows) (v : WindowSet) (k t : ℕ) (so : FixedBelow whole w (windows_in v) k) where
  pub enters_whole : (j : ℕ) → NextWhole whole w.n k j → j < w.n → w.r j ≤ 65536
      → Entered whole w (windows_in v) k t (record { windows = v; place = j; start = w.r j; trials = t })
  enters_whole j next place small =
      let here = fixed_later whole w (windows_in v) k so j next.from in
      record {
        stands = record { fixed = here; within = next.within; is_whole = next.is_whole; start = small };
        trials = refl;
        means = λ limit.
            rw (lt-ltb j w.n place)
            (sym
            (from_next limit whole w k j (windows_in v) t next
            ∙ from_whole limit whole w j (windows_in v) t here place (next.is_whole place)));
      }

  pub enters_all : NextWhole whole w.n k w.n
      → Entered whole w (windows_in v) k t (record { windows = v; place = w.n; start = 0; trials = t })
  enters_all next =
      record {
        stands =
            record {
              fixed = fixed_later whole w (windows_in v) k so w.n next.from;
              within = next.within;
              is_whole = next.is_whole;
              start = omega arith;
            };
        trials = refl;
        means = λ limit.
            rw (le-ltb w.n w.n (omega arith))
            (sym (from_next limit whole w k w.n (windows_in v) t next ∙ from_last limit whole w (windows_in v) t));
      }

-- One trial, at the position `at`.
module _ (whole : ℕ → Bool) (w : Windows) (at : Position) (stands : Stands whole w at) (left : StartLeft w at) (u : Windows)
    (fixed : u ≡ with_window (windows_in at.windows) at.place at.start (at.start + w.p at.place)) where
  abbrev v : Windows
  v = windows_in at.windows

  is_fixed : u ≡ fixed_at v at.place at.start
  is_fixed =
      fixed
      ∙ ap (λ (p : ℕ). with_window v at.place at.start (at.start + p))
      (sym (same_p whole w v at.place stands.fixed at.place))

  pub tried_fixed : FixedBelow whole w u (at.place + 1)
  tried_fixed = rw fixed (fixed_next whole w v at.place stands.fixed _ _ (stands.is_whole left.place))

  pub tries_fails : accepts (overload_of u) ≡ false → at.start + 1 ≤ 65536
      → Tries whole w at (record { windows = at.windows; place = at.place; start = at.start + 1; trials = at.trials + 1 })
  tries_fails e more =
      record {
        stands =
            record {
              fixed = stands.fixed;
              within = stands.within;
              is_whole = stands.is_whole;
              start = more;
            };
        trials = refl;
        means = λ limit l.
            rw (lt-ltb at.place w.n left.place)
            (sym (start_fails limit whole w at.place at.start v at.trials left.room l (rw is_fixed at e)));
      }

  pub tries_holds : accepts (overload_of u) ≡ true → (next : Position) → Entered whole w u (at.place + 1) (at.trials + 1) next
      → Tries whole w at next
  tries_holds e next enters =
      record {
        stands = enters.stands;
        trials = enters.trials;
        means = λ limit l.
            rw (lt-ltb at.place w.n left.place)
            (enters.means limit
            ∙ rw is_fixed
            (sym
            (start_holds limit whole w at.place at.start v at.trials left.room stands.fixed
            (stands.is_whole left.place) l (rw is_fixed at e))));
      }

-- On the way: what is left at the position `at` is the whole search.
module _ (whole : ℕ → Bool) (s : WindowSet) (limit : ℕ) where
  abbrev given : Windows
  given = windows_in s

  abbrev x : Search
  x = search_within overload_of limit whole given

  pub way_begins : (at : Position) → Entered whole given given 0 0 at → OnTheWay whole given limit at
  unfolding search_within
  way_begins at enters =
      record {
        stands = enters.stands;
        spent = omega (arith, enters.trials);
        means = enters.means limit ∙ from_first limit whole given given 0;
      }

  module _ (at : Position) (way : OnTheWay whole given limit at) where
    abbrev now : Windows
    now = windows_in at.windows

    pub way_found : given.n ≤ at.place → AnswersSearch given x (record { ending = DayFound; windows = at.windows; trials = at.trials })
    way_found end =
        let z : x ≡ found now at.trials = sym way.means ∙ rw (le-ltb at.place given.n end) refl in
        record { ending = rw z refl; windows = rw z refl; trials = rw z refl }

    module _ (place : at.place < given.n) where
      way_start : x ≡ from_start limit whole given at.place at.start now at.trials
      way_start = sym way.means ∙ rw (lt-ltb at.place given.n place) refl

      pub way_left : leb (at.start + given.p at.place) (given.d at.place) ≡ true → StartLeft given at
      way_left e = record { place = place; room = leb-true _ _ e }

      pub way_spent : StartLeft given at → limit ≤ at.trials
          → AnswersSearch given x (record { ending = TrialsSpent; windows = s; trials = at.trials })
      way_spent left l =
          let z : x ≡ spent at.trials =
          way_start ∙ start_spent limit whole given at.place at.start now at.trials left.room l in
          record { ending = rw z refl; windows = rw z refl; trials = rw z refl }

      -- no start is left
      module _ (e : leb (at.start + given.p at.place) (given.d at.place) ≡ false) where
        way_back : x ≡ going_back limit whole given at.place now at.trials
        way_back =
            way_start ∙ start_none limit whole given at.place at.start now at.trials (leb-false _ _ e)

        pub way_none : LastWhole whole at.place 0
            → AnswersSearch given x (record { ending = NoneExists; windows = s; trials = at.trials })
        way_none last =
            let z : x ≡ none at.trials = way_back ∙ back_none limit whole given at.place now at.trials last in
            record { ending = rw z refl; windows = rw z refl; trials = rw z refl }

        pub way_again : (j : ℕ) → LastWhole whole at.place (suc j) → (next : Position) → Reopens given j at next
            → OnTheWay whole given limit next
        way_again j last next opens =
            record {
              stands =
                  record {
                    fixed = rw (opens.place, opens.windows) (fixed_back whole given now at.place way.stands.fixed j last);
                    within = omega (arith, opens.place, last.within, place);
                    is_whole = λ _. rw opens.place (last.is_whole j refl);
                    start = opens.small;
                  };
              spent = omega (arith, opens.trials, way.spent);
              means =
                  rw (opens.place, opens.windows, opens.start, opens.trials, lt-ltb j given.n (omega (arith, last.within, place)))
                  (sym (way_back ∙ back_whole limit whole given at.place j now at.trials last));
            }
