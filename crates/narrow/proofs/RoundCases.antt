-- Searches with their moves, as code makes them.
-- Assumes nothing.
use mathlib.Core.Path.{◌≡◌, sym, ap, ◌∙◌}
use Prim.Native.Nat.{ℕ, ◌+◌, ◌<◌, ◌≤◌, min}
use native.Mathlib.Omega.{arith}
use borrow.Author.Tests.{eq-eqb, ne_eqb}
use lib.ListN.{length, get_or, set}
use Rattle.base.specs.Outcomes.{Code, Outcome, answered, refused}
use Rattle.list.specs.Refusals.{outcome_of}
use Rattle.std.specs.Prelude.{Option, Some, None, Result, ok_or}
use Rattle.list.specs.declared.types.Refusal.{Refusal}
use Rattle.list.specs.declared.types.Refusal.TheVariants.{NoPlace}
use Rattle.windows.specs.Windows.{Windows, columns, windows_in, with_r, Formed}
use Rattle.windows.specs.Mirrors.{mirror}
use Rattle.windows.specs.Intervals.{overload_of}
use Rattle.windows.specs.declared.types.WindowSet.{WindowSet}
use Rattle.base.proofs.Sums.{same_cases}
use Rattle.narrow.specs.Searching.{Test, least_start, SearchLaw}
use Rattle.narrow.specs.Rounds.{earliest, latest, Narrowed, moved, moves_of, narrow_side}
use Rattle.narrow.specs.Internal.{Visitable}
use Rattle.narrow.specs.FastRounds.{found_of}
use Rattle.narrow.specs.Calls.{narrowed_by}
use Rattle.narrow.specs.declared.types.NarrowedWindows.{NarrowedWindows}
use Rattle.narrow.proofs.OverloadPlanner.{overload_planner}
use Rattle.windows.proofs.Puts.{put_same}
use Rattle.windows.proofs.MirrorWindows.{formed_mirror, plannable_mirror}
use Rattle.narrow.proofs.MirrorSides.{mirror_outcome, side_by_mirror}
use Rattle.narrow.proofs.Costs.{moved_same}
use Rattle.windows.proofs.ArrayCases.{held_r}
use Rattle.edges.specs.Laws.{StartLaw}
use Rattle.edges.specs.Calls.{FindsStart}
use Rattle.narrow.proofs.Exact.{search_law}

-- what is found by jumps is what document 01's search answers
pub found_least : (w : Windows) → Formed w → (k : ℕ) → k < w.n → (f : Option ℕ) → StartLaw w k f → found_of k f ≡ least_start overload_of w k
found_least w formed k place = go
  where
    exact : SearchLaw overload_of w k
    exact = search_law overload_planner w formed k place

    go : (f : Option ℕ) → StartLaw w k f → found_of k f ≡ least_start overload_of w k
    go (Some x) found = sym ((exact.start_is x).1 found)
    go None none = sym (exact.no_start.1 none)

pub jumps_least : (s : WindowSet) (k : ℕ) → Visitable s k → (f : Option ℕ) → FindsStart (windows_in s) k f
    → found_of k f ≡ least_start overload_of (windows_in s) k
jumps_least s k ready f finds =
    found_least (windows_in s) ready.formed k ready.place f (finds.law ready.formed ready.planned ready.place)

-- and what code makes of it
pub search_says : (k : ℕ) (f : Option ℕ) (r : Result ℕ Refusal) → r ≡ ok_or f (NoPlace k) → outcome_of r ≡ found_of k f
search_says k (Some x) r e = ap outcome_of e
search_says k None r e = ap outcome_of e

pub moved_one : (x y : ℕ) → moved x y ≤ 1
moved_one x y = same_cases x y (λ e _. rw (eq-eqb x y e) (omega arith)) (λ e _. rw (ne_eqb x y e) (omega arith))

module _ (test : Test) (k : ℕ) (s : Narrowed) where
  start_found : (x : ℕ) → least_start test s.windows k ≡ answered x
      → narrow_side test earliest k s ≡ answered (record { windows = with_r s.windows k x; moves = s.moves + moved (s.windows.r k) x })
  unfolding narrow_side
  start_found x e = rw e (ap (λ (m : ℕ). answered (record { windows = with_r s.windows k x; moves = s.moves + m })) one)
    where
      one : moves_of k s.windows (with_r s.windows k x) ≡ moved (s.windows.r k) x
      one = rw (put_same k x s.windows.r, moved_same (s.windows.d k)) (omega arith)

  pub start_refused : (x : Code) → least_start test s.windows k ≡ refused x → narrow_side test earliest k s ≡ refused x
  unfolding narrow_side
  start_refused x e = rw e

-- what code leaves in the arrays is that
pub placed_r : (s : NarrowedWindows) (k x m : ℕ) → k < length s.windows.r → m ≡ moved (get_or s.windows.r k 0) x
    → least_start overload_of (windows_in s.windows) k ≡ answered x
    → let w = s.windows in
    answered (record { windows = columns w.h (min w.n 64) (set w.r k x) w.d w.p; moves = s.moves + m })
    ≡ narrow_side overload_of earliest k (narrowed_by s)
placed_r s k x m h e found = rw (e, held_r s.windows k x h) (sym (start_found overload_of k (narrowed_by s) x found))

-- The search for d, as code makes it: that for r in the mirror t of the windows.
module _ (s : NarrowedWindows) (t : WindowSet) (k : ℕ) (mirrors : windows_in t ≡ mirror (windows_in s.windows))
    (ready : Visitable s.windows k) where
  -- the mirror can be searched
  pub mirror_visitable : Visitable t k
  mirror_visitable =
      let count : (windows_in t).n ≡ (windows_in s.windows).n = ap (λ (w : Windows). w.n) mirrors in
      record {
        formed = rw mirrors (formed_mirror (windows_in s.windows) ready.formed);
        place = omega (arith, ready.place, count);
        planned = rw mirrors (plannable_mirror (windows_in s.windows) ready.planned);
      }

  -- what it answers is mirrored back
  pub mirror_side : (o : Outcome Narrowed) → o ≡ narrow_side overload_of earliest k (narrowed_by (record { windows = t; moves = s.moves }))
      → mirror_outcome o ≡ narrow_side overload_of latest k (narrowed_by s)
  mirror_side o is =
      ap mirror_outcome (rw mirrors at is) ∙ sym (side_by_mirror overload_planner k (narrowed_by s) ready.formed ready.place)

  pub mirror_placed : (v : NarrowedWindows) (u : WindowSet) → windows_in u ≡ mirror (windows_in v.windows)
      → answered (narrowed_by v) ≡ narrow_side overload_of earliest k (narrowed_by (record { windows = t; moves = s.moves }))
      → answered (narrowed_by (record { windows = u; moves = v.moves })) ≡ narrow_side overload_of latest k (narrowed_by s)
  mirror_placed v u back is = ap (λ (w : Windows). answered (record { windows = w; moves = v.moves })) back ∙ mirror_side _ is
