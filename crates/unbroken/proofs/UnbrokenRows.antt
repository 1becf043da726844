-- The rows of looking for an unbroken day, and what it leaves in a plan buffer, in facts.
-- Assumes nothing.
use mathlib.Core.Path.{◌≡◌, refl, ◌∙◌}
use mathlib.Core.Bool.{Bool, true, false, cond}
use mathlib.Core.List.{List}
use Prim.Native.Nat.{ℕ, ◌<◌}
use borrow.Author.Tests.{lt-ltb, le-ltb}
use lib.Dec.{ltb}
use lib.ListN.{length, get_or, length-replicate, get_or-replicate}
use Rattle.base.specs.Outcomes.{Outcome, answered, refused}
use Rattle.base.proofs.Listed.{list_length}
use Rattle.list.proofs.ByPlace.{by_place_at}
use Rattle.windows.specs.Windows.{Windows}
use Rattle.list.specs.declared.types.DayList.{DayList}
use Rattle.planner.proofs.CallLaws.{call_rows_law, plan_buffer}
use Rattle.backtracking.specs.Searches.{Search, found, none, spent}
use Rattle.unbroken.specs.Calls.{unbroken_of, UnbrokenRowsLaw, whole_starts, starts_after, StartsLaw, FoundBufferLaw}

pub unbroken_rows_law : (l : DayList) (limit room : ℕ) → UnbrokenRowsLaw l limit room
unfolding unbroken_of
unbroken_rows_law l limit room =
    let rows = call_rows_law l 0 room in
    record {
      before = λ c e. rw (rows.before c e).0 refl;
      short = λ w h. rw (rows.plan_short w h) refl;
      unsettled = λ w h c e. rw (rows.plan_then w h ∙ e) refl;
      then = λ w h v e. rw (rows.plan_then w h ∙ e) refl;
    }

-- a day that is found is stored as a day's plan is
pub found_buffer : (old : List ℕ) (o : Outcome Search) → FoundBufferLaw old o
found_buffer old o =
    record {
      refused_stays = λ c e. rw e refl;
      none_stays = λ t e. rw e refl;
      spent_stays = λ t e. rw e refl;
      plan = λ u t e. rw e ((plan_buffer old (answered (record { windows = u; moves = 0 }))).plan _ refl);
      long = λ u t e h. rw e ((plan_buffer old (answered (record { windows = u; moves = 0 }))).long _ refl h);
      after = λ u t e j h. rw e ((plan_buffer old (answered (record { windows = u; moves = 0 }))).after _ refl j h);
    }

pub starts_law : (whole : ℕ → Bool) (o : Outcome Search) → StartsLaw whole o
starts_law whole o =
    record {
      long = long o;
      whole_start = λ u t e i h n is. rw e (at u i h ∙ rw (lt-ltb i u.n n, is) refl);
      pause_start = λ u t e i h is. rw e (at u i h ∙ pause u i (ltb i u.n) is);
      past_start = λ u t e i h n. rw e (at u i h ∙ rw (le-ltb i u.n n) refl);
      none_start = λ t e i h. rw e (get_or-replicate 64 i 0 0 h);
      spent_start = λ t e i h. rw e (get_or-replicate 64 i 0 0 h);
      refused_start = λ c e i h. rw e (get_or-replicate 64 i 0 0 h);
    }
  where
    at : (u : Windows) (i : ℕ) → i < 64 → get_or (whole_starts whole u) i 0 ≡ cond (ltb i u.n) (cond (whole i) (u.r i) 0) 0
    at u i h = by_place_at (λ j. cond (whole j) (u.r j) 0) u.n i h

    pause : (u : Windows) (i : ℕ) (t : Bool) → whole i ≡ false → cond t (cond (whole i) (u.r i) 0) 0 ≡ 0
    pause u i true e = rw e refl
    pause u i false e = refl

    long : (o : Outcome Search) → length (starts_after whole o) ≡ 64
    long (answered (found u t)) = list_length 64 _
    long (answered (none t)) = length-replicate {A = ℕ} 64 0
    long (answered (spent t)) = length-replicate {A = ℕ} 64 0
    long (refused k) = length-replicate {A = ℕ} 64 0
