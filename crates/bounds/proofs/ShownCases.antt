-- Shown plans as code stores and turns them.
-- Assumes nothing.
use mathlib.Core.Path.{◌≡◌, refl, sym, ap, ◌∙◌}
use mathlib.Core.Bool.{Bool}
use mathlib.Core.List.{List, ◌++◌, reverse}
use Prim.Native.Nat.{ℕ, suc, ◌-◌, ◌<◌, ◌≤◌}
use native.Mathlib.Omega.{arith}
use borrow.Author.Tests.{lt-ltb, le-ltb, le-leb, lt-leb}
use lib.ListN.{length, get_or, take, drop}
use lib.Seq.{ext_get_or, drop_at}
use Rattle.std.proofs.lemmas.List.{get_or-reverse, length-reverse, take_at}
use Rattle.base.specs.Outcomes.{Code, answered, refused}
use Rattle.list.specs.Refusals.{outcome_of}
use Rattle.list.specs.declared.types.Refusal.{Refusal}
use Rattle.list.specs.declared.types.Refusal.TheVariants.{PlanBufferShort, UnknownPlace}
use Rattle.std.specs.Prelude.{Err, Ok, Result}
use Rattle.windows.specs.Windows.{Windows, windows_in, with_d, room_fault, Formed, Searchable}
use Rattle.windows.specs.Plans.{idle, places_in}
use Rattle.windows.specs.Mirrors.{mirror, mirror_bytes, MirrorOf}
use Rattle.windows.specs.Intervals.{overload_of}
use Rattle.windows.specs.declared.types.WindowSet.{WindowSet}
use Rattle.jackson.specs.Calls.{FillsWindows}
use Rattle.base.proofs.Listed.{list_length}
use Rattle.windows.proofs.Room.{passes_formed}
use Rattle.windows.proofs.PlanFacts.{mirror_at}
use Rattle.jackson.proofs.Schedules.{schedule_long}
use Rattle.jackson.proofs.StoredPlans.{filled_with}
use Rattle.narrow.proofs.OverloadPlanner.{overload_planner}
use Rattle.windows.proofs.MirrorWindows.{formed_mirror}
use Rattle.bounds.specs.Ends.{least_end, greatest_start}
use Rattle.bounds.specs.ShownPlans.{early_plan, late_plan, shown_plan}
use Rattle.bounds.specs.Calls.{show_rows, StoresPlan}
use Rattle.bounds.specs.Internal.{StoresShown}
use Rattle.bounds.specs.declared.types.Shown.{Shown}
use Rattle.bounds.specs.declared.types.Shown.TheVariants.{Early, Late}
use Rattle.bounds.proofs.EndSearches.{least_end_range}
use Rattle.bounds.proofs.MirrorEnds.{start_by_mirror, late_by_mirror}

-- the early plan: the schedule of the windows u with k's d set to its least end
pub stored_early : (whole : ℕ → Bool) (w u : Windows) (k e : ℕ) (old : List ℕ) (v : Result (Unit {0}) Refusal) (new : List ℕ) → u ≡ with_d w k e
    → FillsWindows u old v new → w.h ≤ length old → e ≡ least_end overload_of whole w k → StoresShown Early whole w k old e new
stored_early whole w u k e old v new same fills room bound =
    record { bound = bound; buffer = rw (← bound) (filled_with (with_d w k e) old v new (rw same at fills) room) }

-- arrays with the mirrored windows can be searched too
pub searchable_mirror : {s t : WindowSet} {k : ℕ} → Searchable s k → MirrorOf s t → Searchable t k
searchable_mirror {s} can turned =
    record {
      formed = rw turned.windows (formed_mirror (windows_in s) can.formed);
      place = omega (arith, turned.n, can.place);
    }

-- the late plan: a buffer holds the early plan in the mirrored windows u, with the end e, and that plan is mirrored
module _ {whole : ℕ → Bool} {w u : Windows} (formed : Formed w) {k : ℕ} (place : k < w.n) (turned : u ≡ mirror w)
    {old : List ℕ} {e : ℕ} {one : List ℕ} (stores : StoresShown Early whole u k old e one) where
  end_is : e ≡ least_end overload_of whole (mirror w) k
  end_is = rw turned at stores.bound

  pub end_in_day : e ≤ w.h
  end_in_day =
      let there = formed_mirror w formed in
      omega (arith, end_is, (least_end_range overload_of whole (mirror w) there k place).1, there.in_day k place)

  pub stored_late : (new : List ℕ) → new ≡ mirror_bytes (length (take w.h one)) (take w.h one)
      → StoresShown Late whole w k old (w.h - e) (new ++ drop w.h one)
  stored_late new q = record { bound = start_is; buffer = λ i. new_is i ++ rest i }
    where
      early : List ℕ
      early = early_plan (mirror w) k e

      long : length early ≡ w.h
      long = schedule_long _

      start_is : w.h - e ≡ greatest_start overload_of whole w k
      start_is = rw end_is (sym (start_by_mirror overload_planner w formed k place whole))

      one_is : one ≡ early ++ drop w.h old
      one_is =
          let bound = sym stores.bound in
          stores.buffer ∙ (λ i. early_plan (turned i) k (bound i) ++ drop (turned i).h old)

      lent : take w.h one ≡ early
      lent = ap (take w.h) one_is ∙ take_at early (drop w.h old) w.h long

      rest : drop w.h one ≡ drop w.h old
      rest = ap (drop w.h) one_is ∙ drop_at early (drop w.h old) w.h long

      new_is : new ≡ shown_plan Late whole k w
      new_is = q ∙ rw (lent, long) (sym (late_by_mirror w k place e end_in_day)) ∙ ap (late_plan w k) start_is

-- `store_plan`: what it refuses, and what it stores.
module _ (x : Shown) (whole : Bool) (s : WindowSet) (k : ℕ) (old : List ℕ) where
  plan_refused : (a : Result ℕ Refusal) {r : Code} → outcome_of a ≡ refused r → show_rows (windows_in s) k (length old) ≡ refused r
      → StoresPlan x whole (windows_in s) k old a old
  plan_refused a says q = record { outcome = rw q says; buffer = rw q refl }

  pub stores_no_room : (a : Result ℕ Refusal) {r : Code} → outcome_of a ≡ refused r → refused r ≡ room_fault (windows_in s)
      → StoresPlan x whole (windows_in s) k old a old
  unfolding show_rows
  stores_no_room a says fault = plan_refused a says (rw (← fault) refl)

  module _ (room : answered tt ≡ room_fault (windows_in s)) where
    pub stored_formed : Formed (windows_in s)
    stored_formed = passes_formed (windows_in s) (omega arith) (sym room)

    pub no_place : (windows_in s).n ≤ k → StoresPlan x whole (windows_in s) k old (Err (UnknownPlace k)) old
    unfolding show_rows
    no_place h = plan_refused (Err (UnknownPlace k)) refl (rw (← room, le-leb _ k h) refl)

    module _ (known : k < (windows_in s).n) where
      pub no_buffer : length old < s.h → StoresPlan x whole (windows_in s) k old (Err (PlanBufferShort s.h)) old
      unfolding show_rows
      no_buffer h = plan_refused (Err (PlanBufferShort s.h)) refl (rw (← room, lt-leb _ k known, lt-ltb (length old) s.h h) refl)

      pub plan_stored : s.h ≤ length old → (b : ℕ) (new : List ℕ) → StoresShown x (λ _. whole) (windows_in s) k old b new
          → StoresPlan x whole (windows_in s) k old (Ok b) new
      unfolding show_rows
      plan_stored h b new stores =
          let passed : show_rows (windows_in s) k (length old) ≡ answered tt =
          rw (← room, lt-leb _ k known, le-ltb (length old) s.h h) refl in
          record { outcome = rw passed (ap answered stores.bound); buffer = rw passed stores.buffer }

-- bytes the other way round are their mirror
pub mirror_reversed : (bytes : List ℕ) → reverse bytes ≡ mirror_bytes (length bytes) bytes
mirror_reversed bytes = ext_get_or idle _ _ (length-reverse bytes ∙ sym (list_length (length bytes) _)) same
  where
    same : (t : ℕ) → t < length (reverse bytes) → get_or (reverse bytes) t idle ≡ places_in (mirror_bytes (length bytes) bytes) t
    same t l =
        let below : t < length bytes = omega (arith, length-reverse bytes) in
        let at : length bytes - 1 - t ≡ length bytes - suc t = omega arith in
        get_or-reverse bytes t idle below
        ∙ ap (λ (i : ℕ). get_or bytes i idle) at
        ∙ sym (mirror_at (length bytes) bytes t below)
