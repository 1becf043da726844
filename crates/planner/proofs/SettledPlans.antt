-- Planning where the checks are passed or refuse, by what `settle` of the crate narrow answers, for calls that narrow with it.
-- Assumes nothing.
use mathlib.Core.Path.{◌≡◌, refl, sym, ap, ◌∙◌}
use Prim.Native.Nat.{ℕ}
use Rattle.base.specs.Outcomes.{Code, answered, refused}
use Rattle.list.specs.DayLists.{whole_in}
use Rattle.list.specs.Refusals.{code_of}
use Rattle.list.specs.declared.types.DayList.{DayList}
use Rattle.list.specs.declared.types.Refusal.{Refusal}
use Rattle.std.specs.Prelude.{Result, Err}
use Rattle.windows.specs.Windows.{windows_of}
use Rattle.windows.specs.Intervals.{overload_of}
use Rattle.windows.proofs.FormedLists.{list_formed}
use Rattle.narrow.specs.Rounds.{narrowing}
use Rattle.narrow.specs.Calls.{settle_of, narrowed_in, Settles}
use Rattle.narrow.specs.Laws.{NarrowLaw}
use Rattle.narrow.specs.declared.types.NarrowedList.{NarrowedList}
use Rattle.narrow.proofs.OverloadPlanner.{overload_planner}
use Rattle.narrow.proofs.NarrowLaws.{narrow_law}
use Rattle.planner.specs.Calls.{plan_checks, plan_of}
use Rattle.planner.specs.Internal.{NarrowsAfter}
use Rattle.planner.proofs.CallLaws.{call_rows_law}
use Rattle.planner.proofs.CallCases.{plan_formed, plan_room}

-- Where the checks are passed, planning is narrowing, and the law of narrowing holds of its outcome.
module _ (l : DayList) (room : ℕ) (passed : plan_checks l room ≡ answered tt) where
  plan_settles : plan_of l room ≡ settle_of l
  plan_settles = (call_rows_law l 0 room).plan_then (plan_formed l room passed) (plan_room l room passed)

  plan_narrows : plan_of l room ≡ narrowing overload_of (whole_in l) (windows_of l)
  plan_narrows = rw passed refl

  pub plan_law : NarrowLaw overload_of (whole_in l) (windows_of l) (plan_of l room)
  plan_law = rw plan_narrows (narrow_law overload_planner (whole_in l) (windows_of l) (list_formed l (plan_formed l room passed)))

-- the checks refuse, or narrowing does
pub checks_refuse : (l : DayList) (room : ℕ) {k : Code} → refused k ≡ plan_checks l room → plan_of l room ≡ refused k
checks_refuse l room says = rw (← says) refl

module _ (l : DayList) (room : ℕ) (passes : answered tt ≡ plan_checks l room) (n : Result NarrowedList Refusal) (settles : Settles l n) where
  pub narrowing_refuses : (x : Refusal) → n ≡ Err x → plan_of l room ≡ refused (code_of x)
  narrowing_refuses x e = plan_settles l room (sym passes) ∙ sym settles.holds.narrowed ∙ ap narrowed_in e

  pub narrows_so : NarrowsAfter (plan_checks l room) l n
  narrows_so =
      let same = plan_settles l room (sym passes) in
      record { answers = rw same settles.answers; holds = rw same settles.holds }
