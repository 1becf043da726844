-- The public calls, as code makes their answers.
-- Assumes nothing.
use mathlib.Core.Path.{◌≡◌, refl, sym, ap, ◌∙◌}
use mathlib.Core.Bool.{Bool, true, false, cond}
use mathlib.Core.List.{List}
use Prim.Native.Nat.{ℕ, ◌+◌, ◌-◌, ◌<◌, ◌≤◌}
use native.Mathlib.Omega.{arith}
use Rattle.base.specs.Outcomes.{Code, Outcome, answered, refused}
use Rattle.list.specs.Refusals.{code_of}
use Rattle.list.specs.DayLists.{whole_in, marked}
use Rattle.list.specs.Checks.{check_of}
use Rattle.list.specs.declared.types.DayList.{DayList}
use Rattle.list.specs.declared.types.Refusal.{Refusal}
use Rattle.std.specs.Prelude.{Result, Ok, Err}
use Rattle.base.proofs.Inversion.{answered_refused}
use Rattle.windows.specs.Windows.{windows_of, columns, windows_in, room_fault, Formed}
use Rattle.windows.specs.Plans.{Plannable}
use Rattle.windows.specs.Intervals.{overload_of}
use Rattle.windows.specs.Calls.{Holds}
use Rattle.windows.specs.declared.types.WindowSet.{WindowSet}
use Rattle.base.proofs.Sums.{sum_most}
use Rattle.windows.proofs.Room.{formed_passes, passes_formed}
use Rattle.windows.proofs.FormedLists.{list_formed}
use Rattle.narrow.specs.Rounds.{Narrowed, unmoved, round, all_rounds, narrowing}
use Rattle.narrow.specs.Calls.{listed, narrow_windows, narrowed_by, narrowed_of, narrow_answer_of, settle_of, round_of}
use Rattle.narrow.specs.Calls.{AnswersAs, NarrowsWindows, Settles, MakesRound}
use Rattle.narrow.specs.Internal.{Countable}
use Rattle.narrow.specs.declared.types.NarrowedWindows.{NarrowedWindows}
use Rattle.narrow.specs.declared.types.NarrowedList.{NarrowedList}
use Rattle.narrow.proofs.StepsKeep.{keeps_n}
use Rattle.narrow.proofs.Costs.{rounds_cost}
use Rattle.narrow.proofs.NarrowLaws.{narrow_law}
use Rattle.narrow.proofs.OverloadPlanner.{overload_planner}
use Rattle.narrow.proofs.ListAnswers.{settles, makes_round}

-- what the overload test says of windows with room
module _ (s : WindowSet) (formed : Formed (windows_in s)) where
  -- where they have a plan they can be counted on: a day has at most 65,535 minutes, and the arrays 64 places
  pub test_countable : (whole : ℕ → Bool) → answered tt ≡ overload_of (windows_in s) → s.h < 65536
      → Countable whole (record { windows = s; moves = 0 })
  test_countable whole e short =
      record {
        formed = formed;
        planned = (overload_planner.exact (windows_in s) formed).1 (sym e);
        few = omega (arith, sum_most (windows_in s).n 65535 _ each);
      }
    where
      each : (i : ℕ) → i < (windows_in s).n → cond (whole i) ((windows_in s).d i - ((windows_in s).r i + (windows_in s).p i)) 0 ≤ 65535
      each i h = go (whole i)
        where
          go : (t : Bool) → cond t ((windows_in s).d i - ((windows_in s).r i + (windows_in s).p i)) 0 ≤ 65535
          go true = omega (arith, formed.in_day i h, short)
          go false = omega arith

  pub test_unplanned : {k : Code} → refused k ≡ overload_of (windows_in s) → Plannable (windows_in s) → ⊥
  test_unplanned e plan = answered_refused ((overload_planner.exact (windows_in s) formed).0 plan) (sym e)

-- What `narrow_windows` answers.
module _ (whole : ℕ → Bool) (s : WindowSet) where
  narrows : (a : Result NarrowedWindows Refusal) → narrowed_of a ≡ narrow_windows whole (windows_in s)
      → ((v : NarrowedWindows) → a ≡ Ok v → v.windows.n ≡ s.n) → NarrowsWindows whole s a
  unfolding narrow_windows
  narrows a is same_n =
      record {
        outcome = is;
        n = same_n;
        law =
            λ formed.
            let same : narrowed_of a ≡ narrowing overload_of whole (windows_in s) = rw (formed_passes (windows_in s) formed) at is in
            rw same (narrow_law overload_planner whole (windows_in s) formed);
      }

  -- a refusal: of windows without room, of an overload, of the rounds
  stopped : (a : Result NarrowedWindows Refusal) (x : Refusal) → a ≡ Err x → refused (code_of x) ≡ narrow_windows whole (windows_in s)
      → NarrowsWindows whole s a
  stopped a x e is =
      narrows a (ap narrowed_of e ∙ is) (λ v q. absurd (answered_refused (ap narrowed_of q) (ap narrowed_of e)))

  pub windows_without_room : (a : Result NarrowedWindows Refusal) (x : Refusal) → a ≡ Err x → refused (code_of x) ≡ room_fault (windows_in s)
      → NarrowsWindows whole s a
  unfolding narrow_windows
  windows_without_room a x e fault = stopped a x e (rw (← fault) refl)

  module _ (room : answered tt ≡ room_fault (windows_in s)) where
    room_passed : Formed (windows_in s)
    room_passed = passes_formed (windows_in s) (omega arith) (sym room)

    pub windows_countable : answered tt ≡ overload_of (windows_in s) → s.h < 65536 → Countable whole (record { windows = s; moves = 0 })
    windows_countable = test_countable s room_passed whole

    pub windows_overloaded : (a : Result NarrowedWindows Refusal) (x : Refusal) → a ≡ Err x
        → refused (code_of x) ≡ overload_of (windows_in s) → NarrowsWindows whole s a
    unfolding narrow_windows narrowing
    windows_overloaded a x e test = stopped a x e (rw (← room, ← test) refl)

    module _ (plan : answered tt ≡ overload_of (windows_in s)) where
      rounds_are : all_rounds overload_of whole (windows_in s) ≡ narrow_windows whole (windows_in s)
      unfolding narrow_windows narrowing
      rounds_are = rw (← room, ← plan) refl

      pub windows_stopped : (a : Result NarrowedWindows Refusal) (x : Refusal) → a ≡ Err x
          → refused (code_of x) ≡ all_rounds overload_of whole (windows_in s) → NarrowsWindows whole s a
      windows_stopped a x e is = stopped a x e (is ∙ rounds_are)

      module _ (found : NarrowedWindows) (is : answered (narrowed_by found) ≡ all_rounds overload_of whole (windows_in s)) where
        -- n is kept, whatever it is
        abbrev answer : NarrowedWindows
        answer =
            let u = found.windows in
            record { windows = record { h = u.h; n = s.n; r = u.r; d = u.d; p = u.p }; moves = found.moves }

        pub windows_found : NarrowsWindows whole s (Ok answer)
        windows_found = narrows (Ok answer) (same_windows ∙ is ∙ rounds_are) (λ v e. ap (λ (x : NarrowedWindows). x.windows.n) (same v e))
          where
            same : (v : NarrowedWindows) → ◌≡◌ {A = Result NarrowedWindows Refusal} (Ok answer) (Ok v) → v ≡ answer
            same v e = cc e

            same_n : (windows_in found.windows).n ≡ (windows_in s).n
            same_n =
                keeps_n (rounds_cost overload_of whole (unmoved (windows_in s)) room_passed _ (narrowed_by found) (sym is)).keeps

            same_windows : narrowed_of (Ok answer) ≡ answered (narrowed_by found)
            same_windows =
                let u = found.windows in
                λ k. answered (record { windows = columns u.h (sym same_n k) u.r u.d u.p; moves = found.moves })

-- the calls, after the value check
module _ (l : DayList) where
  module _ (a : Result NarrowedList Refusal) (x : Refusal) (e : a ≡ Err x) where
    turned : {o : Outcome Narrowed} → o ≡ refused (code_of x) → AnswersAs l o a
    turned is = ap narrow_answer_of e ∙ ap (listed l) (sym is)

    module _ (turns : refused (code_of x) ≡ check_of l) where
      pub settle_turned : Settles l a
      unfolding settle_of
      settle_turned = settles l a (turned (rw (← turns) refl))

      pub round_turned : MakesRound l a
      unfolding round_of
      round_turned = makes_round l a (turned (rw (← turns) refl))

  -- with the marks of the whole entries and the windows of the list
  module _ (passes : answered tt ≡ check_of l) (marks : List Bool) (kinds : marked marks ≡ whole_in l) (s : WindowSet) (holds : Holds l s) where
    pub list_room : Formed (windows_in s)
    list_room = rw holds.windows (list_formed l (sym passes))

    settled : narrow_windows (marked marks) (windows_in s) ≡ settle_of l
    unfolding settle_of narrow_windows
    settled =
        let given : narrow_windows (marked marks) (windows_in s) ≡ narrow_windows (whole_in l) (windows_of l) =
        λ i. narrow_windows (kinds i) (holds.windows i) in
        given ∙ rw (← passes, formed_passes (windows_of l) (list_formed l (sym passes))) refl

    rounded : round overload_of (marked marks) (unmoved (windows_in s)) ≡ round_of l
    unfolding round_of
    rounded =
        let given : _ ≡ _ = λ i. round overload_of (kinds i) (unmoved (holds.windows i)) in
        given ∙ rw (← passes) refl

    -- the windows found, or their refusal
    module _ (found : Result NarrowedWindows Refusal) (a : Result NarrowedList Refusal) (is : AnswersAs l (narrowed_of found) a) where
      pub settle_narrowed : NarrowsWindows (marked marks) s found → Settles l a
      settle_narrowed narrows = settles l a (is ∙ ap (listed l) (narrows.outcome ∙ settled))

      pub round_made : narrowed_of found ≡ round overload_of (marked marks) (unmoved (windows_in s)) → MakesRound l a
      round_made e = makes_round l a (is ∙ ap (listed l) (e ∙ rounded))
