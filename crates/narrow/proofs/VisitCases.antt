-- Visits and rounds, as code makes them.
-- Assumes nothing.
use mathlib.Core.Path.{◌≡◌, refl, sym, ap, ◌∙◌}
use mathlib.Core.Bool.{Bool, true, false, cond}
use Prim.Native.Nat.{ℕ, zero, suc, ◌+◌, ◌-◌, ◌<◌, ◌≤◌}
use native.Mathlib.Numerals.{add-one}
use native.Mathlib.Omega.{arith}
use borrow.Author.Tests.{eq-eqb, ne_eqb}
use lib.Dec.{eqb}
use Rattle.base.specs.Outcomes.{Code, Outcome, answered, refused, and_then}
use Rattle.base.proofs.Inversion.{Says}
use Rattle.windows.specs.Windows.{Windows, windows_in}
use Rattle.windows.specs.Intervals.{overload_of}
use Rattle.windows.specs.declared.types.WindowSet.{WindowSet}
use Rattle.base.proofs.Sums.{le_or_lt}
use Rattle.narrow.specs.Searching.{Test}
use Rattle.narrow.specs.Rounds.{Side, earliest, latest, Narrowed, step, counted, narrow_side, visit, visits, round, rounds, all_rounds}
use Rattle.narrow.specs.Rounds.{slack}
use Rattle.narrow.specs.Internal.{Visitable, Countable}
use Rattle.narrow.specs.FastRounds.{first_moved}
use Rattle.narrow.specs.Calls.{narrowed_by}
use Rattle.narrow.specs.declared.types.NarrowedWindows.{NarrowedWindows}
use Rattle.narrow.proofs.StepsKeep.{keeps_n}
use Rattle.narrow.proofs.Costs.{Costs, side_cost, visits_cost, round_cost}
use Rattle.narrow.proofs.OverloadPlanner.{overload_planner}
use Rattle.narrow.proofs.SettledSteps.{side_planned, visits_planned}
use Rattle.narrow.proofs.RoundCases.{moved_one}
use Rattle.narrow.proofs.StayingPlaces.{moved_within, unmoved_visits}

-- a search adds at most two to the moves: one for each side, of which it changes one
side_moves : (test : Test) (side : Side) (k : ℕ) (s : Narrowed)
    → Says (λ (v : Narrowed). v.moves ≤ s.moves + 2) (λ _. Unit {0}) (narrow_side test side k s)
unfolding narrow_side
side_moves test side k s = go (step test side k s.windows)
  where
    go : (o : Outcome Windows) → Says (λ (v : Narrowed). v.moves ≤ s.moves + 2) (λ _. Unit {0})
        (and_then o (λ v. answered (counted k s v)))
    go (answered v) = omega (arith, moved_one (s.windows.r k) (v.r k), moved_one (s.windows.d k) (v.d k))
    go (refused x) = tt

-- a pause entry is passed over
pub visit_passed : (s : Narrowed) (k : ℕ) (whole : Bool) → whole ≡ false → answered s ≡ visit overload_of (λ _. whole) k s
unfolding visit
visit_passed s k whole pause = rw pause

-- a whole one, after its first search
module _ (s : NarrowedWindows) (k : ℕ) (ready : Visitable s.windows k) (whole : Bool) (is_whole : whole ≡ true) where
  pub visit_stopped : {x : Code} → refused x ≡ narrow_side overload_of earliest k (narrowed_by s)
      → refused x ≡ visit overload_of (λ _. whole) k (narrowed_by s)
  unfolding visit
  visit_stopped e = rw (is_whole, ← e) refl

  module _ (a : NarrowedWindows) (e : answered (narrowed_by a) ≡ narrow_side overload_of earliest k (narrowed_by s)) where
    pub visit_on : Visitable a.windows k
    visit_on =
        let cost = side_cost overload_of (λ _. true) (narrowed_by s) ready.formed earliest k ready.place refl _ (sym e) in
        record {
          formed = cost.keeps.formed;
          place = omega (arith, keeps_n cost.keeps, ready.place);
          planned =
              side_planned overload_planner (λ _. true) earliest (narrowed_by s) ready.formed k ready.place refl
              ready.planned _ (sym e);
        }

    pub visit_moves : a.moves ≤ s.moves + 2
    visit_moves = rw (sym e) at (side_moves overload_of earliest k (narrowed_by s))

    pub visit_ends : (o : Outcome Narrowed) → o ≡ narrow_side overload_of latest k (narrowed_by a)
        → o ≡ visit overload_of (λ _. whole) k (narrowed_by s)
    unfolding visit
    visit_ends o last = rw (is_whole, ← e) last

-- a refusal of earlier visits stays
pub visits_stay : (test : Test) (whole : ℕ → Bool) (s : Narrowed) (x : Code) (k n : ℕ) → k ≤ n → visits test whole k s ≡ refused x
    → visits test whole n s ≡ refused x
unfolding visits
visits_stay test whole s x k zero h e = let z : k ≡ 0 = omega arith in rw z at e
visits_stay test whole s x k (suc n) h e =
    le_or_lt k n
    (λ l. rw (visits_stay test whole s x k n l e))
    (λ l. let z : k ≡ suc n = omega arith in rw z at e)

-- the places below k were visited, with this result
pub record Visited (whole : ℕ → Bool) (s : Narrowed) (now : NarrowedWindows) (k : ℕ) : Type 0 where
  pub passed : k ≤ s.windows.n
  pub so : visits overload_of whole k s ≡ answered (narrowed_by now)

module _ (whole : ℕ → Bool) (s : NarrowedWindows) (ready : Countable whole s) where
  -- the places before the first that would move are passed over
  pub visited_first : (k : ℕ) → k ≡ first_moved whole (windows_in s.windows) → Visited whole (narrowed_by s) s k
  visited_first k is =
      rw is
      (record {
        passed = moved_within whole (narrowed_by s) ready.formed ready.planned;
        so = unmoved_visits whole (narrowed_by s) ready.formed ready.planned;
      })

  module _ (now : NarrowedWindows) (k : ℕ) (v : Visited whole (narrowed_by s) now k) where
    pub visited_all : (windows_in s.windows).n ≤ k → answered (narrowed_by now) ≡ round overload_of whole (narrowed_by s)
    visited_all h =
        let z : (windows_in s.windows).n ≡ k = omega (arith, h, v.passed) in
        sym (ap (λ (j : ℕ). visits overload_of whole j (narrowed_by s)) z ∙ v.so)

    module _ (h : k < (windows_in s.windows).n) where
      cost : Costs whole (narrowed_by s) (narrowed_by now)
      cost = visits_cost overload_of whole (narrowed_by s) ready.formed k (omega arith) _ v.so

      -- the next place can be visited, and its moves be counted
      pub next_ready : Visitable now.windows k
      next_ready =
          record {
            formed = cost.keeps.formed;
            place = omega (arith, keeps_n cost.keeps, h);
            planned = visits_planned overload_planner whole k (narrowed_by s) ready.formed (omega arith) ready.planned _ v.so;
          }

      pub next_few : now.moves < 4294967290
      next_few = omega (arith, cost.bounded, ready.few)

      after : (o : Outcome Narrowed) → o ≡ visit overload_of (λ _. whole k) k (narrowed_by now)
          → visits overload_of whole (k + 1) (narrowed_by s) ≡ o
      unfolding visits visit
      after o is = rw (add-one, v.so) (sym is)

      pub visited_next : (a : NarrowedWindows) → answered (narrowed_by a) ≡ visit overload_of (λ _. whole k) k (narrowed_by now)
          → Visited whole (narrowed_by s) a (k + 1)
      visited_next a is = record { passed = omega (arith, h); so = after _ is }

      pub visited_stopped : {x : Code} → refused x ≡ visit overload_of (λ _. whole k) k (narrowed_by now)
          → refused x ≡ round overload_of whole (narrowed_by s)
      visited_stopped {x} is =
          sym (visits_stay overload_of whole (narrowed_by s) x (k + 1) _ (omega (arith, h)) (after _ is))

-- the rounds from now on give what all rounds give; so many more may be made
pub record Rounded (whole : ℕ → Bool) (given : WindowSet) (now : NarrowedWindows) : Type 0 where
  pub ready : Countable whole now
  pub fuel : ℕ
  pub enough : slack whole (windows_in now.windows) < fuel
  pub same : all_rounds overload_of whole (windows_in given) ≡ rounds overload_of whole fuel (narrowed_by now)

-- what follows a round, when there were so many moves before it
goes_on : (ℕ → Bool) → ℕ → ℕ → Narrowed → Outcome Narrowed
goes_on whole moves fuel v = cond (eqb v.moves moves) (answered v) (rounds overload_of whole fuel v)

module _ (whole : ℕ → Bool) (given : WindowSet) where
  pub rounded_none : Countable whole (record { windows = given; moves = 0 }) → Rounded whole given (record { windows = given; moves = 0 })
  rounded_none ready = record { ready = ready; fuel = suc (slack whole (windows_in given)); enough = omega arith; same = refl }

  module _ (now : NarrowedWindows) (so : Rounded whole given now) where
    one_more : (o : Outcome Narrowed) → o ≡ round overload_of whole (narrowed_by now)
        → all_rounds overload_of whole (windows_in given) ≡ and_then o (goes_on whole now.moves (so.fuel - 1))
    unfolding rounds goes_on
    one_more o is =
        let z : so.fuel ≡ suc (so.fuel - 1) = omega (arith, so.enough) in
        so.same
        ∙ ap (λ (f : ℕ). rounds overload_of whole f (narrowed_by now)) z
        ∙ ap (λ (u : Outcome Narrowed). and_then u (goes_on whole now.moves (so.fuel - 1))) (sym is)

    pub rounded_stopped : {x : Code} → refused x ≡ round overload_of whole (narrowed_by now)
        → refused x ≡ all_rounds overload_of whole (windows_in given)
    rounded_stopped is = sym (one_more _ is)

    module _ (a : NarrowedWindows) (is : answered (narrowed_by a) ≡ round overload_of whole (narrowed_by now)) where
      pub rounded_last : a.moves ≡ now.moves → answered (narrowed_by a) ≡ all_rounds overload_of whole (windows_in given)
      unfolding goes_on
      rounded_last q = sym (one_more _ is ∙ rw (eq-eqb _ _ q))

      cost_of : Costs whole (narrowed_by now) (narrowed_by a)
      cost_of = round_cost overload_of whole (narrowed_by now) so.ready.formed _ (sym is)

      module _ (moved : a.moves ≡ now.moves → ⊥) where
        pub rounded_less : slack whole (windows_in a.windows) < slack whole (windows_in now.windows)
        rounded_less = omega (arith, cost_of.bounded, cost_of.more, moved)

        pub rounded_next : Rounded whole given a
        unfolding goes_on
        rounded_next =
            record {
              ready =
                  record {
                    formed = cost_of.keeps.formed;
                    planned =
                        visits_planned overload_planner whole _ (narrowed_by now) so.ready.formed (omega arith)
                        so.ready.planned _ (sym is);
                    few = omega (arith, cost_of.bounded, so.ready.few);
                  };
              fuel = so.fuel - 1;
              enough = omega (arith, rounded_less, so.enough);
              same = one_more _ is ∙ rw (ne_eqb _ _ moved);
            }
