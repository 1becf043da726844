-- Rows 19 and 12, counting on, and why a round is made or refused, in facts.
-- Assumes nothing.
use mathlib.Core.Path.{◌≡◌, refl, sym, ap, ◌∙◌}
use mathlib.Core.Bool.{Bool, true, false, cond, ◌||◌}
use mathlib.Core.List.{List, [], ◌∷◌}
use Prim.Native.Nat.{ℕ, ◌*◌, ◌<◌, ◌≤◌}
use native.Mathlib.Omega.{arith}
use borrow.Author.Tests.{ltb-false, eqb-false, eq-eqb, ne_eqb, lt-ltb, le-ltb, le-leb, lt-leb}
use lib.Dec.{eqb, ltb}
use lib.ListN.{length}
use Rattle.base.specs.Outcomes.{Code, code, Outcome, answered, refused, and_then}
use Rattle.base.proofs.Inversion.{answered_refused, refused_same, neither}
use Rattle.base.proofs.Sums.{le_or_lt}
use Rattle.list.specs.DayLists.{whole_in}
use Rattle.list.specs.Checks.{WellFormed}
use Rattle.list.specs.declared.types.DayList.{DayList}
use Rattle.windows.specs.Windows.{windows_of}
use Rattle.windows.specs.Intervals.{overload_of}
use Rattle.windows.proofs.FormedLists.{list_formed}
use Rattle.narrow.specs.Rounds.{Narrowed, unmoved, round}
use Rattle.narrow.specs.Laws.{WholeRefused}
use Rattle.narrow.specs.Calls.{round_of, listed, list_with}
use Rattle.narrow.proofs.Costs.{round_refused}
use Rattle.narrow.proofs.OverloadPlanner.{overload_planner}
use Rattle.shares.specs.Shares.{share_bytes, front_of}
use Rattle.rooms.specs.Cycles.{number_used, next_unfinished}
use Rattle.rooms.specs.Rooms.{count_on, first_test, round_in}
use Rattle.rooms.specs.Turns.{most_rooms, Lent, row_in, share_of, round_for, answer_of, turn_of}
use Rattle.rooms.specs.Laws.{Fit, CountsOn, Stops, unread, overloaded, no_place}
use Rattle.rooms.specs.declared.types.Stage.{Stage}
use Rattle.rooms.specs.declared.types.Stage.TheVariants.{Fresh, Begun, Settled, Refused}
use Rattle.rooms.proofs.CyclicOrder.{used_past}

module _ (x : Lent) (number : ℕ) where
  abbrev m : ℕ
  m = length x.rows

  -- rows 19 and 12 were passed, or one of them refuses
  pub rows_passed : {G : Type 0} → (Fit x → G) → ((c : Code) → turn_of x number ≡ refused c → G) → G
  unfolding turn_of answer_of
  rows_passed {G} f g = many (eqb m 0 || ltb most_rooms m) refl
    where
      short : (t : Bool) → ltb (length x.lists) (m * share_bytes) ≡ t → (eqb m 0 || ltb most_rooms m) ≡ false → G
      short true e few = g (code 12 (m * share_bytes ∷ [])) (rw (few, e))
      short false e few =
          let z = neither (eqb m 0) (ltb most_rooms m) few in
          f (record { some = omega (arith, eqb-false m 0 z.0); few = ltb-false _ _ z.1; long = ltb-false _ _ e })

      many : (t : Bool) → (eqb m 0 || ltb most_rooms m) ≡ t → G
      many true e = g (code 19 (m ∷ [])) (rw e)
      many false e = short (ltb (length x.lists) (m * share_bytes)) refl e

  pub no_rooms : m ≡ 0 → turn_of x number ≡ refused (code 19 (0 ∷ []))
  unfolding turn_of answer_of
  no_rooms e = rw (eq-eqb m 0 e) (ap (λ (n : ℕ). refused (code 19 (n ∷ []))) e)

  pub many_rooms : most_rooms < m → turn_of x number ≡ refused (code 19 (m ∷ []))
  unfolding turn_of answer_of
  many_rooms h = let z : m ≡ 0 → ⊥ = omega arith in rw (ne_eqb m 0 z, lt-ltb most_rooms m h)

  pub short_lists : 1 ≤ m → m ≤ most_rooms → length x.lists < m * share_bytes → turn_of x number ≡ refused (code 12 (m * share_bytes ∷ []))
  unfolding turn_of answer_of
  short_lists some few short =
      let z : m ≡ 0 → ⊥ = omega arith in
      rw (ne_eqb m 0 z, le-ltb most_rooms m few, lt-ltb (length x.lists) (m * share_bytes) short)

  -- a number past the last
  used_zero : number_used m 0 ≡ 0
  unfolding number_used
  used_zero = go (ltb 0 m)
    where
      go : (t : Bool) → ◌≡◌ {A = ℕ} (cond t 0 0) 0
      go true = refl
      go false = refl

  pub number_past : m ≤ number → turn_of x number ≡ turn_of x 0
  unfolding turn_of answer_of next_unfinished
  number_past h = let same : number_used m number ≡ number_used m 0 = used_past m number h ∙ sym used_zero in rw same

-- counting on
pub counts_on : (old more : ℕ) → CountsOn old more (count_on old more)
unfolding count_on
counts_on old more =
    record {
      counts = λ h. le_or_lt 100000 old
          (λ l. rw (le-leb 100000 old l) (omega (arith, h, l)))
          (λ l. rw (lt-leb 100000 old l) (omega (arith, h, l)));
      stops = λ g h. le_or_lt 100000 old
          (λ l. rw (le-leb 100000 old l) (omega (arith, g, l)))
          (λ l. rw (lt-leb 100000 old l) (omega (arith, h, l)));
      larger = λ l. rw (le-leb 100000 old l);
    }

-- a refusal of one thing as a refusal of another
refused_as : {A B : Type 0} (c d : Code) → ◌≡◌ {A = Outcome A} (refused c) (refused d) → ◌≡◌ {A = Outcome B} (refused c) (refused d)
refused_as c d e = ap refused (refused_same {a = c} {b = d} refl e)

-- a round of a list that passes the value check is refused by 10, with the place of a whole entry
ten : (l : DayList) → WellFormed l → (c : Code) → round_of l ≡ refused c → WholeRefused (whole_in l) (windows_of l).n c
unfolding round_of
ten l formed c e =
    let r : round overload_of (whole_in l) (unmoved (windows_of l)) ≡ refused c = rw formed at e in
    round_refused overload_of (whole_in l) (unmoved (windows_of l)) (list_formed l formed) c r

module _ (x : Lent) (k : ℕ) where
  abbrev share : List ℕ
  share = share_of k x.lists

  abbrev stage : Stage
  stage = (row_in x k).stage

  -- what follows the list at the front
  abbrev tested_round : DayList → Outcome (DayList × ℕ)
  tested_round l = and_then (first_test stage l) (λ _. listed l (round_of l))

  -- why a round is refused
  pub stops_as : ((l : DayList) → front_of share ≡ answered l → WellFormed l) → (c : Code) → round_for x k ≡ refused c → Stops x k c
  unfolding round_in
  stops_as formed c = read (front_of share) refl
    where
      made : (l : DayList) → front_of share ≡ answered l → (stage ≡ Fresh → overload_of (windows_of l) ≡ answered tt)
          → (o : Outcome Narrowed) → round_of l ≡ o → listed l o ≡ refused c → Stops x k c
      made l e passed (answered v) q r = absurd (answered_refused {a = (list_with l v.windows, v.moves)} refl r)
      made l e passed (refused d) q r = let z = q ∙ refused_as d c r in no_place l e passed z (ten l (formed l e) c z)

      tested : (l : DayList) → front_of share ≡ answered l → (s : Stage) → stage ≡ s → (o : Outcome (Unit {0})) → first_test s l ≡ o
          → and_then o (λ _. listed l (round_of l)) ≡ refused c → Stops x k c
      tested l e s is (answered _) t r = made l e (λ fresh. ap (λ (u : Stage). first_test u l) (sym fresh ∙ is) ∙ t) (round_of l) refl r
      tested l e Fresh is (refused d) t r =
          let z = t ∙ refused_as d c r in
          overloaded l e is z (overload_planner.shown (windows_of l) (list_formed l (formed l e)) c z)
      tested l e Begun is (refused d) t r = absurd (answered_refused {a = tt} refl t)
      tested l e Settled is (refused d) t r = absurd (answered_refused {a = tt} refl t)
      tested l e Refused is (refused d) t r = absurd (answered_refused {a = tt} refl t)

      read : (o : Outcome DayList) → front_of share ≡ o → and_then o tested_round ≡ refused c → Stops x k c
      read (answered l) e r = tested l e stage refl (first_test stage l) refl r
      read (refused d) e r = unread (e ∙ refused_as d c r)

  -- what a round that was made rests on
  pub record Made (left : DayList) (moved : ℕ) : Type 0 where
    pub given : DayList
    pub reads : front_of share ≡ answered given
    pub tested : stage ≡ Fresh → overload_of (windows_of given) ≡ answered tt
    pub round : listed given (round_of given) ≡ answered (left, moved)

  pub made_as : (left : DayList) (moved : ℕ) → round_for x k ≡ answered (left, moved) → Made left moved
  unfolding round_in
  made_as left moved = read (front_of share) refl
    where
      tested : (l : DayList) → front_of share ≡ answered l → (o : Outcome (Unit {0})) → first_test stage l ≡ o
          → and_then o (λ _. listed l (round_of l)) ≡ answered (left, moved) → Made left moved
      tested l e (answered _) t r =
          record { given = l; reads = e; tested = λ is. ap (λ (s : Stage). first_test s l) (sym is) ∙ t; round = r }
      tested l e (refused d) t r = absurd (answered_refused r refl)

      read : (o : Outcome DayList) → front_of share ≡ o → and_then o tested_round ≡ answered (left, moved) → Made left moved
      read (answered l) e r = tested l e (first_test stage l) refl r
      read (refused d) e r = absurd (answered_refused r refl)
