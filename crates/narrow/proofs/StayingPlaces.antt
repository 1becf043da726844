-- Who stays: a visit changes nothing where the least ends in closed form, in the windows and in their mirror, are r + p. So a round may
-- begin with the first whole entry of which this does not hold.
-- Assumes nothing.
use mathlib.Core.Path.{◌≡◌, refl, sym, ap, ◌∙◌}
use mathlib.Core.Logic.{◌↔◌}
use mathlib.Core.Bool.{Bool, true, false, cond, not, ◌&&◌, true≢false}
use mathlib.Core.List.{List}
use Prim.Native.Nat.{ℕ, zero, suc, ◌+◌, ◌-◌, ◌<◌, ◌≤◌}
use native.Mathlib.Omega.{arith}
use borrow.Author.Tests.{eqb-true, eq-eqb}
use lib.Dec.{eqb}
use lib.ListN.{get_or}
use Rattle.base.specs.Outcomes.{Code, Outcome, answered, refused, and_then}
use Rattle.base.proofs.Sums.{le_or_lt}
use Rattle.base.proofs.Inversion.{answered_refused}
use Rattle.base.proofs.Searches.{First, first_below_lem, Passed, passed_next, passed_found, passed_all}
use Rattle.list.specs.DayLists.{by_place}
use Rattle.list.proofs.ByPlace.{by_place_lem}
use Rattle.windows.specs.Windows.{Windows, windows_in, with_windows, with_r, with_d, fixed_at, fixed_up_to, Formed}
use Rattle.windows.specs.declared.types.WindowSet.{WindowSet}
use Rattle.windows.specs.Plans.{Plannable}
use Rattle.windows.specs.Intervals.{overload_of}
use Rattle.windows.specs.Mirrors.{mirror}
use Rattle.windows.proofs.Puts.{put_same, put_back, with_d_lem}
use Rattle.windows.proofs.MirrorWindows.{formed_mirror, plannable_mirror, mirror_r, fixed_at_mirror}
use Rattle.edges.specs.Ends.{closed_end}
use Rattle.edges.proofs.EndLaws.{end_law}
use Rattle.narrow.specs.Searching.{Test, least_start, greatest_end}
use Rattle.narrow.specs.Rounds.{earliest, latest, Narrowed, moves_of, counted, narrow_side, visit, visits}
use Rattle.narrow.specs.FastRounds.{would_move, moves_at, first_moved}
use Rattle.narrow.proofs.OverloadPlanner.{overload_planner}
use Rattle.narrow.proofs.Exact.{search_law}
use Rattle.narrow.proofs.MirrorSearches.{end_by_mirror}
use Rattle.narrow.proofs.Costs.{moved_same}

-- the windows as they are make no move
no_moves : (k : ℕ) (s : Narrowed) → counted k s s.windows ≡ s
no_moves k s =
    let z : s.moves + moves_of k s.windows s.windows ≡ s.moves =
    omega (arith, moved_same (s.windows.r k), moved_same (s.windows.d k)) in
    λ j. record { windows = s.windows; moves = z j }

module _ (test : Test) (k : ℕ) (s : Narrowed) where
  start_stays : least_start test s.windows k ≡ answered (s.windows.r k) → narrow_side test earliest k s ≡ answered s
  unfolding narrow_side
  start_stays e =
      let same = ap (λ (f : ℕ → ℕ). with_windows s.windows f s.windows.d) (put_back k s.windows.r) in
      rw e (ap (λ (w : Windows). answered (counted k s w)) same ∙ ap answered (no_moves k s))

  end_stays : greatest_end test s.windows k ≡ answered (s.windows.d k) → narrow_side test latest k s ≡ answered s
  unfolding narrow_side
  end_stays e =
      let same = ap (with_windows s.windows s.windows.r) (put_back k s.windows.d) in
      rw e (ap (λ (w : Windows). answered (counted k s w)) same ∙ ap answered (no_moves k s))

-- an entry whose least end as a pause entry is r + p keeps its r
keeps_r : (w : Windows) → Formed w → Plannable w → (k : ℕ) → k < w.n → closed_end w k ≡ w.r k + w.p k
    → least_start overload_of w k ≡ answered (w.r k)
keeps_r w formed planned k place e =
    ((search_law overload_planner w formed k place).start_is (w.r k)).1
    (record {
      from_r = omega arith;
      room = formed.room k place;
      plan = rw (with_d_lem w k (w.r k + w.p k)) (rw e at (end_law w formed planned k place).plan);
      least = λ x from less _. omega (arith, from, less);
    })

-- both least ends are r + p
pub record Stays (w : Windows) (k : ℕ) : Type 0 where
  pub end : closed_end w k ≡ w.r k + w.p k
  pub mirror_end : closed_end (mirror w) k ≡ (mirror w).r k + w.p k

not_moved : (a b x y : ℕ) → (not (eqb a x && eqb b y) ≡ true → ⊥) → (a ≡ x) × (b ≡ y)
not_moved a b x y = go (eqb a x) (eqb b y) refl refl
  where
    go : (s t : Bool) → eqb a x ≡ s → eqb b y ≡ t → (not (s && t) ≡ true → ⊥) → (a ≡ x) × (b ≡ y)
    go true true e f none = (eqb-true a x e, eqb-true b y f)
    go true false e f none = absurd (none refl)
    go false t e f none = absurd (none refl)

stays_there : (whole : ℕ → Bool) (w : Windows) (k : ℕ) → whole k ≡ true → (moves_at whole w k ≡ true → ⊥) → Stays w k
stays_there whole w k is none =
    let z = not_moved (closed_end w k) (closed_end (mirror w) k) (w.r k + w.p k) ((mirror w).r k + w.p k) (rw is at none) in
    record { end = z.0; mirror_end = z.1 }

module _ (whole : ℕ → Bool) (s : Narrowed) (formed : Formed s.windows) (planned : Plannable s.windows) where
  visit_stays : (k : ℕ) → k < s.windows.n → (whole k ≡ true → Stays s.windows k) → visit overload_of whole k s ≡ answered s
  unfolding visit
  visit_stays k place stays = go (whole k) refl
    where
      keeps_d : Stays s.windows k → greatest_end overload_of s.windows k ≡ answered (s.windows.d k)
      keeps_d so =
          let back : s.windows.h - (mirror s.windows).r k ≡ s.windows.d k =
          omega (arith, mirror_r s.windows k place, formed.in_day k place) in
          end_by_mirror overload_planner s.windows formed k place
          ∙ ap (λ (o : Outcome ℕ). and_then o (λ x. answered (s.windows.h - x)))
          (keeps_r (mirror s.windows) (formed_mirror s.windows formed) (plannable_mirror s.windows planned) k place
          so.mirror_end)
          ∙ ap answered back

      go : (t : Bool) → whole k ≡ t
          → cond t (and_then (narrow_side overload_of earliest k s) (narrow_side overload_of latest k)) (answered s) ≡ answered s
      go true e =
          let so = stays e in
          rw (start_stays overload_of k s (keeps_r s.windows formed planned k place so.end)) (end_stays overload_of k s (keeps_d so))
      go false e = refl

  -- the visits to entries that stay change nothing
  stay_same : (k : ℕ) → k ≤ s.windows.n → ((i : ℕ) → i < k → moves_at whole s.windows i ≡ true → ⊥)
      → visits overload_of whole k s ≡ answered s
  unfolding visits
  stay_same zero most none = refl
  stay_same (suc k) most none =
      rw (stay_same k (omega (arith, most)) (λ i l. none i (omega (arith, l))))
      (visit_stays k (omega (arith, most)) (λ e. stays_there whole s.windows k e (none k (omega arith))))

  -- so those before the first that would move do not
  first : First s.windows.n (moves_at whole s.windows) (first_moved whole s.windows)
  unfolding first_moved
  first = first_below_lem s.windows.n (moves_at whole s.windows)

  pub visits_same : (k : ℕ) → k ≤ first_moved whole s.windows → k ≤ s.windows.n → visits overload_of whole k s ≡ answered s
  visits_same k before most = stay_same k most (λ i l. first.none_before i (omega (arith, l, before)))

  pub moved_within : first_moved whole s.windows ≤ s.windows.n
  moved_within = first.within

  pub unmoved_visits : visits overload_of whole (first_moved whole s.windows) s ≡ answered s
  unmoved_visits = visits_same (first_moved whole s.windows) (omega arith) moved_within

-- And a visit changes nothing only where they say so.
module _ (w : Windows) (formed : Formed w) (planned : Plannable w) (k : ℕ) (place : k < w.n) where
  -- where a plan has entry k in [r, r + p), its least end as a pause entry is r + p
  end_first : Plannable (fixed_at w k (w.r k)) → closed_end w k ≡ w.r k + w.p k
  end_first plan =
      let law = end_law w formed planned k place in
      le_or_lt (closed_end w k) (w.r k + w.p k)
      (λ h. omega (arith, h, law.room))
      (λ h. absurd (law.least (w.r k + w.p k) (omega arith) h (rw (with_d_lem w k (w.r k + w.p k)) at plan)))

kept_stays : (w : Windows) → Formed w → Plannable w → (k : ℕ) → k < w.n → least_start overload_of w k ≡ answered (w.r k)
    → greatest_end overload_of w k ≡ answered (w.d k) → Stays w k
kept_stays w formed planned k place start end =
    let law = search_law overload_planner w formed k place in
    let last = (law.end_is (w.d k)).0 end in
    let there : fixed_at (mirror w) k (w.h - w.d k) ≡ mirror (fixed_up_to w k (w.d k)) =
    fixed_at_mirror w k place (w.d k) (omega (arith, formed.room k place)) (formed.in_day k place) in
    let plan : Plannable (fixed_at (mirror w) k (w.h - w.d k)) = rw there (plannable_mirror (fixed_up_to w k (w.d k)) last.plan) in
    record {
      end = end_first w formed planned k place ((law.start_is (w.r k)).0 start).plan;
      mirror_end =
          end_first (mirror w) (formed_mirror w formed) (plannable_mirror w planned) k place (rw (mirror_r w k place) plan);
    }

module _ (whole : ℕ → Bool) (s : Narrowed) (k : ℕ) (is : whole k ≡ true) where
  visit_no_start : (c : Code) → least_start overload_of s.windows k ≡ refused c → visit overload_of whole k s ≡ refused c
  unfolding visit narrow_side
  visit_no_start c e = rw (is, e) refl

  module _ (x : ℕ) (e : least_start overload_of s.windows k ≡ answered x) where
    visit_no_end : (c : Code) → greatest_end overload_of (with_r s.windows k x) k ≡ refused c → visit overload_of whole k s ≡ refused c
    unfolding visit narrow_side
    visit_no_end c f = rw (is, e, f) refl

    visit_found : (y : ℕ) → greatest_end overload_of (with_r s.windows k x) k ≡ answered y
        → visit overload_of whole k s
        ≡ answered (counted k (counted k s (with_r s.windows k x)) (with_d (with_r s.windows k x) k y))
    unfolding visit narrow_side
    visit_found y f = rw (is, e, f) refl

module _ (whole : ℕ → Bool) (s : Narrowed) (formed : Formed s.windows) (planned : Plannable s.windows) where
  module _ (k : ℕ) (place : k < s.windows.n) where
    abbrev w : Windows
    w = s.windows

    whole_stays : whole k ≡ true → visit overload_of whole k s ≡ answered s → Stays w k
    whole_stays is same = go (least_start overload_of w k) refl
      where
        both : (x y : ℕ) → least_start overload_of w k ≡ answered x → greatest_end overload_of (with_r w k x) k ≡ answered y
            → with_d (with_r w k x) k y ≡ w → Stays w k
        both x y e f back =
            let r : x ≡ w.r k = sym (put_same k x w.r) ∙ ap (λ (v : Windows). v.r k) back in
            let d : y ≡ w.d k = sym (put_same k y w.d) ∙ ap (λ (v : Windows). v.d k) back in
            let own : with_r w k (w.r k) ≡ w = ap (λ (g : ℕ → ℕ). with_windows w g w.d) (put_back k w.r) in
            kept_stays w formed planned k place (e ∙ ap answered r)
            (sym (ap (λ (v : Windows). greatest_end overload_of v k) (ap (with_r w k) r ∙ own)) ∙ (f ∙ ap answered d))

        ends : (x : ℕ) → least_start overload_of w k ≡ answered x → (o : Outcome ℕ) → greatest_end overload_of (with_r w k x) k ≡ o
            → Stays w k
        ends x e (answered y) f = both x y e f (ap windows_left (sym (visit_found whole s k is x e y f) ∙ same))
          where
            windows_left : Outcome Narrowed → Windows
            windows_left (answered v) = v.windows
            windows_left (refused c) = w
        ends x e (refused c) f = absurd (answered_refused same (visit_no_end whole s k is x e c f))

        go : (o : Outcome ℕ) → least_start overload_of w k ≡ o → Stays w k
        go (answered x) e = ends x e (greatest_end overload_of (with_r w k x) k) refl
        go (refused c) e = absurd (answered_refused same (visit_no_start whole s k is c e))

    pub visit_unmoved : (moves_at whole w k ≡ false) ↔ (visit overload_of whole k s ≡ answered s)
    visit_unmoved =
        (λ e. visit_stays whole s formed planned k place (λ is. stays_there whole w k is (λ q. true≢false (sym q ∙ e))), back)
      where
        back : visit overload_of whole k s ≡ answered s → moves_at whole w k ≡ false
        back same = go (whole k) refl
          where
            go : (t : Bool) → whole k ≡ t → would_move t (w.r k) ((mirror w).r k) (w.p k) (closed_end w k) (closed_end (mirror w) k) ≡ false
            go true is =
                let so = whole_stays is same in
                rw (eq-eqb _ _ so.end, eq-eqb _ _ so.mirror_end) refl
            go false is = refl

-- The search for the first place that a visit would move, as code makes it: t holds the mirror of the windows s.
abbrev EndsOf : WindowSet → List ℕ → Type 0
EndsOf s xs = xs ≡ by_place (windows_in s).n (closed_end (windows_in s))

module _ (whole : ℕ → Bool) (s t : WindowSet) (mirrors : windows_in t ≡ mirror (windows_in s)) where
  module _ (ends late : List ℕ) (is_end : EndsOf s ends) (is_late : EndsOf t late) where
    -- the test of a place
    module _ (k : ℕ) (place : k < (windows_in s).n) (b : Bool)
        (test : b ≡ would_move (whole k) (get_or s.r k 0) (get_or t.r k 0) (get_or s.p k 0) (get_or ends k 0) (get_or late k 0)) where
      moves_here : moves_at whole (windows_in s) k ≡ b
      moves_here =
          let count : (windows_in t).n ≡ (windows_in s).n = ap (λ (w : Windows). w.n) mirrors in
          let from : get_or t.r k 0 ≡ (mirror (windows_in s)).r k = ap (λ (w : Windows). w.r k) mirrors in
          let end : get_or ends k 0 ≡ closed_end (windows_in s) k =
          rw is_end (by_place_lem (closed_end (windows_in s)) _ k (omega arith) place) in
          let last : get_or late k 0 ≡ closed_end (mirror (windows_in s)) k =
          rw is_late (by_place_lem (closed_end (windows_in t)) _ k (omega arith) (omega (arith, place, count)))
          ∙ ap (λ (w : Windows). closed_end w k) mirrors in
          sym (test ∙ rw (from, end, last) refl)

      module _ (so : Passed (windows_in s).n (moves_at whole (windows_in s)) k) where
        pub move_found : b ≡ true → k ≡ first_moved whole (windows_in s)
        unfolding first_moved
        move_found e = sym (passed_found (windows_in s).n (moves_at whole (windows_in s)) k so (moves_here ∙ e))

        pub move_passed : b ≡ false → Passed (windows_in s).n (moves_at whole (windows_in s)) (k + 1)
        move_passed e = passed_next (windows_in s).n (moves_at whole (windows_in s)) k so place (moves_here ∙ e)

pub none_moved : (whole : ℕ → Bool) (s : WindowSet) (k : ℕ) → Passed (windows_in s).n (moves_at whole (windows_in s)) k
    → (windows_in s).n ≤ k → k ≡ first_moved whole (windows_in s)
unfolding first_moved
none_moved whole s k so past =
    let all = passed_all (windows_in s).n (moves_at whole (windows_in s)) k so past in
    omega (arith, all, so.within, past)
