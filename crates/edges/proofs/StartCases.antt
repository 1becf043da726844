-- Right ends, passes and the search for a start, in each case that the code meets.
-- Assumes nothing.
use mathlib.Core.Path.{◌≡◌, refl, sym, ap, ◌∙◌, fun_ext}
use mathlib.Core.Bool.{Bool, true, false, cond, ◌&&◌}
use mathlib.Core.List.{List}
use Prim.Native.Nat.{ℕ, suc, ◌+◌, ◌*◌, ◌-◌, ◌<◌, ◌≤◌}
use native.Mathlib.Numerals.{add-one}
use native.Mathlib.Omega.{arith}
use borrow.Author.Tests.{le-leb, lt-leb, lt-ltb, le-ltb, ltb-false, eq-eqb, ne_eqb}
use lib.Dec.{eqb, ltb}
use lib.ListN.{length, get_or, set}
use Rattle.base.specs.Counting.{sum}
use Rattle.order.specs.Orders.{value_at, HoldsOrder}
use Rattle.order.proofs.OneOrder.{one_array}
use Rattle.windows.specs.Windows.{Windows, windows_in, put}
use Rattle.windows.specs.declared.types.WindowSet.{WindowSet}
use Rattle.windows.proofs.ArrayCases.{set_put}
use Rattle.windows.specs.RunningSums.{entered}
use Rattle.edges.specs.Starts.{jumped, raised, considers, passed, start_from}
use Rattle.std.specs.Prelude.{None, Option, Some}
use Rattle.edges.specs.Starts.{others, start_by_jumps}
use Rattle.edges.specs.Calls.{FindsStart}
use Rattle.edges.specs.Internal.{Enters}
use Rattle.edges.specs.declared.starts.StartSoFar.{StartSoFar}
use Rattle.edges.proofs.Jumps.{passed_up}
use Rattle.edges.proofs.StartLaws.{start_law}

-- One right end: x places of the order are passed.
pub record Raising (v : Windows) (o : ℕ → ℕ) (b p s₀ x : ℕ) (sum : StartSoFar) : Type 0 where
  pub work_is : sum.work ≡ entered v o b v.p x
  pub small : sum.work ≤ 65535 * x
  pub start_is : sum.start ≡ raised v o b p x s₀

module _ (v : Windows) (o : ℕ → ℕ) (b p s₀ : ℕ) where
  pub raising_none : Raising v o b p s₀ 0 (record { work = 0; start = s₀ })
  unfolding sum raised
  raising_none = record { work_is = refl; small = omega arith; start_is = refl }

  module _ (x : ℕ) (old : StartSoFar) (so : Raising v o b p s₀ x old) (i : ℕ) (next : i ≡ o x) where
    -- a box that does not enter changes nothing
    pub raising_out : b < v.d i → Raising v o b p s₀ (x + 1) old
    unfolding sum raised
    raising_out out =
        let test = lt-leb (v.d i) b out in
        record {
          work_is = rw (add-one, ← next, test) (omega (arith, so.work_is));
          small = omega (arith, so.small);
          start_is = rw (add-one, ← next, test) so.start_is;
        }

    -- one that enters may raise the start
    pub raising_in : v.d i ≤ b → (new : StartSoFar) → Enters b p (v.r i) (v.p i) old new → Raising v o b p s₀ (x + 1) new
    unfolding sum raised
    raising_in in_b new enters =
        let test = le-leb (v.d i) b in_b in
        record {
          work_is = rw (add-one, ← next, test) (omega (arith, so.work_is, enters.work));
          small = omega (arith, so.small, enters.work, enters.small);
          start_is =
              rw (add-one, ← next, test, ← so.work_is, ← so.start_is)
              (enters.start ∙ ap (λ (z : ℕ). jumped b p (v.r i) z old.start) enters.work);
        }

-- A pass: s is the start after the right ends of all places of the order but the first x.
module _ (v : Windows) (o : ℕ → ℕ) (p : ℕ) (initial : Bool) (d s₀ : ℕ) where
  pub passing_none : s₀ ≡ passed v o p initial d (v.n - v.n) s₀
  unfolding passed
  passing_none = let z : v.n - v.n ≡ 0 = omega arith in rw z refl

  module _ (x s : ℕ) (so : s ≡ passed v o p initial d (v.n - x) s₀) (within : x ≤ v.n) (more : 0 < x) where
    -- the next right end
    abbrev b : ℕ
    b = v.d (o (x - 1))

    one_more_end : (t : ℕ) → cond (ltb s b && considers initial d b) (raised v o b p v.n s) s ≡ t
        → t ≡ passed v o p initial d (v.n - (x - 1)) s₀
    unfolding passed
    one_more_end t e =
        let count : v.n - (x - 1) ≡ suc (v.n - x) = omega arith in
        let here : v.n - suc (v.n - x) ≡ x - 1 = omega arith in
        rw (count, here, ← so) (sym e)

    pub passing_low : b ≤ s → s ≡ passed v o p initial d (v.n - (x - 1)) s₀
    passing_low low = one_more_end s (rw (le-ltb s b low) refl)

    module _ (up : s < b) where
      pub passing_not : considers initial d b ≡ false → s ≡ passed v o p initial d (v.n - (x - 1)) s₀
      passing_not e = one_more_end s (rw (lt-ltb s b up, e) refl)

      pub passing_row : considers initial d b ≡ true → raised v o b p v.n s ≡ passed v o p initial d (v.n - (x - 1)) s₀
      passing_row e = one_more_end (raised v o b p v.n s) (rw (lt-ltb s b up, e) refl)

-- The search: from s on it finds what it finds from the first start on, and so many passes more may be made.
pub record Searching (v : Windows) (o : ℕ → ℕ) (r d p : ℕ) (all : Option ℕ) (s : ℕ) : Type 0 where
  pub fuel : ℕ
  pub enough : suc d - (s + p) < fuel
  pub same : start_from v o r d p fuel s ≡ all

module _ (v : Windows) (o : ℕ → ℕ) (r d p : ℕ) (all : Option ℕ) (s : ℕ) (so : Searching v o r d p all s) where
  one_more : start_from v o r d p (suc (so.fuel - 1)) s ≡ all
  one_more = let z : so.fuel ≡ suc (so.fuel - 1) = omega (arith, so.enough) in rw z at so.same

  -- the window is used up, or not
  pub search_none : ltb d (s + p) ≡ true → None ≡ all
  unfolding start_from
  search_none used = rw used at one_more

  -- and the pass changes nothing, or goes on
  module _ (left : ltb d (s + p) ≡ false) (t : ℕ) (pass : t ≡ passed v o p (eqb s r) d v.n s) where
    pub search_found : t ≡ s → Some s ≡ all
    unfolding start_from
    search_found e = rw (left, eq-eqb _ s (sym pass ∙ e)) at one_more

    pub search_less : (t ≡ s → ⊥) → suc d - t < suc d - s
    search_less ne = omega (arith, ne, pass, passed_up v o p (eqb s r) d v.n s, ltb-false d (s + p) left)

    pub search_next : (t ≡ s → ⊥) → Searching v o r d p all t
    unfolding start_from
    search_next ne =
        record {
          fuel = so.fuel - 1;
          enough = omega (arith, so.enough, search_less ne, ltb-false d (s + p) left);
          same = rw (left, ← pass, ne_eqb t s ne) at one_more;
        }

-- the passes that the search of an entry may make
abbrev pub passes : ℕ → ℕ → ℕ → ℕ
passes r d p = suc (suc d - (r + p))

-- The windows of the other entries, in arrays.
module _ (t : WindowSet) (k : ℕ) where
  abbrev pub others_in : WindowSet
  others_in = record t { h = 0; p = set t.p k 0 }

  abbrev found : List ℕ → Option ℕ
  found xs =
      start_from (windows_in others_in) (value_at xs) (get_or t.r k 0) (get_or t.d k 0) (get_or t.p k 0)
      (passes (get_or t.r k 0) (get_or t.d k 0) (get_or t.p k 0))
      (get_or t.r k 0)

  -- a place that is n or more
  pub none_found : (windows_in t).n ≤ k → FindsStart (windows_in t) k None
  unfolding start_by_jumps
  none_found past =
      record {
        by_jumps = λ _ _. rw (le-ltb k (windows_in t).n past) refl;
        law = λ _ _ place. absurd (omega (arith, place, past));
      }

  module _ (xs : List ℕ) (place : k < (windows_in t).n) (long : length t.p ≡ 64) (order : HoldsOrder (windows_in t).n (windows_in t).r xs) where
    others_held : windows_in others_in ≡ others (windows_in t) k
    others_held =
        λ i.
        record {
          h = 0;
          n = (windows_in t).n;
          r = λ j. get_or t.r j 0;
          d = λ j. get_or t.d j 0;
          p =
              fun_ext {f = λ j. get_or (set t.p k 0) j 0} {g = put k 0 (λ j. get_or t.p j 0)}
              (set_put t.p k 0 (omega (arith, place, long))) i;
        }

    found_is : found xs ≡ start_by_jumps (windows_in t) (value_at xs) k
    unfolding start_by_jumps
    found_is = rw (others_held, lt-ltb k (windows_in t).n place) refl

    pub start_found : (f : Option ℕ) → f ≡ found xs → FindsStart (windows_in t) k f
    start_found f e =
        record {
          by_jumps =
              λ ys holds.
              e ∙ found_is ∙ ap (λ (zs : List ℕ). start_by_jumps (windows_in t) (value_at zs) k) (one_array _ _ xs ys order holds);
          law =
              λ formed planned below.
              rw (e ∙ found_is) (start_law (windows_in t) formed k below planned (value_at xs) order.order);
        }
