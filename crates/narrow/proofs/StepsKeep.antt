-- What steps keep of the windows, and whom they refuse. Nothing here asks what the test accepts.
-- Assumes nothing.
use mathlib.Core.Path.{◌≡◌, refl, ap, ◌∙◌}
use mathlib.Core.Bool.{cond}
use mathlib.Core.List.{[], ◌∷◌}
use Prim.Native.Nat.{ℕ, ◌+◌, ◌<◌, ◌≤◌}
use native.Mathlib.Omega.{arith}
use borrow.Author.Tests.{eqb-false, le-ltb}
use lib.Dec.{eqb}
use Rattle.base.specs.Outcomes.{Code, code, answered}
use Rattle.base.proofs.Inversion.{Says, by_row, by_step}
use Rattle.windows.specs.Windows.{Windows, Inside, with_windows, with_r, Formed}
use Rattle.windows.specs.Mirrors.{mirror}
use Rattle.windows.proofs.Room.{formed_inside}
use Rattle.base.proofs.Searches.{first_below_lem}
use Rattle.narrow.specs.Searching.{Test, start_count, failed_starts, least_start}
use Rattle.narrow.specs.Rounds.{Side, earliest, latest, step}
use Rattle.windows.proofs.Puts.{place_cases, put_other}
use Rattle.windows.proofs.MirrorWindows.{formed_mirror, mirror_back, mirror_r, mirror_d}
use Rattle.narrow.proofs.MirrorSearches.{mirror_test, any_in_mirror, step_mirror}

-- from w to v: the same entries, with room, inside, and past the entries the same
pub record Keeps (w v : Windows) : Type 0 where
  pub entries : v ≡ with_windows w v.r v.d
  pub formed : Formed v
  pub inside : Inside v w
  pub past : (i : ℕ) → w.n ≤ i → (v.r i ≡ w.r i) × (v.d i ≡ w.d i)

-- they keep w, if past the entries they are those of w
pub keeps_windows : (w : Windows) → Formed w → (r d : ℕ → ℕ)
    → ((i : ℕ) → i < w.n → (w.r i ≤ r i) × (d i ≤ w.d i) × (r i + w.p i ≤ d i))
    → ((i : ℕ) → w.n ≤ i → (r i ≡ w.r i) × (d i ≡ w.d i))
    → Keeps w (with_windows w r d)
keeps_windows w formed r d each past =
    let inside : Inside (with_windows w r d) w = record { r = λ i place. (each i place).0; d = λ i place. (each i place).1 } in
    record { entries = refl; formed = formed_inside w formed r d inside (λ i place. (each i place).2); inside = inside; past = past }

pub keeps_same : (w : Windows) → Formed w → Keeps w w
keeps_same w formed =
    keeps_windows w formed w.r w.d (λ i place. (omega arith, omega arith, formed.room i place)) (λ i _. (refl, refl))

-- the same day, entries and minutes needed
module _ {w v : Windows} (keeps : Keeps w v) where
  pub keeps_h : v.h ≡ w.h
  keeps_h = ap (λ (x : Windows). x.h) keeps.entries

  pub keeps_n : v.n ≡ w.n
  keeps_n = ap (λ (x : Windows). x.n) keeps.entries

  pub keeps_p : (i : ℕ) → v.p i ≡ w.p i
  keeps_p i = ap (λ (x : Windows). x.p i) keeps.entries

-- from u to v to w
pub keeps_trans : {u v w : Windows} → Keeps u v → Keeps v w → Keeps u w
keeps_trans {u} {v} {w} a b =
    record {
      entries = b.entries ∙ ap (λ x. with_windows x w.r w.d) a.entries;
      formed = b.formed;
      inside =
          record {
            r = λ i place. omega (arith, a.inside.r i place, b.inside.r i (omega (arith, keeps_n a)));
            d = λ i place. omega (arith, a.inside.d i place, b.inside.d i (omega (arith, keeps_n a)));
          };
      past =
          λ i l.
          let x = a.past i l in
          let y = b.past i (omega (arith, keeps_n a)) in
          (y.0 ∙ x.0, y.1 ∙ x.1);
    }

-- The mirror.

-- what lies inside does so in the mirror
pub inside_mirror : (v w : Windows) → v.h ≡ w.h → v.n ≡ w.n → Inside v w → Inside (mirror v) (mirror w)
inside_mirror v w day count inside =
    record {
      r = λ i place. omega (arith, mirror_r v i (omega arith), mirror_r w i place, inside.d i place);
      d = λ i place. omega (arith, mirror_d v i (omega arith), mirror_d w i place, inside.r i place);
    }

-- what is kept in the mirror is kept
pub keeps_mirror : (w : Windows) → Formed w → {v : Windows} → Keeps (mirror w) v → Keeps w (mirror v)
keeps_mirror w formed {v} keeps =
    record {
      entries = ap (λ x. with_windows x (mirror v).r (mirror v).d) keeps.entries;
      formed = formed_mirror v keeps.formed;
      inside = rw (mirror_back w formed) at (inside_mirror v (mirror w) (keeps_h keeps) (keeps_n keeps) keeps.inside);
      past = λ i l. rw (keeps_n keeps, le-ltb i w.n l) (rw (le-ltb i w.n l) at (keeps.past i l));
    }

-- Searches and steps.

-- row 10 with the place of k
abbrev pub RefusedAt : ℕ → Code → Type 0
RefusedAt k x = x ≡ code 10 (k ∷ [])

-- the starts of k that are tried
abbrev pub StartTried : Windows → ℕ → ℕ → Type 0
StartTried w k s = (w.r k ≤ s) × (s + w.p k ≤ w.d k)

-- a search finds one of them, or refuses k
pub start_says : (test : Test) (w : Windows) (k : ℕ) → Says (StartTried w k) (RefusedAt k) (least_start test w k)
unfolding failed_starts least_start
start_says test w k =
    let j = failed_starts test w k in
    let within : j ≤ start_count w k = (first_below_lem (start_count w k) _).within in
    by_row (StartTried w k) (RefusedAt k) (eqb j (start_count w k)) _ (answered (w.r k + j)) (λ _. refl)
    (λ e. let z = eqb-false j (start_count w k) e in (omega arith, omega arith))

module _ (w : Windows) (formed : Formed w) (k : ℕ) (place : k < w.n) where
  -- another r of k, of those tried
  pub keeps_r : (s : ℕ) → StartTried w k s → Keeps w (with_r w k s)
  keeps_r s (from, room) =
      keeps_windows w formed _ _
      (λ i below.
      place_cases (λ t. (w.r i ≤ cond t s (w.r i)) × (w.d i ≤ w.d i) × (cond t s (w.r i) + w.p i ≤ w.d i)) i k
      (λ q. (omega (arith, ap w.r q), omega arith, omega (arith, ap w.p q, ap w.d q)))
      (λ _. (omega arith, omega arith, formed.room i below)))
      (λ i l. (put_other k s w.r i (λ e. omega arith), refl))

  start_keeps : (test : Test) → Says (Keeps w) (RefusedAt k) (step test earliest k w)
  start_keeps test =
      by_step (StartTried w k) (RefusedAt k) (Keeps w) (least_start test w k) (λ s. answered (with_r w k s)) (start_says test w k) keeps_r

-- a step keeps the windows, or refuses its entry; the one for d as that for r in the mirror does
pub step_says : (w : Windows) → Formed w → (k : ℕ) → k < w.n → (test : Test) (side : Side)
    → Says (Keeps w) (RefusedAt k) (step test side k w)
step_says w formed k place test earliest = start_keeps w formed k place test
step_says w formed k place test latest =
    rw (step_mirror (any_in_mirror test) w formed k place)
    (by_step (Keeps (mirror w)) (RefusedAt k) (Keeps w) (step (mirror_test test) earliest k (mirror w)) (λ v. answered (mirror v))
    (start_keeps (mirror w) (formed_mirror w formed) k place (mirror_test test))
    (λ v keeps. keeps_mirror w formed keeps))
