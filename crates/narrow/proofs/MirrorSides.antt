-- A round's search for an entry's d, with its moves, is that for its r in the mirror.
-- Assumes nothing.
use mathlib.Core.Path.{◌≡◌, refl, subst}
use mathlib.Core.Bool.{cond}
use Prim.Native.Nat.{ℕ, ◌+◌, ◌-◌, ◌<◌, ◌≤◌}
use native.Mathlib.Omega.{arith}
use borrow.Author.Tests.{eq-eqb, ne_eqb}
use Rattle.base.specs.Outcomes.{Outcome, answered, refused, and_then}
use Rattle.base.proofs.Inversion.{Says}
use Rattle.windows.specs.Windows.{Windows, Formed}
use Rattle.windows.specs.Mirrors.{mirror}
use Rattle.narrow.specs.Searching.{Test}
use Rattle.narrow.specs.Rounds.{earliest, latest, step, Narrowed, moved, moves_of, counted, narrow_side}
use Rattle.narrow.proofs.Planners.{Planner}
use Rattle.windows.proofs.Puts.{place_cases}
use Rattle.windows.proofs.MirrorWindows.{formed_mirror, mirror_back, mirror_r, mirror_d}
use Rattle.narrow.proofs.MirrorSearches.{planner_in_mirror, step_mirror}
use Rattle.narrow.proofs.StepsKeep.{Keeps, keeps_h, keeps_n, RefusedAt, step_says}

-- the windows mirrored, and the moves as they are
abbrev pub mirror_state : Narrowed → Narrowed
mirror_state s = record { windows = mirror s.windows; moves = s.moves }

-- what is answered is mirrored so; a refusal stays
abbrev pub mirror_outcome : Outcome Narrowed → Outcome Narrowed
mirror_outcome o = and_then o (λ v. answered (mirror_state v))

-- what moves or stays does so in the mirror
moved_mirror : (h a b : ℕ) → a ≤ h → b ≤ h → moved (h - a) (h - b) ≡ moved a b
moved_mirror h a b l m =
    place_cases (λ t. moved (h - a) (h - b) ≡ cond t 0 1) a b
    (λ e. rw (eq-eqb (h - a) (h - b) (omega arith)))
    (λ ne. rw (ne_eqb (h - a) (h - b) (λ e. ne (omega arith))))

-- as many moves are made in the mirror
moves_mirror : (k : ℕ) {w v : Windows} → Formed w → k < w.n → Keeps w v → moves_of k (mirror w) (mirror v) ≡ moves_of k w v
moves_mirror k {w} {v} formed place keeps =
    let there : k < v.n = omega (arith, keeps_n keeps) in
    let day = keeps_h keeps in
    let due = formed.in_day k place in
    let room = formed.room k place in
    let later = keeps.formed.in_day k there in
    let left = keeps.formed.room k there in
    rw (mirror_r w k place, mirror_d w k place, mirror_r v k there, mirror_d v k there, day)
    (omega (
      arith,
      moved_mirror w.h (w.r k) (v.r k) (omega arith) (omega arith),
      moved_mirror w.h (w.d k) (v.d k) (omega arith) (omega arith),
    ))

-- a changed d is a changed r in the mirror
pub side_by_mirror : {test : Test} → Planner test → (k : ℕ) (s : Narrowed) → Formed s.windows → k < s.windows.n
    → narrow_side test latest k s ≡ mirror_outcome (narrow_side test earliest k (mirror_state s))
unfolding narrow_side
side_by_mirror {test} planner k s formed place =
    rw (step_mirror (planner_in_mirror planner) w formed k place)
    (go (step test earliest k (mirror w)) (step_says (mirror w) there k place test earliest))
  where
    w : Windows
    w = s.windows

    there : Formed (mirror w)
    there = formed_mirror w formed

    go : (o : Outcome Windows) → Says (Keeps (mirror w)) (RefusedAt k) o
        → and_then (and_then o (λ v. answered (mirror v))) (λ v. answered (counted k s v))
        ≡ mirror_outcome (and_then o (λ v. answered (counted k (mirror_state s) v)))
    go (answered v) keeps =
        let there_many = moves_mirror k there place keeps in
        let as_many = subst (λ (x : Windows). moves_of k x (mirror v) ≡ moves_of k (mirror w) v) (mirror_back w formed) there_many in
        λ j. answered (record { windows = mirror v; moves = s.moves + as_many j })
    go (refused x) _ = refl
