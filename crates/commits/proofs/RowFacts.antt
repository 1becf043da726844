-- What rows 17 and 18 give, and what it means that they were passed.
-- Assumes nothing.
use mathlib.Core.Path.{◌≡◌, refl}
use mathlib.Core.Bool.{Bool, true, false, cond, not}
use Prim.Native.Nat.{ℕ, ◌<◌, ◌≤◌}
use borrow.Author.Tests.{eq-eqb, ne_eqb, lt-leb, le-leb, leb-false}
use lib.Dec.{eqb, leb}
use Rattle.base.specs.Outcomes.{Outcome, answered, refused}
use Rattle.base.proofs.Inversion.{answered_refused}
use Rattle.list.specs.DayLists.{most_entries}
use Rattle.list.specs.Refusals.{code_of}
use Rattle.list.specs.declared.types.Refusal.TheVariants.{StaleStamp, DayFull}
use Rattle.commits.specs.Calls.{ask_fault, commit_fault}
use Rattle.commits.specs.Internal.{HasRoom}
use Rattle.commits.specs.declared.types.StampedDay.{StampedDay}

module _ (d : StampedDay) where
  pub ask_room : d.list.n < most_entries → ask_fault d ≡ answered tt
  ask_room h = rw (lt-leb most_entries d.list.n h) refl

  pub ask_full : most_entries ≤ d.list.n → ask_fault d ≡ refused (code_of (DayFull d.stamp))
  ask_full h = rw (le-leb most_entries d.list.n h) refl

  -- so an ask that passes has room
  pub ask_passed : HasRoom (ask_fault d) d.list
  ask_passed = go (leb most_entries d.list.n) refl
    where
      go : (t : Bool) → leb most_entries d.list.n ≡ t
          → cond {A = Outcome (Unit {0})} t (refused (code_of (DayFull d.stamp))) (answered tt) ≡ answered tt
          → d.list.n < most_entries
      go true e q = absurd (answered_refused q refl)
      go false e q = leb-false _ _ e

  module _ (s : ℕ) where
    pub stamp_right : s ≡ d.stamp → commit_fault d s ≡ ask_fault d
    stamp_right e = rw (eq-eqb s d.stamp e) refl

    pub stamp_stale : (s ≡ d.stamp → ⊥) → commit_fault d s ≡ refused (code_of (StaleStamp d.stamp))
    stamp_stale z = rw (ne_eqb s d.stamp z) refl

    -- and so has a commit
    pub commit_passed : HasRoom (commit_fault d s) d.list
    commit_passed = go (eqb s d.stamp) refl
      where
        go : (t : Bool) → eqb s d.stamp ≡ t
            → cond {A = Outcome (Unit {0})} (not t) (refused (code_of (StaleStamp d.stamp))) (ask_fault d) ≡ answered tt
            → d.list.n < most_entries
        go true e q = ask_passed q
        go false e q = absurd (answered_refused q refl)
