-- Storing a text in a lent buffer, in facts.
-- Assumes nothing.
use mathlib.Core.Path.{◌≡◌, refl}
use mathlib.Core.List.{List}
use Prim.Native.Nat.{ℕ}
use borrow.Author.Tests.{lt-ltb, le-ltb}
use lib.ListN.{length}
use Rattle.base.specs.Outcomes.{Code, Outcome, answered, refused}
use Rattle.report.specs.Calls.{store_of, text_after, TextLaw}

-- a text that is not stored leaves the buffer
stays : (o : Outcome (List ℕ)) (old : List ℕ) (k : Code) → store_of o (length old) ≡ refused k → text_after o old ≡ old
stays (answered text) old k e = rw e refl
stays (refused c) old k e = refl

pub text_law : (o : Outcome (List ℕ)) (old : List ℕ) → TextLaw o old
text_law o old =
    record {
      before = λ k e. rw e refl;
      short = λ text e h. rw (e, lt-ltb _ _ h) refl;
      fits = λ text e h. (rw (e, le-ltb _ _ h) refl, rw (e, le-ltb _ _ h) refl);
      stays = stays o old;
    }
