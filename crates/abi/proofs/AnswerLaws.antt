-- What the numbers of an answer say, and what a refusal leaves.
-- Assumes nothing.
use mathlib.Core.Path.{◌≡◌, refl, ap, ◌∙◌}
use mathlib.Core.List.{List, ◌++◌}
use Prim.Native.Nat.{ℕ, ◌+◌}
use lib.ListN.{get_or, take}
use Rattle.base.specs.Outcomes.{answered}
use Rattle.list.specs.DayLists.{whole_in}
use Rattle.bounds.specs.Ends.{least_ends, greatest_starts}
use Rattle.list.proofs.ByPlace.{by_place_first, by_place_second}
use Rattle.backtracking.specs.Searches.{found}
use Rattle.unbroken.specs.Calls.{whole_starts}
use Rattle.unbroken.proofs.UnbrokenRows.{found_buffer, starts_law}
use Rattle.report.proofs.TextLaws.{text_law}
use Rattle.abi.specs.Laws.{AnswerLaws}

pub answer_laws : AnswerLaws
answer_laws =
    record {
      read = λ o old a fields c l e. c.answer ∙ rw e refl;
      unread = λ o old a fields c k e. (c.answer ∙ rw e refl, c.buffer ∙ rw e refl);
      written = λ l o old a out c n e. c.answer ∙ rw e refl;
      unwritten = λ l o old a out c k e. (c.answer ∙ rw e refl, c.buffer ∙ rw e refl);
      text = λ o old a out c n e. c.answer ∙ rw e refl;
      no_text = λ o old a out c k e. (c.answer ∙ rw e refl, c.buffer ∙ (text_law o old).stays k e);
      tested = λ xs a c l read e. c ∙ rw (read, e) refl;
      overloaded = λ xs a c l read k e. c ∙ rw (read, e) refl;
      filled = λ l o old a plan c e. c.answer ∙ rw e refl;
      unfilled = λ l o old a plan c k e. (c.answer ∙ rw e refl, c.buffer ∙ rw e refl);
      narrowed = λ o second third old a fields c x e. c.answer ∙ rw e refl;
      unnarrowed = λ o second third old a fields c k e. (c.answer ∙ rw e refl, c.buffer ∙ rw e refl);
      planned = λ l o third p f b a plan fields bounds c v e. c.narrowed.answer ∙ rw e refl;
      ends = λ l o third p f b a plan fields bounds c v e i h n.
          let are : bounds ≡ least_ends (whole_in l) v.windows ++ greatest_starts (whole_in l) v.windows = c.bounds ∙ rw e refl in
          ap (λ (z : List ℕ). get_or z i 0) are ∙ by_place_first v.windows.n _ _ i h n;
      starts = λ l o third p f b a plan fields bounds c v e i h n.
          let are : bounds ≡ least_ends (whole_in l) v.windows ++ greatest_starts (whole_in l) v.windows = c.bounds ∙ rw e refl in
          ap (λ (z : List ℕ). get_or z (64 + i) 0) are ∙ by_place_second v.windows.n _ _ i h n;
      unplanned =
          λ l o third p f b a plan fields bounds c k e.
          (c.narrowed.answer ∙ rw e refl, c.plan ∙ rw e refl, c.narrowed.buffer ∙ rw e refl, c.bounds ∙ rw e refl);
      shown = λ x l i o p f a plan fields c v e. c.narrowed.answer ∙ rw e refl;
      unshown =
          λ x l i o p f a plan fields c k e.
          (c.narrowed.answer ∙ rw e refl, c.plan ∙ rw e refl, c.narrowed.buffer ∙ rw e refl);
      day_found = λ l o x p f s a plan fields starts c v e u t q.
          (c.narrowed.answer ∙ rw (e, q) refl, ap (take u.h) c.plan ∙ (found_buffer p x).plan u t q);
      whole_start = λ l o x p f s a plan fields starts c u t q i h n is.
          let are : starts ≡ whole_starts (whole_in l) u = c.starts ∙ rw q refl in
          ap (λ (z : List ℕ). get_or z i 0) are ∙ (starts_law (whole_in l) (answered (found u t))).whole_start u t refl i h n is;
      pause_start = λ l o x p f s a plan fields starts c u t q i h is.
          let are : starts ≡ whole_starts (whole_in l) u = c.starts ∙ rw q refl in
          ap (λ (z : List ℕ). get_or z i 0) are ∙ (starts_law (whole_in l) (answered (found u t))).pause_start u t refl i h is;
      none_exists =
          λ l o x p f s a plan fields starts c v e t q.
          (c.narrowed.answer ∙ rw (e, q) refl, c.plan ∙ rw q refl, c.starts ∙ rw q refl);
      trials_spent =
          λ l o x p f s a plan fields starts c v e t q.
          (c.narrowed.answer ∙ rw (e, q) refl, c.plan ∙ rw q refl, c.starts ∙ rw q refl);
      unsearched =
          λ l o x p f s a plan fields starts c k e q.
          (c.narrowed.answer ∙ rw e refl, c.plan ∙ rw q refl, c.narrowed.buffer ∙ rw e refl, c.starts ∙ rw q refl);
      made = λ o old a new c d e. (c.answer ∙ rw e refl, c.day.back d e);
      not_made = λ o old a new c k e. (c.answer ∙ rw e refl, c.day.buffer ∙ rw e refl);
      committed = λ d e o w p f b a day plan fields bounds c v q. c.day.back _ (rw q refl);
      not_committed = λ d e o w p f b a day plan fields bounds c k q. c.day.buffer ∙ rw q refl;
      turned = λ x o xs old a rooms lists carried c i next e. (c.answer ∙ rw e refl, c.left.carried ∙ rw e refl);
      stopped = λ x o xs old a rooms lists carried c i k next e. (c.answer ∙ rw e refl, c.left.carried ∙ rw e refl);
      nothing =
          λ x o xs old a rooms lists carried c used e.
          (c.answer ∙ rw e refl, c.left.rooms ∙ rw e refl, c.left.lists ∙ rw e refl, c.left.carried ∙ rw e refl);
      not_turned =
          λ x o xs old a rooms lists carried c k e.
          (c.answer ∙ rw e refl, c.left.rooms ∙ rw e refl, c.left.lists ∙ rw e refl, c.left.carried ∙ rw e refl);
    }
