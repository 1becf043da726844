-- The law of reports leaves one text, and its demands alone leave one set of numbers.
-- Assumes nothing.
use mathlib.Core.Path.{◌≡◌, refl, sym, ap, ◌∙◌}
use mathlib.Core.List.{List}
use Prim.Native.Nat.{ℕ, ◌<◌}
use Rattle.list.specs.declared.types.DayList.{DayList}
use Rattle.base.proofs.Inversion.{answered_same, refused_same, answered_refused}
use Rattle.windows.specs.Windows.{windows_of}
use Rattle.windows.specs.Plans.{places_in}
use Rattle.jackson.specs.Minutes.{schedule}
use Rattle.narrow.specs.Rounds.{Narrowed}
use Rattle.list.specs.DayLists.{whole_in}
use Rattle.narrow.specs.Calls.{list_with}
use Rattle.planner.specs.BrokenEntries.{broken_in}
use Rattle.planner.proofs.OneAnswer.{one_told, one_end, one_start}
use Rattle.report.specs.Reports.{refusal_line}
use Rattle.report.specs.Printed.{list_printed, windows_printed, moves_printed, broken_printed, end_printed, start_printed, plan_printed}
use Rattle.report.specs.Printed.{told_by}
use Rattle.report.specs.Laws.{PrintsPlan, ReportLaw, unread, refuses, plans}

-- Two texts whose numbers are a plan of the list l.
module _ {l : DayList} {a b : List ℕ} (x : PrintsPlan l a) (y : PrintsPlan l b) where
  narrowed_same : ◌≡◌ {A = Narrowed} (record { windows = windows_printed a; moves = moves_printed a })
      (record { windows = windows_printed b; moves = moves_printed b })
  narrowed_same = answered_same refl (one_told (told_by a) (told_by b) x.demand3 y.demand3)

  pub one_windows : windows_printed a ≡ windows_printed b
  one_windows = ap (λ (v : Narrowed). v.windows) narrowed_same

  pub one_moves : moves_printed a ≡ moves_printed b
  one_moves = ap (λ (v : Narrowed). v.moves) narrowed_same

  pub one_list : list_printed l.frame.opening a ≡ list_printed l.frame.opening b
  one_list = x.list ∙ ap (list_with l) one_windows ∙ sym y.list

  pub one_minutes : plan_printed a ≡ plan_printed b
  one_minutes = x.demand2.minutes ∙ ap schedule one_windows ∙ sym y.demand2.minutes

  pub one_broken_lem : broken_printed a ≡ broken_printed b
  one_broken_lem =
      x.demand2.count ∙ (λ j. broken_in (whole_in l) (one_windows j) (places_in (one_minutes j))) ∙ sym y.demand2.count

  module _ (k : ℕ) (place : k < (windows_of l).n) where
    pub one_end_printed : end_printed a k ≡ end_printed b k
    one_end_printed = one_end (told_by a) (told_by b) x.demand3 y.demand3 _ refl k place

    pub one_start_printed : start_printed a k ≡ start_printed b k
    one_start_printed = one_start (told_by a) (told_by b) x.demand3 y.demand3 _ refl k place

-- two texts of which the law holds
pub one_text : (bs a b : List ℕ) → ReportLaw bs a → ReportLaw bs b → a ≡ b
one_text bs a b (unread k e r x) (unread j f s y) = x.line ∙ ap refusal_line (refused_same e f) ∙ sym y.line
one_text bs a b (unread k e r x) (refuses l j f q y d) = absurd (answered_refused f e)
one_text bs a b (unread k e r x) (plans l f q y) = absurd (answered_refused f e)
one_text bs a b (refuses l k e p x d) (unread j f s y) = absurd (answered_refused e f)
one_text bs a b (refuses l k e p x d) (refuses m j f q y c) = x.line ∙ ap refusal_line (refused_same p q) ∙ sym y.line
one_text bs a b (refuses l k e p x d) (plans m f q y) = absurd (answered_refused q p)
one_text bs a b (plans l e p x) (unread j f s y) = absurd (answered_refused e f)
one_text bs a b (plans l e p x) (refuses m j f q y d) = absurd (answered_refused p q)
one_text bs a b (plans l e p x) (plans m f q y) = answered_same p q
