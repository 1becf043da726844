-- The least end in closed form is the least d with which entry k has a plan.
-- Assumes nothing.
use mathlib.Core.Path.{◌≡◌}
use Prim.Native.Nat.{ℕ, suc, ◌+◌, ◌-◌, ◌<◌, ◌≤◌, min, max}
use native.Mathlib.Omega.{arith}
use Rattle.base.proofs.Sums.{le_or_lt, between_is, between_le}
use Rattle.windows.specs.Windows.{Windows, with_d, with_window, Formed}
use Rattle.windows.specs.Plans.{Plannable}
use Rattle.windows.specs.Intervals.{work, Fits}
use Rattle.windows.proofs.Endpoints.{Spans, work_wider, work_spans}
use Rattle.windows.proofs.Puts.{with_d_lem, own_deadline, deadline_formed}
use Rattle.windows.proofs.Room.{formed_roomy}
use Rattle.jackson.proofs.Law.{plan_law}
use Rattle.edges.specs.Starts.{others}
use Rattle.edges.specs.Ends.{largest, end_after, asked_of, closed_end}
use Rattle.edges.specs.Laws.{EndLaw}
use Rattle.edges.proofs.OtherWork.{others_before, others_fit, fit_with_own, plan_clears, clear_plan}
use Rattle.edges.proofs.Largest.{largest_first, largest_over, largest_under}

module _ (w : Windows) (k : ℕ) where
  -- what b and the r of entry i ask of entry k is no more than y, if it is none or its end is not
  pub asked_under : (b i y : ℕ) → (b < w.d k → b < end_after w k i b → end_after w k i b ≤ y) → asked_of w k b i ≤ y
  asked_under b i y = between_le (suc b) (end_after w k i b) (w.d k) (suc b) (end_after w k i b) y

  pub asked_is : (b i : ℕ) → b < w.d k → b < end_after w k i b → asked_of w k b i ≡ end_after w k i b
  asked_is b i = between_is (suc b) (end_after w k i b) (w.d k) (suc b) (end_after w k i b)

  closed_room : w.r k + w.p k ≤ closed_end w k
  unfolding closed_end
  closed_room = largest_first (w.r k + w.p k) w.n (λ j. largest 0 w.n (asked_of w k (w.d j)))

  closed_over : (j i : ℕ) → j < w.n → i < w.n → asked_of w k (w.d j) i ≤ closed_end w k
  unfolding closed_end
  closed_over j i last first =
      let asked : ℕ → ℕ = λ j. largest 0 w.n (asked_of w k (w.d j)) in
      omega (
        arith,
        largest_over 0 w.n (asked_of w k (w.d j)) i first,
        largest_over (w.r k + w.p k) w.n asked j last,
      )

  closed_under : (e : ℕ) → w.r k + w.p k ≤ e → ((j i : ℕ) → asked_of w k (w.d j) i ≤ e) → closed_end w k ≤ e
  unfolding closed_end
  closed_under e room each =
      largest_under (w.r k + w.p k) w.n (λ j. largest 0 w.n (asked_of w k (w.d j))) e room
      (λ j _. largest_under 0 w.n (asked_of w k (w.d j)) e (omega arith) (λ i _. each j i))

module _ (w : Windows) (formed : Formed w) (k : ℕ) (place : k < w.n) where
  -- windows with room with another d of entry k, as a window put there
  put_formed : (e : ℕ) → w.r k + w.p k ≤ e → e ≤ w.d k → Formed (with_window w k (w.r k) e)
  put_formed e room due = rw (with_d_lem w k e) (deadline_formed w formed k place e room due)

  -- an end with a plan is no earlier than one that is asked
  plan_asked : (e : ℕ) → w.r k + w.p k ≤ e → e ≤ w.d k → Plannable (with_d w k e) → (b i : ℕ) → asked_of w k b i ≤ e
  plan_asked e room due plan b i = asked_under w k b i e late
    where
      late : b < w.d k → b < end_after w k i b → end_after w k i b ≤ e
      late before past =
          let a = min (w.r i) (w.r k) in
          let clear =
          plan_clears w k (w.r k) e place (put_formed e room due) (rw (with_d_lem w k e) plan) a (max b e) (omega arith) (omega arith) in
          let more = work_wider (others w k) (w.r i) b a (max b e) (omega arith) (omega arith) in
          omega (arith, clear, more, past, others_before w k place (w.r i) b before, formed.minutes k place)

  pub closed_least : (e : ℕ) → w.r k + w.p k ≤ e → e ≤ w.d k → Plannable (with_d w k e) → closed_end w k ≤ e
  closed_least e room due plan = closed_under w k e room (λ j i. plan_asked e room due plan (w.d j) i)

  module _ (plan : Plannable w) where
    fits : Fits w
    fits = (plan_law w (formed_roomy w formed) formed.few).fits.0 plan

    closed_due : closed_end w k ≤ w.d k
    closed_due = closed_least (w.d k) (formed.room k place) (omega arith) (rw (own_deadline w k) plan)

    -- room for the others and k in an interval that holds [r, e), where e is the closed form
    clear : (a b : ℕ) → a ≤ w.r k → closed_end w k ≤ b → work (others w k) a b + w.p k ≤ b - a
    clear a b from till =
        le_or_lt 1 (work (others w k) a b)
        (λ some. let z = work_spans (others w k) a b some in spanned z.0 z.1 z.2)
        (λ none. omega (arith, closed_room w k))
      where
        spanned : (i j : ℕ) → Spans (others w k) a b i j → work (others w k) a b + w.p k ≤ b - a
        spanned i j spans =
            let least = min (w.r i) (w.r k) in
            le_or_lt (w.d k) (w.d j)
            (λ late.
            let own = fit_with_own w k place fits least (w.d j) (omega arith) late in
            let more = work_wider (others w k) (w.r i) (w.d j) least (w.d j) (omega arith) (omega arith) in
            omega (arith, own, more, spans.from, spans.due, spans.no_less, formed.minutes k place))
            (λ early.
            let same = others_before w k place (w.r i) (w.d j) early in
            let asked = closed_over w k j i spans.last spans.first in
            let by : end_after w k i (w.d j) ≤ b =
            le_or_lt (end_after w k i (w.d j)) (w.d j)
            (λ l. omega (arith, l, spans.due))
            (λ l. omega (arith, asked, asked_is w k (w.d j) i early l, till)) in
            omega (arith, by, same, spans.from, spans.no_less))

    closed_plan : Plannable (with_d w k (closed_end w k))
    closed_plan =
        let e = closed_end w k in
        rw (with_d_lem w k e) at
        (clear_plan w k (w.r k) e place (put_formed e (closed_room w k) closed_due) (others_fit w k place fits) clear)

pub end_law : (w : Windows) → Formed w → Plannable w → (k : ℕ) → k < w.n → EndLaw w k
end_law w formed plan k place =
    record {
      room = closed_room w k;
      due = closed_due w formed k place plan;
      plan = closed_plan w formed k place plan;
      least =
          λ e room less planned.
          let due = closed_due w formed k place plan in
          omega (arith, less, due, closed_least w formed k place e room (omega (arith, less, due)) planned);
    }
