-- The search for the next unfinished room: what is left of it finds what all of it finds.
-- Assumes nothing.
use mathlib.Core.Path.{◌≡◌, sym, ◌∙◌, subst}
use Prim.Native.Nat.{ℕ, ◌+◌, ◌-◌, ◌<◌}
use native.Mathlib.Omega.{arith}
use Rattle.rooms.proofs.CyclicOrder.{used_below, after_below}
use Rattle.rooms.proofs.TurnCases.{search_found, search_passed, search_ended, search_starts}
use Rattle.rooms.proofs.desk.next_unfinished.Goals as goal

pub loop-init : goal.loop-init
loop-init c =
    let at_says = c.number_used-at.ensures in
    let all : c.args.n - 0 ≡ c.args.n = omega arith in
    (subst (λ (k : ℕ). k < c.args.n) (sym at_says) (used_below _ _ c.requires.0), rw all (search_starts _ _ _ _ at_says))

pub returns-then-is_unfinished : goal.returns-then-is_unfinished
returns-then-is_unfinished c = (
  c.loop.invariant.0,
  sym (c.loop.invariant.1 ∙ search_found _ _ (c.args.n - c.loop.counter) c.loop.at (omega arith)
      (sym c.is_unfinished.ensures ∙ c.if-is_unfinished.true)),
)

pub loop-preserved : goal.loop-preserved
loop-preserved c =
    let passed = sym c.is_unfinished.ensures ∙ c.if-is_unfinished.false in
    let left : c.args.n - (c.loop.counter + 1) ≡ c.args.n - c.loop.counter - 1 = omega arith in (
      subst (λ (k : ℕ). k < c.args.n) (sym c.number_after-at.ensures) (after_below _ _ c.loop.invariant.0),
      rw left (c.loop.invariant.1
          ∙ search_passed _ _ (c.args.n - c.loop.counter) c.loop.at _ (omega arith) passed c.number_after-at.ensures),
    )

pub returns : goal.returns
returns c = sym (c.loop.invariant.1 ∙ search_ended _ _ (c.args.n - c.loop.counter) c.loop.at (omega arith))
