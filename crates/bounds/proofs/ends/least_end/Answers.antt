-- The end of one entry, by its closed form.
-- Assumes nothing.
use borrow.Author.Rules.{rules}
use mathlib.Core.Path.{ap, ◌∙◌}
use Prim.Native.Nat.{◌<◌}
use native.Mathlib.Omega.{arith}
use Rattle.base.specs.Outcomes.{accepts}
use Rattle.list.proofs.Answered.{ok_accepts}
use Rattle.windows.specs.Windows.{windows_in}
use Rattle.bounds.proofs.EndCases.{closed_at, closed_small, end_least}
use Rattle.bounds.proofs.ends.least_end.Goals as goal

pub end_by_kind-requires : goal.end_by_kind-requires
end_by_kind-requires c =
    let windows = c.args.windows in
    let short : windows.h < 65536 = search rules in
    let w = windows_in windows in
    let test = c.is_ok-planned.ensures.value ∙ ok_accepts _ ∙ ap accepts c.unchecked_overload.ensures in
    let at = closed_at windows c.closed_ends-closed.result c.closed_ends-closed.ensures.ends c.args.k c.requires.place in record {
      p_bound = omega (arith, c.requires.formed.room _ c.requires.place, c.requires.formed.in_day _ c.requires.place, short);
      closed_bound =
          closed_small (λ _. c.args.whole) w c.requires.formed c.args.k c.requires.place c.is_ok-planned.result _ (λ _. test)
          (λ _. at)
          (omega (arith, short));
    }

pub returns : goal.returns
returns c =
    let w = windows_in c.args.windows in
    let test = c.is_ok-planned.ensures.value ∙ ok_accepts _ ∙ ap accepts c.unchecked_overload.ensures in
    let at = closed_at c.args.windows c.closed_ends-closed.result c.closed_ends-closed.ensures.ends c.args.k c.requires.place in
    c.end_by_kind.ensures
    ∙ end_least (λ _. c.args.whole) w c.requires.formed c.args.k c.requires.place c.is_ok-planned.result _ (λ _. test)
    (λ _. at)
