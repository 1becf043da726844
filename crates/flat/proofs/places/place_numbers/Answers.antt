-- Number by number.
-- Assumes nothing.
use borrow.Author.Rules.{rules}
use mathlib.Core.Path.{◌≡◌, sym, ◌∙◌}
use native.Mathlib.Omega.{arith}
use lib.ListN.{length}
use lib.Seq.{ext_get_or}
use Rattle.flat.proofs.places.place_numbers.Goals as goal

pub returns : goal.returns
returns c =
    let long : length c.args.xs ≡ 64 = search rules in
    ext_get_or 0 c.map.result c.args.xs (c.map.ensures.items.long ∙ sym long)
    (λ t h. let called = (c.map.ensures.items.at t 0 0 (omega (arith, c.map.ensures.items.long))).2 in search (rules, called))
