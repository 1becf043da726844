-- The entries that count, and then the new one.
-- Assumes nothing.
use borrow.Author.Rules.{rules}
use mathlib.Core.Path.{◌≡◌}
use lib.ListN.{length}
use Rattle.base.proofs.Walk.{length_mapped}
use Rattle.commits.proofs.ListCases.{one_more}
use Rattle.commits.proofs.lists.with_entry.Goals as goal

pub returns : goal.returns
returns c =
    let long : length c.args.list.entries ≡ 64 = search (rules, length_mapped) in
    rw (c.trimmed-longer.ensures, c.from.ensures) (one_more c.args.list long c.args.e c.requires)
