-- What `find` answers is the first whole place.
-- Assumes nothing.
use borrow.Author.Rules.{rules}
use borrow.Author.Tests.{tests}
use mathlib.Core.Path.{◌≡◌}
use mathlib.Core.Bool.{true, false}
use Prim.Native.Nat.{ℕ}
use Rattle.std.proofs.lemmas.Iterator.{first_from_Range}
use Rattle.list.specs.DayLists.{marked}
use Rattle.backtracking.proofs.SearchCases.{next_found}
use Rattle.backtracking.proofs.search.next_whole.Goals as goal

pub returns : goal.returns
returns c =
    let whole = marked c.args.whole in
    let found = first_from_Range _ _ _ c.find.result (λ (j : ℕ). whole j ≡ true) (λ (j : ℕ). whole j ≡ false) c.find.ensures.ran
    (λ x q call. search (rules, tests)) (λ x q call. search (rules, tests)) in
    next_found whole c.args.count c.args.k c.requires.k_le_count c.find.result found
