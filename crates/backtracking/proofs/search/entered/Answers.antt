-- A whole entry is left, and is tried from its first start on, or none is.
-- Assumes nothing.
use borrow.Author.Rules.{rules}
use mir.Val.{Fits}
use mir.Syntax.{w16}
use Prim.Native.Nat.{ℕ}
use lib.ListN.{get_or}
use native.Mathlib.Omega.{arith}
use Rattle.list.specs.DayLists.{marked}
use Rattle.windows.specs.Windows.{windows_in}
use Rattle.backtracking.proofs.SearchCases.{enters_whole, enters_all}
use Rattle.backtracking.proofs.search.entered.Goals as goal

pub returns-in-Some : goal.returns-in-Some
returns-in-Some c =
    let place = c.in-Some.place in
    let windows = c.args.windows in
    let next = rw c.places_held-count.ensures at c.in-Some.ensures in
    let fits_r : (j : ℕ) → Fits w16 (get_or windows.r j 0) = λ j. search rules in
    let enters = enters_whole (marked c.args.whole) (windows_in windows) c.args.fixed c.args.k c.args.trials
    c.requires.fixed_below place next.1 next.0 (omega (arith, fits_r place)) in
    rw c.from.ensures enters

pub returns-in-None : goal.returns-in-None
returns-in-None c =
    let count_says = c.places_held-count.ensures in
    rw count_says
    (enters_all (marked c.args.whole) (windows_in c.args.windows) c.args.fixed c.args.k c.args.trials
    c.requires.fixed_below (rw count_says at c.in-None.ensures))
