-- `checks::values_fault` meets its contract. The loop's invariant: the entries passed are sound, so those left decide.
-- Assumes nothing.
use borrow.Author.Rules.{rules}
use mathlib.Core.Path.{◌≡◌, sym, ◌∙◌}
use Prim.Native.Nat.{◌≤◌}
use native.Mathlib.Omega.{arith}
use lib.ListN.{length}
use Rattle.base.proofs.Walk.{length_mapped}
use Rattle.list.proofs.Answered.{handed_on}
use Rattle.list.proofs.Sound.{header_of}
use Rattle.list.proofs.CheckCases.{values_header, values_opening, values_entries, values_turn, values_done}
use Rattle.list.proofs.checks.values_fault.Goals as goal

pub returns-in_err-header_fault : goal.returns-in_err-header_fault
returns-in_err-header_fault c = handed_on _ _ c.from_residual.ensures.1 ∙ values_header c.args.list c.in_err-header_fault.ensures

pub returns-in_err-opening_fault : goal.returns-in_err-opening_fault
returns-in_err-opening_fault c =
    handed_on _ _ c.from_residual-in_err-opening_fault.ensures.1
    ∙ values_opening c.args.list c.in_ok-header_fault.ensures c.in_err-opening_fault.ensures

pub loop-i-init : goal.loop-i-init
loop-i-init c = (
  (header_of 0 c.args.list.frame.h c.args.list.n (sym c.in_ok-header_fault.ensures)).room,
  values_entries c.args.list c.in_ok-header_fault.ensures c.in_ok-opening_fault.ensures,
)

pub returns-in_err-entry_fault : goal.returns-in_err-entry_fault
returns-in_err-entry_fault c =
    let all_places : length c.args.list.entries ≡ 64 = search (rules, length_mapped) in
    let held : c.args.list.n ≤ length c.args.list.entries = omega (arith, all_places, c.loop-i.invariant.0) in
    handed_on _ _ c.from_residual-in_err-entry_fault.ensures.1
    ∙ sym (c.loop-i.invariant.1 ∙ values_turn c.args.list held c.loop-i.i _ c.in_err-entry_fault.ensures (omega (arith, c.from-i-end.ensures)))

pub loop-i-preserved : goal.loop-i-preserved
loop-i-preserved c =
    let all_places : length c.args.list.entries ≡ 64 = search (rules, length_mapped) in
    let held : c.args.list.n ≤ length c.args.list.entries = omega (arith, all_places, c.loop-i.invariant.0) in (
      c.loop-i.invariant.0,
      c.loop-i.invariant.1
          ∙ values_turn c.args.list held c.loop-i.i _ c.in_ok-entry_fault.ensures (omega (arith, c.from-i-end.ensures)),
    )

pub returns : goal.returns
returns c =
    let all_places : length c.args.list.entries ≡ 64 = search (rules, length_mapped) in
    let held : c.args.list.n ≤ length c.args.list.entries = omega (arith, all_places, c.loop-i.invariant.0) in
    sym (c.loop-i.invariant.1 ∙ values_done c.args.list held c.loop-i.i (omega (arith, c.from-i-end.ensures)))
