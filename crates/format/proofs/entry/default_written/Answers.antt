-- `entry::default_written` meets its contract.
-- Assumes nothing.
use mathlib.Core.Path.{◌≡◌, sym, ◌∙◌}
use mathlib.Core.Bool.{Bool, true, false}
use Rattle.format.proofs.entry.default_written.Goals as goal
use Rattle.format.proofs.entry.default_written.Goals.{then-m, else-m}

pub returns-then-e-default_r : goal.returns-then-e-default_r
returns-then-e-default_r c =
    elim c.if-m.branch [
      | then-m w ↦
          let r_is = rw w.default_r.ensures at (sym w.value-is ∙ c.if-e-default_r.true) in
          c.if-e-default_r.true ∙ sym (simp (w.if-m.true, r_is))
      | else-m w ↦ let no_r : ◌≡◌ {A = Bool} true false = sym c.if-e-default_r.true ∙ w.value-is ∙ w.if-m.false in cc no_r
    ]
