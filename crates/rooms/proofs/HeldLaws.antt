-- Over eight rooms held by value are refused as over eight rows lent are.
-- Assumes nothing.
use mathlib.Core.Path.{sym, ap, ◌∙◌}
use native.Mathlib.Omega.{arith}
use mathlib.Core.List.{[], ◌∷◌}
use Prim.Native.Nat.{ℕ}
use Rattle.base.specs.Outcomes.{code, refused}
use Rattle.rooms.specs.Calls.{turn_answer_of, HeldLaw}
use Rattle.rooms.specs.declared.types.HeldAnswer.{HeldAnswer}
use Rattle.rooms.proofs.TurnFacts.{many_rooms}

pub held_law : HeldLaw
held_law held n old number a new turned many x rooms =
    ap (λ (z : HeldAnswer). turn_answer_of z.answer) (turned.many many).0
    ∙ ap (λ (k : ℕ). refused (code 19 (k ∷ []))) (sym rooms)
    ∙ sym (many_rooms x number (omega (arith, rooms)))
