-- Rows 19 and 12, then a room has the turn, or nothing is unfinished.
-- Assumes nothing.
use borrow.Author.Rules.{rules}
use mathlib.Core.Path.{◌≡◌}
use mathlib.Core.List.{[], ◌∷◌}
use Rattle.base.specs.Outcomes.{code, refused}
use Rattle.rooms.specs.Internal.{answer_held}
use Rattle.rooms.proofs.TurnCases.{answer_none, answer_many, answer_short, answer_took, answer_nothing}
use Rattle.rooms.proofs.TurnCases.{takes_refused, takes_nothing, takes_room, share_lent}
use Rattle.rooms.proofs.desk.take_turn.Goals as goal
use Rattle.rooms.proofs.desk.take_turn.Goals.{then-n-eq0-via-then-n-eq0, then-n-eq0-via-else-n-eq0+then-n-gt-MOST_ROOMS}

pub returns-then-n-eq0 : goal.returns-then-n-eq0
returns-then-n-eq0 c =
    let is_refused : answer_held c.args.rows c.args.n c.args.number c.args.lists.now ≡ refused (code 19 (c.args.n ∷ [])) = elim c.then-n-eq0.branch [
      | then-n-eq0-via-then-n-eq0 w ↦ answer_none c.args.rows c.args.n c.args.number c.args.lists.now w.if-n-eq0.true
      | then-n-eq0-via-else-n-eq0+then-n-gt-MOST_ROOMS w ↦
          answer_many c.args.rows c.args.n c.args.number c.args.lists.now w.if-n-eq0.false w.if-n-gt-MOST_ROOMS.true
    ] in
    takes_refused _ _ _ _ (λ i. search rules) _ is_refused

pub returns-then-lists-n : goal.returns-then-lists-n
returns-then-lists-n c =
    takes_refused _ _ _ _ (λ i. search rules) _
    (answer_short _ _ c.args.number c.args.lists.now c.if-n-eq0.false c.if-n-gt-MOST_ROOMS.false c.if-lists-n.true)

pub returns-in_default : goal.returns-in_default
returns-in_default c =
    takes_nothing _ _ _ _ (λ i. search rules) _
    (answer_nothing _ _ c.args.number c.args.lists.now c.if-n-eq0.false c.if-n-gt-MOST_ROOMS.false c.if-lists-n.false c.in_default.ensures)
    c.number_used.ensures

pub returns : goal.returns
returns c =
    let took =
    answer_took _ _ c.args.number c.args.lists.now c.if-n-eq0.false c.if-n-gt-MOST_ROOMS.false c.if-lists-n.false _ c.in-Some.ensures in
    takes_room _ _ _ _ (λ i. search rules) c.in-Some.at took _ _ c.room_round-round.result _ c.room_round-round.ensures
    (share_lent c.args.lists.now c.in-Some.at) c.number_after-next.ensures
