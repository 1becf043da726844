-- The law of narrowing leaves one outcome: no other windows, moves or refusal obey it.
-- Assumes nothing.
use mathlib.Core.Path.{◌≡◌, refl, sym, ap, ◌∙◌}
use mathlib.Core.Logic.{inl, inr}
use mathlib.Core.Bool.{Bool}
use mathlib.Core.List.{[], ◌∷◌}
use Prim.Native.Nat.{ℕ}
use Rattle.base.specs.Outcomes.{Code, code, Outcome, answered, refused}
use Rattle.windows.specs.Windows.{Windows}
use Rattle.windows.specs.Intervals.{work, ShowsOverload}
use Rattle.windows.specs.Plans.{Plannable}
use Rattle.windows.proofs.ShownInterval.{shown_one}
use Rattle.narrow.specs.Searching.{Test}
use Rattle.narrow.specs.Settling.{Widest}
use Rattle.narrow.specs.Rounds.{Narrowed}
use Rattle.narrow.specs.Laws.{Reason, NarrowLaw}
use Rattle.narrow.proofs.RoundSteps.{rounds_unique}
use Rattle.narrow.proofs.SettledSteps.{plannable_widen}
use Rattle.narrow.proofs.Fixpoints.{widest_set}

-- row 9 carries one thing
shows_one : (w : Windows) (k x : Code) → ShowsOverload w k → ShowsOverload w x → k ≡ x
shows_one w k x s t =
    let one = shown_one w s.a s.b t.a t.b s.shown t.shown in
    s.carries ∙ (λ i. code 9 (one.0 i ∷ one.1 i ∷ work w (one.0 i) (one.1 i) ∷ [])) ∙ sym t.carries

-- where windows are answered, a plan exists
answered_planned : (whole : ℕ → Bool) (w : Windows) (v : Narrowed) → Widest whole w v.windows → Plannable w
answered_planned whole w v best =
    let set = widest_set whole w v.windows best in
    plannable_widen w _ _ set.inside set.settled.plan

module _ {test : Test} {whole : ℕ → Bool} {w : Windows} where
  -- where a plan exists, or none does
  by_plan : {G : Type 0} (o : Outcome Narrowed) → NarrowLaw test whole w o
      → (Plannable w → G) → ((k : Code) → o ≡ refused k → ShowsOverload w k → (Plannable w → ⊥) → G) → G
  by_plan {G} o law f g = go o refl
    where
      why : (k : Code) → o ≡ refused k → Reason whole w k → G
      why k e (inl (shows, none)) = g k e shows none
      why k e (inr (_, planned)) = f planned

      go : (u : Outcome Narrowed) → o ≡ u → G
      go (answered v) e = f (answered_planned whole w v (law.widest v e))
      go (refused k) e = why k e (law.reason k e)

  pub one_outcome : (o u : Outcome Narrowed) → NarrowLaw test whole w o → NarrowLaw test whole w u → o ≡ u
  one_outcome o u a b =
      by_plan o a
      (λ planned. rounds_unique (a.by_rounds planned) (b.by_rounds planned))
      (λ k e shows none.
      by_plan u b
      (λ planned. absurd (none planned))
      (λ x f show _. e ∙ ap refused (shows_one w k x shows show) ∙ sym f))
