-- The report's parts, as code puts them together.
-- Assumes nothing.
use mathlib.Core.Path.{◌≡◌, refl, ap, subst, ◌∙◌}
use mathlib.Core.Bool.{Bool, true, false, cond}
use mathlib.Core.List.{List, [], ◌∷◌, ◌++◌, append_assoc}
use Prim.Native.Nat.{ℕ, ◌<◌}
use lib.Dec.{eqb}
use lib.ListN.{get_or}
use lib.Seq.{get_or-take}
use Rattle.base.specs.Outcomes.{code}
use Rattle.list.specs.DayLists.{blank}
use Rattle.list.specs.declared.types.Entry.{Entry}
use Rattle.list.specs.declared.types.DayList.{DayList}
use Rattle.codes.specs.declared.RefusalCode.{RefusalCode}
use Rattle.report.specs.Text.{ascii, decimal, line}
use Rattle.report.specs.Reports.{entry_line, entry_line_at, refusal_line}
use Rattle.report.specs.Calls.{line_of}
use Rattle.report.specs.Internal.{Puts, times_text, carried_text}
use Rattle.report.proofs.StepCases.{puts_then}

-- A refusal's line: its number, what it carries, and the newline.
refusal_text : (number : ℕ) (values : List ℕ)
    → (ascii "refused " ++ decimal number) ++ (carried_text number values ++ ascii "\n") ≡ refusal_line (code number values)
unfolding refusal_line line ascii
refusal_text number values = go (eqb number 9) (eqb number 10)
  where
    value : ℕ → List ℕ
    value i = decimal (get_or values i 0)

    go : (nine ten : Bool)
        → (ascii "refused " ++ decimal number)
        ++ (cond nine ((ascii " from " ++ value 0) ++ ((ascii " to " ++ value 1) ++ (ascii " work " ++ value 2)))
        (cond ten (ascii " entry " ++ value 0) (ascii " at " ++ value 0))
        ++ ascii "\n")
        ≡ line
        (ascii "refused"
        ∷ decimal number
        ∷ cond nine (ascii "from" ∷ value 0 ∷ ascii "to" ∷ value 1 ∷ ascii "work" ∷ value 2 ∷ [])
        (cond ten (ascii "entry" ∷ value 0 ∷ []) (ascii "at" ∷ value 0 ∷ [])))
    go true ten =
        ap (λ (t : List ℕ). ascii "refused " ++ (decimal number ++ (ascii " from " ++ t)))
        (append_assoc (value 0) (ascii " to " ++ (value 1 ++ (ascii " work " ++ value 2))) (ascii "\n")
        ∙ ap (λ (t : List ℕ). value 0 ++ (ascii " to " ++ t)) (append_assoc (value 1) (ascii " work " ++ value 2) (ascii "\n")))
    go false true = refl
    go false false = refl

pub refusal_put : {room : ℕ} {old new : List ℕ} (c : RefusalCode)
    → Puts room old ((ascii "refused " ++ decimal c.number) ++ (carried_text c.number c.values ++ ascii "\n")) new
    → Puts room old (line_of c) new
refusal_put {room} {old} {new} c p = subst (λ (t : List ℕ). Puts room old t new) (refusal_text c.number c.values) p

-- The end of an entry's line: its five times, each after a space, and the newline.
pub times_put : {room : ℕ} {s₀ s₁ s₂ s₃ s₄ s₅ s₆ : List ℕ} (e : Entry) (end start : ℕ)
    → Puts room s₀ (ascii " " ++ decimal e.r) s₁
    → Puts room s₁ (ascii " " ++ decimal e.d) s₂
    → Puts room s₂ (ascii " " ++ decimal e.p) s₃
    → Puts room s₃ (ascii " " ++ decimal end) s₄
    → Puts room s₄ (ascii " " ++ decimal start) s₅
    → Puts room s₅ (ascii "\n") s₆
    → Puts room s₀ (times_text e end start) s₆
unfolding line ascii
times_put e end start r d p least greatest newline =
    puts_then r (puts_then d (puts_then p (puts_then least (puts_then greatest newline))))

-- The line of the entry at a place.
pub entry_put : {room : ℕ} {old new : List ℕ} (l : DayList) (ends starts : List ℕ) (i : ℕ) → i < l.n
    → Puts room old (entry_line i (get_or l.entries i blank) (get_or ends i 0) (get_or starts i 0)) new
    → Puts room old (entry_line_at l (λ i. get_or ends i 0) (λ i. get_or starts i 0) i) new
entry_put l ends starts i below p = rw (get_or-take l.n l.entries i blank below) p
