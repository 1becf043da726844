-- A list with narrowed windows stands in a share as the list did, and its one form is at least as long.
-- Assumes nothing.
use mathlib.Core.Path.{◌≡◌, refl, ap, ◌∙◌}
use mathlib.Core.Bool.{cond, not}
use mathlib.Core.List.{List, [], ◌∷◌}
use Prim.Native.Nat.{ℕ, suc, ◌+◌, ◌≤◌, ◌<◌}
use native.Mathlib.Omega.{arith}
use borrow.Author.Tests.{eq-eqb, ne_eqb}
use lib.Dec.{eqb}
use lib.ListN.{length, get_or, length-append}
use Rattle.base.specs.Outcomes.{Outcome, answered, refused}
use Rattle.base.proofs.Sums.{eq_or_ne}
use Rattle.list.specs.DayLists.{entries_of, blank, day_list}
use Rattle.list.specs.Checks.{WellFormed}
use Rattle.list.specs.declared.types.Entry.{Entry}
use Rattle.list.specs.declared.types.Frame.{Frame}
use Rattle.list.specs.declared.types.DayList.{DayList}
use Rattle.list.specs.Laws.{Sound}
use Rattle.list.proofs.Sound.{Every, sound_list}
use Rattle.format.specs.Forms.{entry_bytes}
use Rattle.format.specs.Writing.{bytes_of_entries, bytes_of}
use Rattle.format.proofs.FormCases.{entry_length}
use Rattle.format.proofs.WriteCases.{form_length}
use Rattle.format.proofs.EntryTrip.{EntryFits}
use Rattle.windows.specs.Windows.{Windows, windows_of}
use Rattle.narrow.specs.Rounds.{Narrowed}
use Rattle.narrow.specs.Calls.{entry_with, entries_with, list_with, listed}
use Rattle.narrow.proofs.StepsKeep.{Keeps}
use Rattle.narrow.proofs.Alike.{listed_entries}
use Rattle.narrow.proofs.ListWindows.{listed_formed}
use Rattle.shares.proofs.StandingLists.{Stands}

-- windows given twice: the later ones stand
with_with : (w v : Windows) (i : ℕ) (es : List Entry) → entries_with w i (entries_with v i es) ≡ entries_with w i es
unfolding entries_with
with_with w v i [] = refl
with_with w v i (e ∷ es) = ap (λ (l : List Entry). entry_with e (w.r i) (w.d i) ∷ l) (with_with w v (i + 1) es)

with_fits : (w : Windows) (i : ℕ) (es : List Entry) → Every EntryFits es → Every EntryFits (entries_with w i es)
unfolding entries_with
with_fits w i [] fits = tt
with_fits w i (e ∷ es) fits = (record { serial = fits.0.serial; seal = fits.0.seal }, with_fits w (i + 1) es fits.1)

module _ (l : DayList) (v : Windows) where
  list_with_with : (w : Windows) → list_with (list_with l v) w ≡ list_with l w
  unfolding list_with
  list_with_with w = ap (day_list l.frame) (ap (entries_with w 0) (listed_entries l v) ∙ with_with w v 0 (entries_of l))

  pub listed_again : (o : Outcome Narrowed) → listed (list_with l v) o ≡ listed l o
  listed_again (answered x) = ap (λ (a : DayList). answered (a, x.moves)) (list_with_with x.windows)
  listed_again (refused k) = refl

  pub stands_with : Stands l → Keeps (windows_of l) v → Stands (list_with l v)
  unfolding list_with
  stands_with st keeps =
      let formed = listed_formed l v keeps st.formed in
      record {
        formed = formed;
        readable =
            record {
              sound = sound_list (list_with l v) formed;
              fits = rw (listed_entries l v) (with_fits v 0 (entries_of l) st.readable.fits);
              blank_after = ap (day_list l.frame) (listed_entries l v);
            };
      }

-- a minute that moves away from its field's default is written as before, or now
after_default : (default a b : ℕ) → default ≤ a → a ≤ b → cond (not (eqb a default)) 2 0 ≤ cond (not (eqb b default)) 2 0
after_default default a b h l =
    eq_or_ne a default
    (λ e. rw (eq-eqb a default e) (omega arith))
    (λ ne. let z : b ≡ default → ⊥ = omega (arith, ne) in rw (ne_eqb a default ne, ne_eqb b default z) (omega arith))

before_default : (default a b : ℕ) → a ≤ default → b ≤ a → cond (not (eqb a default)) 2 0 ≤ cond (not (eqb b default)) 2 0
before_default default a b h l =
    eq_or_ne a default
    (λ e. rw (eq-eqb a default e) (omega arith))
    (λ ne. let z : b ≡ default → ⊥ = omega (arith, ne) in rw (ne_eqb a default ne, ne_eqb b default z) (omega arith))

entry_grows : (f : Frame) (e : Entry) (r d : ℕ) → Sound f e → e.r ≤ r → d ≤ e.d
    → length (entry_bytes f e) ≤ length (entry_bytes f (entry_with e r d))
entry_grows f e r d sound a b =
    omega (
      arith,
      entry_length f e,
      entry_length f (entry_with e r d),
      after_default f.opening e.r r sound.opened a,
      before_default f.h e.d d sound.in_day b,
    )

entries_grow : (f : Frame) (w : Windows) (i : ℕ) (es : List Entry) → Every (Sound f) es
    → ((j : ℕ) → j < length es → ((get_or es j blank).r ≤ w.r (i + j)) × (w.d (i + j) ≤ (get_or es j blank).d))
    → length (bytes_of_entries f es) ≤ length (bytes_of_entries f (entries_with w i es))
unfolding entries_with bytes_of_entries
entries_grow f w i [] sound narrower = omega arith
entries_grow f w i (e ∷ es) sound narrower =
    let here : i + 0 ≡ i = omega arith in
    let window = narrower 0 (omega arith) in
    let first = entry_grows f e (w.r i) (w.d i) sound.0 (rw here at window.0) (rw here at window.1) in
    let rest = entries_grow f w (i + 1) es sound.1
    (λ j h. let next : i + suc j ≡ i + 1 + j = omega arith in rw next at (narrower (suc j) (omega arith))) in
    omega (
      arith,
      first,
      rest,
      length-append (entry_bytes f e) (bytes_of_entries f es),
      length-append (entry_bytes f (entry_with e (w.r i) (w.d i))) (bytes_of_entries f (entries_with w (i + 1) es)),
    )

-- so of the list's own bytes none is left behind the one form that takes their place
pub form_grows : (l : DayList) (v : Windows) → WellFormed l → Keeps (windows_of l) v
    → length (bytes_of l) ≤ length (bytes_of (list_with l v))
unfolding list_with
form_grows l v formed keeps =
    let es = entries_of l in
    let grown = entries_grow l.frame v 0 es (sound_list l formed).entries
    (λ j h. let z : 0 + j ≡ j = omega arith in rw z (keeps.inside.r j h, keeps.inside.d j h)) in
    omega (
      arith,
      form_length l,
      form_length (list_with l v),
      ap (λ (xs : List Entry). length (bytes_of_entries l.frame xs)) (listed_entries l v),
      grown,
    )
