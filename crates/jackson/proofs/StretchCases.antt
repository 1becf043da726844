-- Stretches in each case that the code meets.
-- Assumes nothing.
use mathlib.Core.Path.{◌≡◌, refl, sym, ap, ◌∙◌}
use Prim.Native.Nat.{ℕ, ◌+◌, ◌-◌, ◌<◌, ◌≤◌}
use native.Mathlib.Omega.{arith}
use Rattle.windows.specs.Windows.{windows_in}
use Rattle.jackson.specs.Minutes.{state_in, chosen, later}
use Rattle.jackson.specs.Stretches.{stretch_end, stretch_of, Stretches}
use Rattle.jackson.specs.Internal.{after_minutes, IsAfterMinutes}
use Rattle.jackson.specs.declared.types.Day.{Day}
use Rattle.jackson.proofs.Schedules.{minute_on, minute_over}
use Rattle.jackson.proofs.Stretches.{stretch_over, stretch_some, stretch_to, stretch_places, stretch_state}

-- a stretch of a day past its end, and of one that goes on
module _ (day : Day) where
  pub stretches_over : day.windows.h ≤ day.t → Stretches day (record { place = 255; minutes = 0; day = day })
  unfolding later
  stretches_over h =
      let e = minute_over (state_in day) h in
      let none = stretch_over (state_in day) h in
      record { place = rw e refl; minutes = sym none; places = λ j l. absurd (omega arith); next = rw none refl; n = refl }

  module _ (on : day.t < day.windows.h) (k : ℕ) (is : k ≡ chosen (state_in day)) (x : ℕ)
      (end : x ≡ stretch_end (windows_in day.windows) day.t k) where
    to : day.t + stretch_of (state_in day) ≡ x
    to = rw (end, is) (stretch_to (state_in day) (omega arith) on)

    pub end_later : day.t < x
    end_later = omega (arith, to, stretch_some (state_in day) (omega arith) on)

    pub stretches_on : (next : Day) → IsAfterMinutes day k (x - day.t) next
        → Stretches day (record { place = k; minutes = x - day.t; day = next })
    stretches_on next run =
        let s = state_in day in
        let minutes : x - day.t ≡ stretch_of s = omega (arith, to) in
        record {
          place = rw (minute_on s on) is;
          minutes = minutes;
          places = λ j l. stretch_places s (omega arith) on j (omega (arith, minutes)) ∙ sym is;
          next =
              run.state
              ∙ ap (λ (z : ℕ). after_minutes s z (x - day.t)) is
              ∙ ap (after_minutes s (chosen s)) minutes
              ∙ sym (stretch_state s (omega arith) on);
          n = run.n;
        }
