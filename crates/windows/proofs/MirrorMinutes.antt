-- Minutes in the mirror: the bytes of a plan, starts and ends, and consecutive minutes.
-- Assumes nothing.
use mathlib.Core.Path.{◌≡◌, sym, ap, ◌∙◌}
use mathlib.Core.List.{List}
use Prim.Native.Nat.{ℕ, suc, ◌-◌, ◌<◌}
use native.Mathlib.Omega.{arith}
use Rattle.windows.specs.Plans.{IsStart, IsEnd, places_in, Consecutive}
use Rattle.windows.specs.Mirrors.{mirror_plan, mirror_bytes}
use Rattle.windows.proofs.PlanFacts.{mirror_twice, mirror_at}

-- bytes are the mirror of their mirror
pub mirror_bytes_twice : (h : ℕ) (bs : List ℕ) (t : ℕ) → t < h → mirror_plan h (places_in (mirror_bytes h bs)) t ≡ places_in bs t
mirror_bytes_twice h bs t below = mirror_at h bs (h - suc t) (omega arith) ∙ mirror_twice h (places_in bs) t below

-- a start is an end in the mirror
pub start_in_mirror : (h : ℕ) (m : ℕ → ℕ) (k s : ℕ) → IsStart h m k s → IsEnd h (mirror_plan h m) k (h - s)
start_in_mirror h m k s start =
    let below = start.below in
    let e : h - suc (h - s - 1) ≡ s = omega arith in
    record {
      after_one = omega arith;
      within = omega arith;
      minute = ap m e ∙ start.minute;
      none_after = λ t l u q. start.none_before (h - suc t) (omega arith) q;
    }

-- an end is a start in the mirror of bytes
pub end_in_mirror : (h : ℕ) (bs : List ℕ) (k e : ℕ) → IsEnd h (places_in bs) k e → IsStart h (places_in (mirror_bytes h bs)) k (h - e)
end_in_mirror h bs k e end =
    let one = end.after_one in
    let within = end.within in
    let last : h - suc (h - e) ≡ e - 1 = omega arith in
    record {
      below = omega arith;
      minute = mirror_at h bs (h - e) (omega arith) ∙ ap (places_in bs) last ∙ end.minute;
      none_before = λ t l q. end.none_after (h - suc t) (omega arith) (omega arith) (sym (mirror_at h bs t (omega arith)) ∙ q);
    }

-- what agrees in the day's minutes with consecutive minutes has them consecutive
pub consecutive_same : (h : ℕ) (m x : ℕ → ℕ) (k s e : ℕ) → ((t : ℕ) → t < h → x t ≡ m t) → Consecutive h m k s e → Consecutive h x k s e
consecutive_same h m x k s e agrees run =
    record {
      each = λ t below l u. agrees t below ∙ run.each t below l u;
      only = λ t below q. run.only t below (sym (agrees t below) ∙ q);
    }

-- consecutive minutes are consecutive in the mirrored plan
pub consecutive_mirror : (h : ℕ) (m : ℕ → ℕ) (k s e : ℕ) → Consecutive h m k s e → Consecutive h (mirror_plan h m) k (h - e) (h - s)
consecutive_mirror h m k s e run =
    record {
      each = λ t below l u. run.each (h - suc t) (omega arith) (omega arith) (omega arith);
      only = λ t below q. let z = run.only (h - suc t) (omega arith) q in (omega arith, omega arith);
    }
