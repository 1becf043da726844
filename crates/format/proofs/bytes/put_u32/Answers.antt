-- `bytes::put_u32` meets its contract: the four bytes are those of the two halves.
-- Assumes nothing.
use mathlib.Core.Path.{◌≡◌, refl, ◌∙◌}
use Prim.Native.Nat.{ℕ, ◌<◌, ◌^◌, ◌%◌, ◌/◌}
use native.Mathlib.Omega.{arith}
use Rattle.std.specs.Int.{to_le_bytes, w32}
use Rattle.format.specs.LittleEndian.{u32_bytes}
use Rattle.format.proofs.Copied.{copied}
use Rattle.format.proofs.bytes.put_u32.Goals as goal

same_bytes : (x : ℕ) → x < 2 ^ 32 → to_le_bytes w32 x ≡ u32_bytes x
same_bytes x h =
    let a : x % 65536 % 256 ≡ x % 256 = omega arith in
    let b : x % 65536 / 256 % 256 ≡ x / 256 % 256 = omega arith in
    let c : x / 65536 / 256 % 256 ≡ x / 16777216 % 256 = omega arith in
    rw (a, b, c) refl

pub returns : goal.returns
returns c =
    let bytes = c.copy_from_slice.ensures.after ∙ c.to_le_bytes.ensures ∙ same_bytes c.args.x (omega arith) in
    record { place = refl; stored = copied c.args.out.now _ (u32_bytes c.args.x) c.args.at 4 c.requires refl bytes }
