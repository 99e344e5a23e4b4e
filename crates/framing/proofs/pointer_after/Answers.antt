-- The product leaves room for the pointer below 2 ^ 63, so that the sum does not leave 64 bits.
use Prim.Native.Nat.{ℕ, ◌+◌, ◌*◌, ◌≤◌, ◌<◌, ◌^◌}
use mathlib.Core.Path.{◌≡◌, ap, ap₂, ◌∙◌}
use native.Mathlib.Omega.{arith}
use native.Mathlib.Nat.{mul-le-mul_right}
use Rattle.octets.specs.Number.{range}
use Rattle.settings.specs.Settings.{block_limit}
use lib.IntN.{ℤ, pos, ◌+ℤ◌}
use mir.Syntax.{w64}
use mir.Val.{SFits, to_z, of_z}
use mir.Facts.{to_z-of_z, to_z_pos}
use Rattle.framing.proofs.Framings.{pointer_small, sum-small}
use Rattle.framing.proofs.pointer_after.Goals as goal

product : (b n : ℕ) → b ≤ block_limit → n < range 4 → b * n + 2 ^ 31 ≤ 2 ^ 63
product b n h l = omega (arith, mul-le-mul_right n h)

pub overflow_mul-result : goal.overflow_mul-result
overflow_mul-result c =
    let room : c.args.block * c.args.sequences + 2 ^ 31 ≤ 2 ^ 63 =
    product c.args.block c.args.sequences c.requires.1 c.requires.2 in
    omega (arith, room)

pub overflow_cast-result-2 : goal.overflow_cast-result-2
overflow_cast-result-2 c =
    let room : c.args.block * c.args.sequences + 2 ^ 31 ≤ 2 ^ 63 =
    product c.args.block c.args.sequences c.requires.1 c.requires.2 in
    record { sfits = omega (arith, room) }

pub overflow_add-result : goal.overflow_add-result
overflow_add-result c =
    let room : c.args.block * c.args.sequences + 2 ^ 31 ≤ 2 ^ 63 =
    product c.args.block c.args.sequences c.requires.1 c.requires.2 in
    let sum : to_z w64 (of_z w64 c.args.start) +ℤ to_z w64 (c.args.block * c.args.sequences) ≡ c.args.start +ℤ pos (c.args.block * c.args.sequences) =
    ap₂ ◌+ℤ◌ (to_z-of_z c.ranges.start) (to_z_pos w64 (omega (arith, room))) in
    let sum_fits : SFits w64 (c.args.start +ℤ pos (c.args.block * c.args.sequences)) =
    record { sfits = sum-small c.args.start (c.args.block * c.args.sequences) (2 ^ 31) (2 ^ 63) (pointer_small c.args.start c.requires.0) (room) } in
    rw (sum) (sum_fits)

pub returns : goal.returns
returns c =
    let room : c.args.block * c.args.sequences + 2 ^ 31 ≤ 2 ^ 63 =
    product c.args.block c.args.sequences c.requires.1 c.requires.2 in
    let sum : to_z w64 (of_z w64 c.args.start) +ℤ to_z w64 (c.args.block * c.args.sequences) ≡ c.args.start +ℤ pos (c.args.block * c.args.sequences) =
    ap₂ ◌+ℤ◌ (to_z-of_z c.ranges.start) (to_z_pos w64 (omega (arith, room))) in
    let sum_fits : SFits w64 (c.args.start +ℤ pos (c.args.block * c.args.sequences)) =
    record { sfits = sum-small c.args.start (c.args.block * c.args.sequences) (2 ^ 31) (2 ^ 63) (pointer_small c.args.start c.requires.0) (room) } in
    ap (λ (z : ℤ). to_z w64 (of_z w64 z)) (sum) ∙ to_z-of_z (sum_fits)
