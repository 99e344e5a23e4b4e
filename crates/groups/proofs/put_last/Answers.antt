-- The offset with its width, and the null.
use mathlib.Core.Path.{◌≡◌, ap, ◌∙◌}
use mathlib.Core.List.{◌++◌}
use Prim.Native.Nat.{ℕ}
use native.Mathlib.Omega.{arith}
use lib.ListN.{length-append}
use Rattle.stores.specs.Number.{field}
use Rattle.values.specs.declared.Bits.{Bits}
use Rattle.values.proofs.Laws.{width_le}
use Rattle.settings.specs.declared.Settings.{Settings}
use Rattle.layout.specs.Frame.{width_in, offset_bits}
use Rattle.sizes.specs.Size.{null_size}
use Rattle.sizes.proofs.Laws.{null-le}
use Rattle.groups.specs.Parts.{last_items}
use Rattle.groups.proofs.Puts.{put_two, put_as}
use Rattle.groups.proofs.put_last.Goals as goal

last_is : (c : Settings) {w n : ℕ} {offset : Bits} → w ≡ width_in c → n ≡ null_size w c.null → offset ≡ offset_bits c → field 0x0D w offset.bits ++ field 0x12 n c.null.bits ≡ last_items c
last_is c w n offset = λ k. field 0x0D (w k) (offset k).bits ++ field 0x12 ((n ∙ ap (λ (m : ℕ). null_size m c.null) w) k) c.null.bits

pub overflow_cast-w : goal.overflow_cast-w
overflow_cast-w c =
    omega (arith, c.width-w.ensures, width_le c.args.c.datatype)

pub overflow_cast-n : goal.overflow_cast-n
overflow_cast-n c =
    let w = c.width-w in
    omega (arith, c.null_size-n.ensures, null-le w.result c.args.c.null, w.ensures, width_le c.args.c.datatype)

pub returns : goal.returns
returns c =
    let is = last_is c.args.c c.width-w.ensures c.null_size-n.ensures c.offset_bits-offset.ensures in
    let room = simp length-append at (rw (← is) at c.requires) in
    put_as is (put_two (omega arith) c.put_field-a.ensures c.put_field.ensures)
