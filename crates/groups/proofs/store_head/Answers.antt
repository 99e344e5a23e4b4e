-- Three items, one after the other.
use Prim.Native.Nat.{◌^◌}
use mathlib.Core.Path.{◌≡◌, ap, ◌∙◌}
use native.Mathlib.Omega.{arith}
use mir.Syntax.{w64}
use mir.Val.{to_z, of_z}
use Rattle.groups.specs.Parts.{unsigned_by}
use Rattle.octets.proofs.Machine.{widened}
use Rattle.groups.proofs.Signed.{unsigned_is}
use Rattle.groups.proofs.Puts.{head-stored}
use Rattle.groups.proofs.store_head.Goals as goal
use Rattle.groups.proofs.store_head.Goals.{After-from}

-- The start pointer, as it is read.
start_read : (c : After-from) → to_z w64 (of_z w64 c.from.result) ≡ c.args.start
start_read c = rw c.from.ensures (widened tt c.ranges.start)

pub unsigned-z-requires : goal.unsigned-z-requires
unsigned-z-requires c = rw (start_read c) (omega (arith, c.ranges.start.sfits))

pub returns : goal.returns
returns c =
    let a = c.args in
    let start = c.unsigned-z.ensures ∙ ap (unsigned_by (256 ^ 4)) (start_read (goal.at.returns c).After-from) ∙ unsigned_is 4 a.start in
    head-stored a.count a.sequences _ a.start start c.requires
    (rw c.from-2.ensures at c.put_field-a.ensures) c.put_sequences-b.ensures c.put_field.ensures
