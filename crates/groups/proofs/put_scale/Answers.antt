-- Tag, length, unit, exponent and mantissa, one after the other.
use Rattle.groups.proofs.Sizes.{scale_long}
use Rattle.groups.proofs.Puts.{put_as, put_two, put_more, scale_is}
use Rattle.octets.proofs.Machine.{widened}
use Rattle.groups.proofs.Signed.{unsigned_is}
use Rattle.groups.specs.Parts.{unsigned_by}
use mathlib.Core.List.{[], ◌∷◌, ◌++◌}
use Prim.Native.Nat.{◌^◌}
use mathlib.Core.Path.{◌≡◌, ap, sym, ◌∙◌}
use native.Mathlib.Omega.{arith}
use borrow.Author.Rules.{rules}
use lib.ListN.{length-append}
use mir.Syntax.{w8, w32, w64}
use mir.Val.{SFits, to_z, of_z}
use Rattle.stores.specs.Number.{be, length-be}
use Rattle.groups.proofs.put_scale.Goals as goal
use Rattle.groups.proofs.put_scale.Goals.{After-from, After-from-2}

-- The exponent and the mantissa, as they are read.
exponent_read : (c : After-from) → to_z w64 (of_z w64 c.from.result) ≡ c.args.x.exponent
exponent_read c =
    let in8 : SFits w8 c.args.x.exponent =
    search rules in
    rw c.from.ensures (widened tt in8)

mantissa_read : (c : After-from-2) → to_z w64 (of_z w64 c.from-2.result) ≡ c.args.x.mantissa
mantissa_read c =
    let in32 : SFits w32 c.args.x.mantissa =
    search rules in
    rw c.from-2.ensures (widened tt in32)

pub unsigned-exponent-requires : goal.unsigned-exponent-requires
unsigned-exponent-requires c =
    let in8 : SFits w8 c.args.x.exponent =
    search rules in
    rw (exponent_read c) (omega (arith, in8.sfits))

pub unsigned-mantissa-requires : goal.unsigned-mantissa-requires
unsigned-mantissa-requires c =
    let in32 : SFits w32 c.args.x.mantissa =
    search rules in
    rw (mantissa_read c) (omega (arith, in32.sfits))

pub returns : goal.returns
returns c =
    let tag = c.args.tag in
    let x = c.args.x in
    let long = scale_long tag x in
    let exponent = c.unsigned-exponent.ensures ∙ ap (unsigned_by (256 ^ 1)) (exponent_read (goal.at.returns c).After-from) ∙ unsigned_is 1 _ in
    let mantissa = c.unsigned-mantissa.ensures ∙ ap (unsigned_by (256 ^ 4)) (mantissa_read (goal.at.returns c).After-from-2) ∙ unsigned_is 4 _ in
    put_as ((λ k. (((tag ∷ 6 ∷ []) ++ (x.unit ∷ [])) ++ be 1 (exponent k)) ++ be 4 (mantissa k)) ∙ sym (scale_is tag x))
    (put_more (simp (length-append, length-be) (omega (arith, c.requires)))
    (put_more (simp (length-append, length-be) (omega (arith, c.requires)))
    (put_two (omega (arith, c.requires)) c.put_two-a.ensures c.put_octet-b.ensures)
    c.put_number-c.ensures)
    c.put_number.ensures)
