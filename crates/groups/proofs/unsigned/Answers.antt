-- By the sign: a negative number is as far below the range as it is from 0.
use mathlib.Core.Path.{◌≡◌}
use mathlib.Core.Bool.{true, false}
use lib.IntN.{pos}
use lib.Signed.{lt_z}
use mir.Facts.{to_z-of_z}
use Rattle.groups.proofs.Signed.{below_abs, above_abs}
use Rattle.groups.proofs.unsigned.Goals as goal

pub returns-then-z-lt0 : goal.returns-then-z-lt0
returns-then-z-lt0 c =
    let negative : lt_z c.args.z (pos 0) ≡ true = rw (to_z-of_z c.ranges.z) at c.if-z-lt0.true in
    rw (c.unsigned_abs.ensures.value, to_z-of_z c.ranges.z) (below_abs c.args.full c.args.z negative)

pub returns : goal.returns
returns c =
    let positive : lt_z c.args.z (pos 0) ≡ false = rw (to_z-of_z c.ranges.z) at c.if-z-lt0.false in
    rw (c.unsigned_abs-2.ensures.value, to_z-of_z c.ranges.z) (above_abs c.args.full c.args.z positive)
