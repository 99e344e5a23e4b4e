-- A number's bits, read with a sign, are the number.
use mathlib.Core.Path.{refl, sym, ◌∙◌}
use mir.Syntax.{w64}
use mir.Facts.{to_z-of_z}
use Rattle.octets.proofs.Laws.{twos-whole}
use Rattle.words.proofs.signed_word.Goals as goal

pub returns : goal.returns
returns c =
    sym (twos-whole w64 8 c.cast_unsigned.result refl refl c.cast_unsigned.type_inv)
    ∙ rw (c.cast_unsigned.ensures, to_z-of_z c.ranges.z) (to_z-of_z c.ranges.z)
