-- `digits::signed_octet` meets its contract: the bits of an octet, read with a sign. Assumes nothing.
use mathlib.Core.Path.{refl, ◌∙◌}
use mir.Syntax.{w8}
use mir.Facts.{to_z-of_z}
use borrow.Author.Rules.{rules}
use Rattle.octets.proofs.Laws.{twos-whole}
use Rattle.digits.proofs.signed_octet.Goals as goal

pub returns : goal.returns
returns c = to_z-of_z {w = w8} (search rules) ∙ c.cast_signed.ensures ∙ twos-whole w8 1 c.args.b refl refl c.ranges.b.fits
