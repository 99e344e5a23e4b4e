-- A word's bits, read with a sign.
use mathlib.Core.Path.{refl, ◌∙◌}
use mir.Syntax.{w64}
use mir.Facts.{to_z-of_z}
use borrow.Author.Rules.{rules}
use Rattle.octets.proofs.Laws.{twos-whole}
use Rattle.kept.proofs.signed_of.Goals as goal

pub returns : goal.returns
returns c = to_z-of_z {w = w64} (search rules) ∙ c.cast_signed.ensures ∙ twos-whole w64 8 c.args.x refl refl c.ranges.x.fits
