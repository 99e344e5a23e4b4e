-- Each way out is what its tests say; a signed number is read back from its bits.
use mathlib.Core.Path.{ap, sym, ◌∙◌}
use lib.IntN.{ℤ, pos, negsuc}
use lib.Signed.{le_z}
use mir.Facts.{to_z-of_z}
use Rattle.framing.specs.Framing.{pointer_fits}
use Rattle.framing.proofs.pointer_fits.Goals as goal

pub returns-then-z-geminus2147483648 : goal.returns-then-z-geminus2147483648
unfolding pointer_fits
returns-then-z-geminus2147483648 c = ap (λ (z : ℤ). le_z z (pos 2147483647)) (to_z-of_z c.ranges.z) ∙ simp (ap (le_z (negsuc 2147483647)) (sym (to_z-of_z c.ranges.z)) ∙ c.if-z-geminus2147483648.true)

pub returns-else-z-geminus2147483648 : goal.returns-else-z-geminus2147483648
unfolding pointer_fits
returns-else-z-geminus2147483648 c = c.if-z-geminus2147483648.false ∙ simp (ap (le_z (negsuc 2147483647)) (sym (to_z-of_z c.ranges.z)) ∙ c.if-z-geminus2147483648.false)
