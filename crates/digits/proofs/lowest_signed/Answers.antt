-- `digits::lowest_signed` meets its contract: the lowest octets are a number of their width, and `extended` gives it its sign.
-- Assumes nothing.
use mathlib.Core.Path.{◌∙◌}
use native.Mathlib.Nat.{mod-lt, min-le_right}
use mir.Syntax.{w32}
use mir.Facts.{to_z-of_z}
use Rattle.octets.proofs.Laws.{range_pos}
use borrow.Author.Rules.{rules}
use Rattle.digits.proofs.lowest_signed.Goals as goal

pub extended-requires : goal.extended-requires
extended-requires c = (rw c.min-k.ensures (min-le_right _ 4), rw c.lowest.ensures (mod-lt _ (range_pos _)))

pub returns : goal.returns
returns c = to_z-of_z {w = w32} (search rules) ∙ c.extended.ensures ∙ rw (c.lowest.ensures, c.min-k.ensures)
