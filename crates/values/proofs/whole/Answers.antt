-- `values::whole` meets its contract: of a number of at most four octets the lowest octets are all, and an i64 holds what an i32 holds.
-- Assumes nothing.
use mathlib.Core.Path.{ap, ◌∙◌}
use native.Mathlib.Nat.{mod-eq_of_lt, min-eq_left}
use mir.Syntax.{w32, w64}
use mir.Val.{SFits}
use mir.Facts.{to_z-of_z, sfits_widen}
use Rattle.values.specs.Sample.{whole_said, value_says}
use borrow.Author.Rules.{rules}
use Rattle.values.proofs.whole.Goals as goal

pub overflow_cast-result : goal.overflow_cast-result
overflow_cast-result c =
    let in32 : SFits w32 c.lowest_signed.result =
    search rules in
    rw (to_z-of_z in32) (sfits_widen tt in32)

pub returns : goal.returns
unfolding value_says
returns c =
    let in32 : SFits w32 c.lowest_signed.result =
    search rules in
    ap whole_said
    (rw (to_z-of_z in32) (to_z-of_z {w = w64} (sfits_widen tt in32)) ∙ c.lowest_signed.ensures ∙ rw (min-eq_left c.requires.0, mod-eq_of_lt c.requires.1))
