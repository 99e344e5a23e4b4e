-- Each way out is what its test says; a width is at most 8.
use Rattle.std.proofs.Common.{◌∙◌, arith, eq-eqb, ne_eqb}
use Rattle.values.proofs.Laws.{width_le}
use Rattle.layout.specs.Frame.{offset_bits}
use Rattle.layout.proofs.offset_bits.Goals as goal

pub overflow_cast-result : goal.overflow_cast-result
overflow_cast-result c =
    omega (arith, c.width.ensures, width_le c.args.c.datatype)

pub returns-then-offset-eq0 : goal.returns-then-offset-eq0
unfolding offset_bits
returns-then-offset-eq0 c = (λ k. record { width = c.width.ensures k; bits = 0 }) ∙ simp (eq-eqb _ 0 c.if-offset-eq0.true)

pub returns : goal.returns
unfolding offset_bits
returns c = simp (ne_eqb _ 0 c.if-offset-eq0.false)
