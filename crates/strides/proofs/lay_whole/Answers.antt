-- From the channel's first block on: pairs of octets that lie a sequence apart, or any blocks.
use mathlib.Core.Path.{ap, sym, ◌∙◌}
use native.Mathlib.Omega.{arith}
use lib.Seq.{sets}
use Rattle.strides.proofs.Laying.{width_wide, no_bits, whole-small, whole_blocks, whole-bits, single_inside, single_bits}
use Rattle.strides.proofs.lay_whole.Goals as goal

pub overflow_add-start : goal.overflow_add-start
overflow_add-start c = omega (arith, whole-small c.if-n-gt0.true c.requires)

pub fours_of-requires : goal.fours_of-requires
fours_of-requires c =
    let pre = c.requires in
    rw c.apart-g.ensures (record {
      small = omega arith;
      in_file = single_inside c.if-n-gt0.true pre c.if-x-eq1.true (sym c.if-width-eq2.true ∙ c.width.ensures);
      n_in_bounds = pre.fits;
    })

pub returns-then-width-eq2 : goal.returns-then-width-eq2
returns-then-width-eq2 c =
    let pre = c.requires in
    (rw c.apart-g.ensures at c.fours_of.ensures) ∙ ap (sets _ _) (single_bits c.if-n-gt0.true pre c.if-x-eq1.true (sym c.if-width-eq2.true ∙ c.width.ensures) _)

pub fill-requires : goal.fill-requires
fill-requires c =
    let pre = c.requires in
    rw (c.width-then-n-gt0.ensures, c.apart-g.ensures) (record {
      wide = width_wide _ pre.lies.wide;
      in_blocks = whole_blocks c.if-n-gt0.true pre;
      n_in_bounds = pre.fits;
    })

pub returns-after-x-eq1 : goal.returns-after-x-eq1
returns-after-x-eq1 c =
    (rw (c.width-then-n-gt0.ensures, c.apart-g.ensures) at c.fill.ensures) ∙ ap (sets _ _) (whole-bits c.if-n-gt0.true c.requires _)

pub returns-else-n-gt0 : goal.returns-else-n-gt0
returns-else-n-gt0 c = no_bits _ _ _ _ c.if-n-gt0.false
