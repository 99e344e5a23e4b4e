-- The samples lie in the file in blocks, from the block of the first one on.
use mathlib.Core.Path.{ap, ◌∙◌}
use native.Mathlib.Omega.{arith}
use lib.Seq.{sets}
use Rattle.strides.proofs.Laying.{block-some, start-inside, block-rest, width_wide, in_blocks, laid-bits}
use Rattle.strides.proofs.lay_blocks.Goals as goal

pub block_of-block-requires : goal.block_of-block-requires
block_of-block-requires c = block-some c.requires.n_nonzero c.requires.layable

pub overflow_mul-start : goal.overflow_mul-start
overflow_mul-start c =
    rw c.block_of-block.ensures (omega (arith, start-inside c.requires.n_nonzero c.requires.layable))

pub overflow_add-start : goal.overflow_add-start
overflow_add-start c =
    rw c.block_of-block.ensures (omega (arith, start-inside c.requires.n_nonzero c.requires.layable))

pub overflow_add-start-2 : goal.overflow_add-start-2
overflow_add-start-2 c =
    rw c.block_of-block.ensures (omega (arith, start-inside c.requires.n_nonzero c.requires.layable))

pub overflow_mul-block : goal.overflow_mul-block
overflow_mul-block c =
    rw c.block_of-block.ensures (omega (arith, (block-rest c.requires.n_nonzero c.requires.layable).0))

pub overflow_sub-first : goal.overflow_sub-first
overflow_sub-first c =
    rw c.block_of-block.ensures (omega (arith, (block-rest c.requires.n_nonzero c.requires.layable).0))

pub fill-requires : goal.fill-requires
fill-requires c =
    let h = c.requires.n_nonzero in
    let k = c.requires.layable in
    rw (c.width.ensures, c.apart.ensures, c.block_of-block.ensures, (block-rest h k).1) (record {
      wide = width_wide _ k.lies.wide;
      in_blocks = in_blocks h k;
      n_in_bounds = k.fits;
    })

pub returns : goal.returns
returns c =
    let h = c.requires.n_nonzero in
    let k = c.requires.layable in
    (rw (c.width.ensures, c.apart.ensures, c.block_of-block.ensures, (block-rest h k).1) at c.fill.ensures) ∙ ap (sets _ _) (laid-bits h k _)
