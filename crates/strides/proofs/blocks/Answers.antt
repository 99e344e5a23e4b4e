-- `strides::blocks` meets its contract. The loop's invariant: the samples that are left give the buffer that is wanted.
use native.Mathlib.Omega.{arith}
use borrow.Author.Rules.{rules}
use Rattle.strides.proofs.Walks.{blocks_begin, piece_some, block-starts, block_within, blocks_turn, blocks_end}
use Rattle.strides.proofs.blocks.Goals as goal

pub loop-p-init : goal.loop-p-init
loop-p-init c = blocks_begin _ _ _ _ _ c.requires.in_blocks c.requires.n_in_bounds

pub overflow_mul-r : goal.overflow_mul-r
overflow_mul-r c =
    let inv = c.loop-p.invariant in
    omega (arith, block-starts _ _ _ _ _ c.loop-p-test.true c.smaller-m.ensures inv, inv.small)

pub overflow_add-start : goal.overflow_add-start
overflow_add-start c =
    let inv = c.loop-p.invariant in
    omega (arith, block-starts _ _ _ _ _ c.loop-p-test.true c.smaller-m.ensures inv, inv.small)

pub run-requires : goal.run-requires
run-requires c =
    record {
      wide = c.requires.wide;
      in_file = block_within _ _ _ _ _ c.loop-p-test.true c.smaller-m.ensures c.loop-p.invariant c.requires.wide;
      n_in_bounds = search rules;
    }

pub loop-p-smaller : goal.loop-p-smaller
loop-p-smaller c =
    omega (arith, piece_some _ _ _ _ _ c.loop-p-test.true c.smaller-m.ensures c.loop-p.invariant)

pub loop-p-preserved : goal.loop-p-preserved
loop-p-preserved c =
    blocks_turn _ _ _ _ _ c.loop-p-test.true c.smaller-m.ensures c.loop-p.invariant c.run.ensures
    c.requires.wide

pub shape_of-out : goal.shape_of-out
shape_of-out c = c.loop-p.invariant.long

pub returns : goal.returns
returns c = blocks_end _ _ _ _ _ c.loop-p-test.false c.loop-p.invariant
