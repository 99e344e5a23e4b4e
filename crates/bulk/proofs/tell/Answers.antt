-- The loop's invariant, for each buffer: what is told of the bits that are left gives the buffer that is wanted.
use mathlib.Core.Path.{ap, ◌∙◌}
use native.Mathlib.Omega.{arith}
use mir.Syntax.{w64}
use mir.Val.{SFits}
use mir.Facts.{to_z-of_z}
use Rattle.values.specs.declared.Telling.{Telling}
use Rattle.bulk.proofs.Telling.{mapping_begins, mapping_turns, mapping_ends}
use borrow.Author.Rules.{rules}
use Rattle.bulk.proofs.tell.Goals as goal

pub loop-i-init : goal.loop-i-init
loop-i-init c = (mapping_begins _ _ _ c.requires.n_in_bounds_2.0, mapping_begins _ _ _ c.requires.n_in_bounds_2.1)

pub bounds-wholes-at : goal.bounds-wholes-at
bounds-wholes-at c =
    omega (arith, c.loop-i.invariant.1.room, c.loop-i-test.true)

pub loop-i-preserved : goal.loop-i-preserved
loop-i-preserved c =
    let whole-fits : SFits w64 c.tell-t.result.whole =
    search rules in
    let a = c.args in
    let e = c.tell-t.ensures in (
      mapping_turns _ _ _ c.requires.n_in_bounds c.loop-i-test.true (ap (λ (t : Telling). t.kind) e) c.loop-i.invariant.0,
      mapping_turns _ _ _ c.requires.n_in_bounds c.loop-i-test.true (to_z-of_z (whole-fits) ∙ ap (λ (t : Telling). t.whole) e) c.loop-i.invariant.1,
    )

pub shape_of-kinds : goal.shape_of-kinds
shape_of-kinds c = c.loop-i.invariant.0.long

pub shape_of-wholes : goal.shape_of-wholes
shape_of-wholes c = c.loop-i.invariant.1.long

pub returns : goal.returns
returns c =
    record {
      kinds_after = mapping_ends _ _ _ c.loop-i-test.false c.loop-i.invariant.0;
      wholes_after = mapping_ends _ _ _ c.loop-i-test.false c.loop-i.invariant.1;
    }
