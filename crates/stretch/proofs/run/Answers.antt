-- What ends the stretch, and what it goes on with.
use Rattle.std.specs.Prelude.{Some}
use mathlib.Core.Path.{refl, sym, ap, ◌∙◌}
use Rattle.stretch.proofs.Runs.{step-none, step-long, step_past, running_first, running_ends, running_stops, running_item, value-here, leaves-block, leaves-class, leaves-lead, leaves_type, leaves-interval, leaves-resolution, leaves-offset, leaves-null, leaves-same, leaves_nothing}
use Rattle.stretch.proofs.run.Goals as goal

pub loop-at-init : goal.loop-at-init
loop-at-init c = running_first _ _ _ _

pub loop-at-preserved-in-Some-block_read : goal.loop-at-preserved-in-Some-block_read
loop-at-preserved-in-Some-block_read c =
    running_item c.loop-at.invariant refl c.loop-at-test.true c.if-n-gt127.false c.if-u-at.false
    (leaves-block _ _ _ _ _ c.attribute_of.ensures (c.in-Some.is ∙ ap Some c.in-Block.is) (value-here c.args.u.now c.loop-at.at) c.block_read.ensures c.in-Some-block_read.is)

pub loop-at-preserved-in-Some-code_read : goal.loop-at-preserved-in-Some-code_read
loop-at-preserved-in-Some-code_read c =
    running_item c.loop-at.invariant refl c.loop-at-test.true c.if-n-gt127.false c.if-u-at.false
    (leaves-class _ _ _ _ _ c.attribute_of.ensures (c.in-Some.is ∙ ap Some c.in-Class.is) (value-here c.args.u.now c.loop-at.at) c.code_read.ensures c.in-Some-code_read.is)

pub loop-at-preserved-in-Some-code_read-2 : goal.loop-at-preserved-in-Some-code_read-2
loop-at-preserved-in-Some-code_read-2 c =
    running_item c.loop-at.invariant refl c.loop-at-test.true c.if-n-gt127.false c.if-u-at.false
    (leaves-lead _ _ _ _ _ c.attribute_of.ensures (c.in-Some.is ∙ ap Some c.in-Lead.is) (value-here c.args.u.now c.loop-at.at) c.code_read-in-Lead.ensures c.in-Some-code_read-2.is)

pub loop-at-preserved-in-Some-type_read : goal.loop-at-preserved-in-Some-type_read
loop-at-preserved-in-Some-type_read c =
    running_item c.loop-at.invariant refl c.loop-at-test.true c.if-n-gt127.false c.if-u-at.false
    (leaves_type _ _ _ _ _ c.attribute_of.ensures (c.in-Some.is ∙ ap Some c.in-DataType.is) (value-here c.args.u.now c.loop-at.at) c.type_read.ensures c.in-Some-type_read.is)

pub loop-at-preserved-in-Some-scale_read : goal.loop-at-preserved-in-Some-scale_read
loop-at-preserved-in-Some-scale_read c =
    running_item c.loop-at.invariant refl c.loop-at-test.true c.if-n-gt127.false c.if-u-at.false
    (leaves-interval _ _ _ _ _ c.attribute_of.ensures (c.in-Some.is ∙ ap Some c.in-Interval.is) (value-here c.args.u.now c.loop-at.at) c.scale_read.ensures c.in-Some-scale_read.is)

pub loop-at-preserved-in-Some-scale_read-2 : goal.loop-at-preserved-in-Some-scale_read-2
loop-at-preserved-in-Some-scale_read-2 c =
    running_item c.loop-at.invariant refl c.loop-at-test.true c.if-n-gt127.false c.if-u-at.false
    (leaves-resolution _ _ _ _ _ c.attribute_of.ensures (c.in-Some.is ∙ ap Some c.in-Resolution.is) (value-here c.args.u.now c.loop-at.at) c.scale_read-in-Resolution.ensures c.in-Some-scale_read-2.is)

pub loop-at-preserved-in-Some-bits_read : goal.loop-at-preserved-in-Some-bits_read
loop-at-preserved-in-Some-bits_read c =
    running_item c.loop-at.invariant refl c.loop-at-test.true c.if-n-gt127.false c.if-u-at.false
    (leaves-offset _ _ _ _ _ c.attribute_of.ensures (c.in-Some.is ∙ ap Some c.in-Offset.is) (value-here c.args.u.now c.loop-at.at) c.bits_read.ensures c.in-Some-bits_read.is)

pub loop-at-preserved-in-Some-bits_read-2 : goal.loop-at-preserved-in-Some-bits_read-2
loop-at-preserved-in-Some-bits_read-2 c =
    running_item c.loop-at.invariant refl c.loop-at-test.true c.if-n-gt127.false c.if-u-at.false
    (leaves-null _ _ _ _ _ c.attribute_of.ensures (c.in-Some.is ∙ ap Some c.in-Null.is) (value-here c.args.u.now c.loop-at.at) c.bits_read-in-Null.ensures c.in-Some-bits_read-2.is)

pub loop-at-preserved : goal.loop-at-preserved
loop-at-preserved c =
    running_item c.loop-at.invariant refl c.loop-at-test.true c.if-n-gt127.false c.if-u-at.false
    (leaves-same _ _ _ _ _ c.attribute_of.ensures c.in-None.is (sym c.stepped_over.ensures ∙ c.if-not-stepped_over.false))

pub returns-after-loop-at : goal.returns-after-loop-at
returns-after-loop-at c = (running_ends c.loop-at.invariant c.renewed-settings.ensures (step-none _ _ _ _ _ c.loop-at-test.false), c.loop-at.invariant.low)

pub returns-then-n-gt127 : goal.returns-then-n-gt127
returns-then-n-gt127 c = (running_ends c.loop-at.invariant c.renewed-settings.ensures (step-long _ _ _ _ _ refl c.loop-at-test.true c.if-n-gt127.true), c.loop-at.invariant.low)

pub returns-then-u-at : goal.returns-then-u-at
returns-then-u-at c = (running_ends c.loop-at.invariant c.renewed-settings.ensures (step_past _ _ _ _ _ refl c.loop-at-test.true c.if-n-gt127.false c.if-u-at.true), c.loop-at.invariant.low)

pub returns-in-None-block_read : goal.returns-in-None-block_read
returns-in-None-block_read c =
    running_stops c.loop-at.invariant refl c.loop-at-test.true c.if-n-gt127.false c.if-u-at.false c.renewed-settings.ensures
    (leaves-block _ _ _ _ _ c.attribute_of.ensures (c.in-Some.is ∙ ap Some c.in-Block.is) (value-here c.args.u.now c.loop-at.at) c.block_read.ensures c.in-None-block_read.is)

pub returns-in-None-code_read : goal.returns-in-None-code_read
returns-in-None-code_read c =
    running_stops c.loop-at.invariant refl c.loop-at-test.true c.if-n-gt127.false c.if-u-at.false c.renewed-settings.ensures
    (leaves-class _ _ _ _ _ c.attribute_of.ensures (c.in-Some.is ∙ ap Some c.in-Class.is) (value-here c.args.u.now c.loop-at.at) c.code_read.ensures c.in-None-code_read.is)

pub returns-in-None-code_read-2 : goal.returns-in-None-code_read-2
returns-in-None-code_read-2 c =
    running_stops c.loop-at.invariant refl c.loop-at-test.true c.if-n-gt127.false c.if-u-at.false c.renewed-settings.ensures
    (leaves-lead _ _ _ _ _ c.attribute_of.ensures (c.in-Some.is ∙ ap Some c.in-Lead.is) (value-here c.args.u.now c.loop-at.at) c.code_read-in-Lead.ensures c.in-None-code_read-2.is)

pub returns-in-None-type_read : goal.returns-in-None-type_read
returns-in-None-type_read c =
    running_stops c.loop-at.invariant refl c.loop-at-test.true c.if-n-gt127.false c.if-u-at.false c.renewed-settings.ensures
    (leaves_type _ _ _ _ _ c.attribute_of.ensures (c.in-Some.is ∙ ap Some c.in-DataType.is) (value-here c.args.u.now c.loop-at.at) c.type_read.ensures c.in-None-type_read.is)

pub returns-in-None-scale_read : goal.returns-in-None-scale_read
returns-in-None-scale_read c =
    running_stops c.loop-at.invariant refl c.loop-at-test.true c.if-n-gt127.false c.if-u-at.false c.renewed-settings.ensures
    (leaves-interval _ _ _ _ _ c.attribute_of.ensures (c.in-Some.is ∙ ap Some c.in-Interval.is) (value-here c.args.u.now c.loop-at.at) c.scale_read.ensures c.in-None-scale_read.is)

pub returns-in-None-scale_read-2 : goal.returns-in-None-scale_read-2
returns-in-None-scale_read-2 c =
    running_stops c.loop-at.invariant refl c.loop-at-test.true c.if-n-gt127.false c.if-u-at.false c.renewed-settings.ensures
    (leaves-resolution _ _ _ _ _ c.attribute_of.ensures (c.in-Some.is ∙ ap Some c.in-Resolution.is) (value-here c.args.u.now c.loop-at.at) c.scale_read-in-Resolution.ensures c.in-None-scale_read-2.is)

pub returns-in-None-bits_read : goal.returns-in-None-bits_read
returns-in-None-bits_read c =
    running_stops c.loop-at.invariant refl c.loop-at-test.true c.if-n-gt127.false c.if-u-at.false c.renewed-settings.ensures
    (leaves-offset _ _ _ _ _ c.attribute_of.ensures (c.in-Some.is ∙ ap Some c.in-Offset.is) (value-here c.args.u.now c.loop-at.at) c.bits_read.ensures c.in-None-bits_read.is)

pub returns-in-None-bits_read-2 : goal.returns-in-None-bits_read-2
returns-in-None-bits_read-2 c =
    running_stops c.loop-at.invariant refl c.loop-at-test.true c.if-n-gt127.false c.if-u-at.false c.renewed-settings.ensures
    (leaves-null _ _ _ _ _ c.attribute_of.ensures (c.in-Some.is ∙ ap Some c.in-Null.is) (value-here c.args.u.now c.loop-at.at) c.bits_read-in-Null.ensures c.in-None-bits_read-2.is)

pub returns-then-not-stepped_over : goal.returns-then-not-stepped_over
returns-then-not-stepped_over c =
    running_stops c.loop-at.invariant refl c.loop-at-test.true c.if-n-gt127.false c.if-u-at.false c.renewed-settings.ensures
    (leaves_nothing _ _ _ _ _ c.attribute_of.ensures c.in-None.is (sym c.stepped_over.ensures ∙ c.if-not-stepped_over.true))
