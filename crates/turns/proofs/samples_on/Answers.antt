-- Nothing, or whole samples.
use Rattle.turns.proofs.Laws.{samples-none, samples_run}
use native.Mathlib.Omega.{arith}
use mathlib.Core.Path.{ap, ◌∙◌}
use lib.ListN.{length, length-take}
use Rattle.turns.proofs.samples_on.Goals as goal

pub returns-then-l-eq0 : goal.returns-then-l-eq0
returns-then-l-eq0 c = samples-none c.args.x c.args.p c.args.t.now c.args.u.now c.args.out.now c.args.left c.args.at c.requires c.part-part.result.now c.lay-l.ensures (omega arith) c.none.ensures

pub overflow_sub-left : goal.overflow_sub-left
overflow_sub-left c =
    let long = ap length c.part-part.ensures ∙ length-take c.least.result c.args.u.now in
    omega (arith, c.lay-l.ensures.laying.within, long, c.least.ensures)

pub returns : goal.returns
returns c = samples_run c.args.x c.args.p c.args.t.now c.args.u.now c.args.out.now c.args.left c.args.at c.requires c.part-part.result.now c.least.ensures c.part-part.ensures c.lay-l.ensures (λ z. omega arith) c.further-y.ensures c.at_sample.ensures
