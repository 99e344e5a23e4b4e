-- After an answer, past the limit, or by its phase.
use Rattle.arriving.proofs.Laws.{steps-decided, steps-past, steps-taken}
use Rattle.std.proofs.Common.{◌≤◌, sym, subst, arith}
use Rattle.standing.specs.Standing.{octets_limit}
use Rattle.arriving.specs.declared.Link.{Link}
use Rattle.arriving.proofs.octet.Goals as goal

pub returns-then-is_decided : goal.returns-then-is_decided
returns-then-is_decided c = steps-decided c.args.x c.args.t.now c.args.p c.args.b c.is_decided.ensures c.if-is_decided.true

pub returns-then-x : goal.returns-then-x
returns-then-x c = steps-past c.args.x c.args.t.now c.args.p c.args.b c.is_decided.ensures c.if-is_decided.false (omega arith) c.of-r.ensures c.in_stage.ensures

pub taken-requires : goal.taken-requires
taken-requires c = subst (λ (y : Link). y.core.count ≤ octets_limit) (sym c.counted.ensures) (omega arith)

pub returns : goal.returns
returns c = steps-taken c.args.x c.args.t.now c.args.p c.args.b c.is_decided.ensures c.if-is_decided.false (omega arith) c.counted.ensures c.taken.ensures
