-- Nothing, many octets, or one.
use Rattle.turns.proofs.Laws.{turn_none, turn_decided, turn_run, still_goes, turn_after}
use native.Mathlib.Omega.{arith}
use Rattle.turns.proofs.turn.Goals as goal

pub returns-then-u-eq0 : goal.returns-then-u-eq0
returns-then-u-eq0 c = turn_none c.args.x c.args.p c.args.t.now c.args.u.now c.args.out.now c.none.ensures (omega arith)

pub returns-then-is_decided : goal.returns-then-is_decided
returns-then-is_decided c = turn_decided c.args.x c.args.p c.args.t.now c.args.u.now c.args.out.now c.none-then-is_decided.ensures c.is_decided.ensures c.if-is_decided.true

pub returns-then-ran-gt0 : goal.returns-then-ran-gt0
returns-then-ran-gt0 c = turn_run c.args.x c.args.p c.args.t.now c.args.u.now c.args.out.now c.many-ran.ensures (omega arith)

pub single-requires : goal.single-requires
single-requires c = (omega arith, still_goes c.args.x c.args.p c.args.t.now c.args.u.now c.args.out.now c.many-ran.ensures (omega arith) c.is_decided.ensures c.if-is_decided.false)

pub returns : goal.returns
returns c = turn_after c.args.x c.args.p c.args.t.now c.args.u.now c.args.out.now c.many-ran.ensures (omega arith) c.single.ensures
