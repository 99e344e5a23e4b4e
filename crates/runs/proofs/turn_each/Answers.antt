-- A turn stores the next sample.
use mathlib.Core.Path.{◌≡◌}
use Prim.Native.Nat.{◌+◌, ◌*◌, ◌-◌}
use native.Mathlib.Nat.{add-mul, one-mul}
use native.Mathlib.Omega.{arith}
use Rattle.runs.specs.Turned.{turned}
use Rattle.runs.proofs.Samples.{one_less}
use Rattle.runs.proofs.turn_each.Goals as goal

pub loop-k-preserved : goal.loop-k-preserved
loop-k-preserved c =
    let a = c.args in
    let k = c.loop-k.k in
    let next : (k + 1) * a.w ≡ k * a.w + a.w = rw (add-mul, one-mul) in
    let q : a.from + k * a.w + a.w ≡ a.from + (k + 1) * a.w = omega arith in
    let p : a.at + k * a.w + a.w ≡ a.at + (k + 1) * a.w = omega arith in
    let less : a.n - k - 1 ≡ a.n - (k + 1) = omega arith in
    rw (q, p, less) at (one_less (omega arith) c.turn_sample.ensures c.loop-k.invariant)

pub returns : goal.returns
unfolding turned
returns c =
    let e : c.args.n - c.loop-k.k ≡ 0 = omega arith in
    rw e at c.loop-k.invariant.rest
