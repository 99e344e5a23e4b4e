-- A turn stores the next sample.
use mathlib.Core.Path.{◌≡◌}
use Prim.Native.Nat.{◌+◌, ◌-◌}
use native.Mathlib.Omega.{arith}
use Rattle.strides.proofs.Walks.{run_begins, run_there, run_turns, run_ends}
use Rattle.strides.proofs.run_of.Goals as goal

pub loop-k-init : goal.loop-k-init
loop-k-init g c =
    let a = c.args in
    let p : a.at + 0 ≡ a.at = omega arith in
    let left : a.n - 0 ≡ a.n = omega arith in
    rw (p, left) (run_begins _ _ _ _ c.requires.in_file c.requires.n_in_bounds)

pub overflow_add-q : goal.overflow_add-q
overflow_add-q g c =
    let inv = c.loop-k.invariant in
    omega (arith, run_there _ _ _ _ (omega arith) inv, inv.small, inv.apart)

pub loop-k-preserved : goal.loop-k-preserved
loop-k-preserved g c =
    let a = c.args in
    let k = c.loop-k.k in
    let p : a.at + k + 1 ≡ a.at + (k + 1) = omega arith in
    let less : a.n - k - 1 ≡ a.n - (k + 1) = omega arith in
    rw (← p, ← less) (run_turns _ _ _ _ (omega arith) c.bits_at.ensures c.loop-k.invariant)

pub returns : goal.returns
returns g c = run_ends _ _ _ _ (omega arith) c.loop-k.invariant
