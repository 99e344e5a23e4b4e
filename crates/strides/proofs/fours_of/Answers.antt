-- A turn is four turns of `run_of`, which stores what is left.
use mathlib.Core.Path.{◌≡◌, refl, ◌∙◌}
use Prim.Native.Nat.{◌+◌, ◌*◌, ◌-◌, ◌/◌, ◌%◌}
use native.Mathlib.Nat.{div-add-mod'}
use native.Mathlib.Omega.{arith}
use Rattle.strides.proofs.Walks.{run_begins, run_within, four_there, run_four}
use Rattle.strides.proofs.fours_of.Goals as goal

pub loop-k-init : goal.loop-k-init
loop-k-init g c =
    let a = c.args in
    let p : a.at + 0 * 4 ≡ a.at = omega arith in
    let left : a.n - 0 * 4 ≡ a.n = omega arith in
    rw (p, left) (run_begins _ _ _ _ c.requires.in_file c.requires.n_in_bounds)

pub four_of-requires-clause-step_in_bounds : goal.four_of-requires-clause-step_in_bounds
four_of-requires-clause-step_in_bounds g c = four_there _ _ _ _ (omega arith) c.loop-k.invariant

pub overflow_add-q : goal.overflow_add-q
overflow_add-q g c =
    let inv = c.loop-k.invariant in
    omega (arith, four_there _ _ _ _ (omega arith) inv, inv.small, inv.apart)

pub loop-k-preserved : goal.loop-k-preserved
loop-k-preserved g c =
    let a = c.args in
    let k = c.loop-k.k in
    let p : a.at + k * 4 + 4 ≡ a.at + (k + 1) * 4 = omega arith in
    let less : a.n - k * 4 - 4 ≡ a.n - (k + 1) * 4 = omega arith in
    rw (c.four_of.ensures, ← p, ← less) (run_four _ _ _ _ (omega arith) refl refl refl refl c.loop-k.invariant)

pub run_of-requires-clause-in_file : goal.run_of-requires-clause-in_file
run_of-requires-clause-in_file g c =
    let a = c.args in
    let k : c.loop-k.k ≡ a.n / 4 = omega arith in
    let left : a.n - a.n / 4 * 4 ≡ a.n % 4 = omega (arith, div-add-mod' a.n 4) in
    rw (k, left) at (run_within _ _ _ _ c.loop-k.invariant)

pub returns : goal.returns
returns g c =
    let a = c.args in
    let k : c.loop-k.k ≡ a.n / 4 = omega arith in
    let left : a.n - a.n / 4 * 4 ≡ a.n % 4 = omega (arith, div-add-mod' a.n 4) in
    c.run_of.ensures ∙ (rw (k, left) at c.loop-k.invariant.rest)
