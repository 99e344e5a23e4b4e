-- A turn stores the next block.
use mathlib.Core.Path.{◌≡◌, ◌∙◌}
use Prim.Native.Nat.{ℕ, ◌+◌, ◌*◌, ◌-◌, ◌/◌, ◌≤◌, ◌<◌}
use native.Mathlib.Nat.{add-mul, one-mul, mul-le-mul_right, le-div_iff_mul-le}
use native.Mathlib.Omega.{arith}
use lib.ListN.{length}
use Rattle.runs.proofs.Blocks.{whole, block_stored}
use Rattle.runs.proofs.Samples.{left_less}
use Rattle.runs.proofs.turn_blocks.Goals as goal

-- The samples of block k are left.
left : (k n each : ℕ) → 0 < each → k < n / each → each ≤ n - k * each
left k n each some h =
    let l : (k + 1) * each ≤ n = (le-div_iff_mul-le some).0 (omega arith) in
    omega (arith, (rw (add-mul, one-mul) at l))

pub loop-k-preserved : goal.loop-k-preserved
loop-k-preserved c =
    let a = c.args in
    let k = c.loop-k.k in
    let e = whole c.requires.fact in
    let h = left k a.n (16 / a.w) e.each c.loop-k-test.true in
    let b = mul-le-mul_right a.w h in
    let size = e.size in
    let inv = c.loop-k.invariant in
    let q : a.from + k * 16 + 16 ≡ a.from + (k + 1) * 16 = omega arith in
    let p : a.at + k * 16 + 16 ≡ a.at + (k + 1) * 16 = omega arith in
    let next : (k + 1) * (16 / a.w) ≡ k * (16 / a.w) + 16 / a.w = rw (add-mul, one-mul) in
    let less : a.n - k * (16 / a.w) - 16 / a.w ≡ a.n - (k + 1) * (16 / a.w) = omega arith in
    let there : a.from + k * 16 + 16 ≤ length a.src.now = omega (arith, inv.there, size, b) in
    let room : a.at + k * 16 + 16 ≤ length c.loop-k.dst = omega (arith, inv.room, size, b) in
    let stored = block_stored a.src.now c.loop-k.dst (a.from + k * 16) (a.at + k * 16) (a.from + k * 16 + 16 - (a.from + k * 16)) (a.at + k * 16 + 16 - (a.at + k * 16)) e there room (omega arith) (omega arith) c.copy_from_slice.ensures.after (c.copy_from_slice-in-loop-k.ensures.after ∙ c.turn_here.ensures) in
    rw (← q, ← p, ← less) (left_less (16 / a.w) 16 e.size h stored inv)
