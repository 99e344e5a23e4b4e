-- A turn turns the next sample round.
use Prim.Native.Nat.{ℕ, ◌+◌, ◌*◌, ◌≤◌, ◌<◌}
use native.Mathlib.Nat.{add-mul, one-mul, mul-le-mul_right}
use native.Mathlib.Omega.{arith}
use Rattle.runs.proofs.Blocks.{here_begins, here_turns}
use Rattle.runs.proofs.turn_here.Goals as goal

-- Sample k is there.
there : (k n w : ℕ) → k < n → k * w + w ≤ n * w
there k n w h =
    let l : k + 1 ≤ n = omega arith in
    rw (add-mul, one-mul) at (mul-le-mul_right w l)

pub loop-k-init : goal.loop-k-init
loop-k-init c = here_begins c.args.w c.args.xs.now

pub loop-k-preserved : goal.loop-k-preserved
loop-k-preserved c =
    let a = c.args in
    here_turns a.w c.loop-k.k _ a.xs.now c.loop-k.xs c.reverse.new.self (omega (arith, there c.loop-k.k a.n a.w c.loop-k-test.true, c.requires)) (omega arith) c.loop-k.invariant c.reverse.ensures.after
