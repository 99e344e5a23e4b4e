-- A turn stores the next octet before those that are stored.
use mathlib.Core.Path.{◌≡◌, sym, ap, ◌∙◌}
use mathlib.Core.List.{List}
use Prim.Native.Nat.{ℕ, suc, ◌+◌, ◌-◌, ◌<◌}
use native.Mathlib.Numerals.{add-one}
use native.Mathlib.Omega.{arith}
use lib.ListN.{length, set, get_or}
use lib.Seq.{sets, length-sets}
use Rattle.runs.proofs.Places.{from_end, reversed, set_before}
use Rattle.runs.proofs.turn_sample.Goals as goal

turn : (s d : List ℕ) (q p k : ℕ) → k < p → set (sets d (p - k) (from_end s q k)) (p - 1 - k) (get_or s (q + k) 0) ≡ sets d (p - (k + 1)) (from_end s q (k + 1))
turn s d q p k h =
    let e : p - k ≡ suc (p - 1 - k) = omega arith in
    let f : p - suc k ≡ p - 1 - k = omega arith in
    rw (add-one, e, f) (sym (set_before (from_end s q k) d (suc (p - 1 - k)) (p - 1 - k) (get_or s (q + k) 0) (omega arith)))

pub bounds-dst-end : goal.bounds-dst-end
bounds-dst-end c = omega (arith, ap length c.loop-k.invariant, length-sets c.args.dst.now (c.args.at + c.args.w - c.loop-k.k) (from_end c.args.src.now c.args.from c.loop-k.k))

pub loop-k-preserved : goal.loop-k-preserved
loop-k-preserved c =
    let a = c.args in
    rw c.loop-k.invariant (turn a.src.now a.dst.now a.from (a.at + a.w) c.loop-k.k (omega arith))

pub returns : goal.returns
returns c =
    let a = c.args in
    let all : c.loop-k.k ≡ a.w = omega arith in
    let first : a.at + a.w - a.w ≡ a.at = omega arith in
    (rw (all, first) at c.loop-k.invariant) ∙ ap (sets a.dst.now a.at) (sym (reversed a.src.now a.from a.w (omega arith)))
