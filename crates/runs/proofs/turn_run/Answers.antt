-- `runs::turn_run` meets its contract: each way of turning the samples round gives the same octets.
use mathlib.Core.Path.{◌≡◌, ap, ◌∙◌}
use mathlib.Core.List.{List}
use Prim.Native.Nat.{ℕ, ◌+◌, ◌*◌, ◌≤◌}
use native.Mathlib.Nat.{mul-one, min-le_left}
use native.Mathlib.Omega.{arith}
use lib.ListN.{length, take, drop, length-take}
use lib.Seq.{sets}
use Rattle.stores.specs.Storing.{Putting, put_fits}
use Rattle.runs.specs.Turned.{turned}
use Rattle.runs.proofs.Turned.{turned_one}
use Rattle.runs.proofs.turn_run.Goals as goal

-- Samples of one octet are copied.
plain : {w r : ℕ} {e : List ℕ} (d : List ℕ) (at n : ℕ) (xs : List ℕ) → w ≡ 1 → at + n * w ≤ length d
    → Putting d at (take n xs) r e → e ≡ sets d at (turned w n xs)
plain {w} d at n xs one h p =
    let k : n * w ≡ n = ap (λ (j : ℕ). n * j) one ∙ mul-one n in
    let l = length-take n xs in
    let m = min-le_left n (length xs) in
    rw (one, turned_one) (put_fits (omega arith) p).stored

pub returns-in-1 : goal.returns-in-1
returns-in-1 c =
    let a = c.args in
    plain a.dst.now a.at a.n (drop a.from a.src.now) c.in-1.is c.requires.w_in_bounds_2 c.copy.ensures
