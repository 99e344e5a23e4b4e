-- Numbers that are written and read again, for any width.
--     twos_back       the two's complement of a signed number stands for it
--     signed_back     so do its octets
--     unsigned_fits   and they are enough
-- Assumes nothing.
use Prim.Native.Nat.{ℕ, suc, ◌+◌, ◌-◌, ◌*◌, ◌^◌, ◌≤◌, ◌<◌}
use mathlib.Core.Path.{◌≡◌}
use mathlib.Core.Bool.{false}
use native.Mathlib.Omega.{arith}
use borrow.Author.Tests.{lt-ltb, le-ltb}
use lib.IntN.{ℤ, pos, negsuc}
use lib.Signed.{mag}
use Rattle.octets.specs.Number.{twos, signed_of}
use Rattle.stores.specs.Number.{be, length-be}
use Rattle.stores.proofs.Number.{number_back}
use Rattle.groups.specs.Item.{unsigned_of}

-- A signed number that w octets hold: the sizes of 0 and of -1 are the same.
pub unsigned_fits : (w : ℕ) (z : ℤ) → 2 * mag z + 2 ≤ 256 ^ w → unsigned_of w z < 256 ^ w
unfolding unsigned_of
unsigned_fits w (pos n) h = omega arith
unsigned_fits w (negsuc k) h = omega arith

pub twos_back : (w : ℕ) (z : ℤ) → 2 * mag z + 2 ≤ 256 ^ w → twos w (unsigned_of w z) ≡ z
unfolding twos unsigned_of
twos_back w (pos n) h = let l : 2 * n < 256 ^ w = omega arith in simp lt-ltb
twos_back w (negsuc k) h =
    let l : 256 ^ w ≤ 2 * (256 ^ w - suc k) = omega arith in
    let e : 256 ^ w - suc (256 ^ w - suc k) ≡ k = omega arith in
    simp (le-ltb (2 * (256 ^ w - suc k)) (256 ^ w) l, e)

pub signed_back : (w : ℕ) (z : ℤ) → 2 * mag z + 2 ≤ 256 ^ w → signed_of false (be w (unsigned_of w z)) ≡ z
unfolding signed_of
signed_back w z h = rw (length-be, number_back w (unsigned_of w z) (unsigned_fits w z h)) (twos_back w z h)
