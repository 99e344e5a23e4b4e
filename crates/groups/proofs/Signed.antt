-- Signed numbers in two's complement.
--     unsigned_is                     by octets, or by how many numbers can be told apart
--     below_abs                       a negative number, by how far it is from 0
--     above_abs                       any other
-- Assumes nothing.
use mathlib.Core.Path.{◌≡◌, refl}
use mathlib.Core.Bool.{true, false}
use Prim.Native.Nat.{ℕ, ◌-◌, ◌^◌}
use native.Mathlib.Omega.{arith}
use borrow.Author.Tests.{ltb-true}
use lib.IntN.{ℤ, pos, negsuc, nat_abs}
use lib.Signed.{lt_z}
use Rattle.groups.specs.Item.{unsigned_of}
use Rattle.groups.specs.Parts.{unsigned_by}

pub unsigned_is : (w : ℕ) (z : ℤ) → unsigned_by (256 ^ w) z ≡ unsigned_of w z
unfolding unsigned_by unsigned_of
unsigned_is w (pos n) = refl
unsigned_is w (negsuc k) = refl

pub below_abs : (full : ℕ) (z : ℤ) → lt_z z (pos 0) ≡ true → full - nat_abs z ≡ unsigned_by full z
unfolding unsigned_by
below_abs full (pos n) t = let g = ltb-true n 0 t in let a : ⊥ = omega arith in absurd a
below_abs full (negsuc k) t = refl

pub above_abs : (full : ℕ) (z : ℤ) → lt_z z (pos 0) ≡ false → nat_abs z ≡ unsigned_by full z
unfolding unsigned_by
above_abs full (pos n) t = refl
above_abs full (negsuc k) t = let g : ◌≡◌ {A = ℕ} 0 1 = cc in let a : ⊥ = omega arith in absurd a
