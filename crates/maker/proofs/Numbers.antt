-- Laws of whole numbers that are handed over.
--     below-outside, low-outside, within_by, within_low, within_high    a number in a range, by its tests
--     is_natural, below_natural, natural_is, natural_fits    a number that is none below 0
--     exponent_small, mantissa-small             an exponent and a mantissa that fit
--     null-none                                  a null width of 0
-- Assumes nothing.
use mathlib.Core.Path.{◌≡◌, refl}
use mathlib.Core.Bool.{Bool, true, false}
use Prim.Native.Nat.{ℕ, suc, ◌-◌, ◌^◌, ◌≤◌, ◌<◌}
use native.Mathlib.Omega.{arith}
use borrow.Author.Tests.{leb-true, le-leb, lt-leb, le-ltb, ne_eqb}
use lib.Dec.{T, eqb, leb}
use lib.IntN.{ℤ, pos, negsuc, nat_abs}
use lib.Signed.{mag, lt_z, non_neg}
use mir.Syntax.{w64}
use mir.Val.{SFits, of_z}
use Rattle.octets.proofs.Pick.{both_split}
use Rattle.maker.specs.Given.{within, exponent_fits, last_mantissa, natural_of, no_null}

-- Two truths that differ.
never : {b : Bool} {X : Type 0} → b ≡ true → b ≡ false → X
never e f = let z : ◌≡◌ {A = ℕ} 0 1 = cc in let w : ⊥ = omega arith in absurd w

pub below-outside : (low high : ℕ) (z : ℤ) → lt_z z (pos 0) ≡ true → false ≡ within low high z
below-outside low high (pos n) e = never e (le-ltb n 0 (omega arith))
below-outside low high (negsuc k) e = refl

pub low-outside : (low high : ℕ) (z : ℤ) → lt_z z (pos 0) ≡ false → nat_abs z < low → false ≡ within low high z
low-outside low high (pos n) e h = rw (lt-leb low n h)
low-outside low high (negsuc k) e h = refl

pub within_by : (low high : ℕ) (z : ℤ) → lt_z z (pos 0) ≡ false → low ≤ nat_abs z → leb (nat_abs z) high ≡ within low high z
within_by low high (pos n) e h = rw (le-leb low n h)
within_by low high (negsuc k) e h = never refl e

pub is_natural : (z : ℤ) → lt_z z (pos 0) ≡ false → T (non_neg z)
is_natural (pos n) e = tt
is_natural (negsuc k) e = never refl e

pub below_natural : (z : ℤ) → lt_z z (pos 0) ≡ true → ◌≡◌ {A = ℕ} 0 (natural_of z)
below_natural (pos n) e = never e (le-ltb n 0 (omega arith))
below_natural (negsuc k) e = refl

pub natural_is : (z : ℤ) → lt_z z (pos 0) ≡ false → nat_abs z ≡ natural_of z
natural_is (pos n) e = refl
natural_is (negsuc k) e = never refl e

pub natural_fits : (z : ℤ) → lt_z z (pos 0) ≡ false → mag z < 2 ^ 63 → nat_abs z < 2 ^ 64
natural_fits (pos n) e h = omega arith
natural_fits (negsuc k) e h = never refl e

pub within_low : (low high : ℕ) (z : ℤ) → within low high z ≡ true → low ≤ natural_of z
within_low low high (pos n) e = leb-true low n (both_split (leb low n) (leb n high) e).0
within_low low high (negsuc k) e = never e refl

pub within_high : (low high : ℕ) (z : ℤ) → within low high z ≡ true → natural_of z ≤ high
within_high low high (pos n) e = leb-true n high (both_split (leb low n) (leb n high) e).1
within_high low high (negsuc k) e = omega arith

pub exponent_small : (z : ℤ) → exponent_fits z ≡ true → mag z < 2 ^ 7
unfolding exponent_fits
exponent_small (pos n) e = omega (arith, leb-true n 127 e)
exponent_small (negsuc k) e = omega (arith, leb-true k 127 (both_split (leb k 127) true e).0)

pub mantissa-small : (z : ℤ) → within 1 last_mantissa z ≡ true → mag z < 2 ^ 31
mantissa-small (pos n) e = omega (arith, leb-true n last_mantissa (both_split (leb 1 n) (leb n last_mantissa) e).1)
mantissa-small (negsuc k) e = never e refl

pub null-none : (z : ℤ) → SFits w64 z → eqb (of_z w64 z) 0 ≡ no_null z
null-none (pos n) f = refl
null-none (negsuc k) f = ne_eqb (2 ^ 64 - suc k) 0 (λ e. omega (arith, f.sfits))
