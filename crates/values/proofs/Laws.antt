-- Laws of a sample's value.
--     nan_yes, nan_no    the test that tells a float that is no number, for any format
--     type_cases, width_cases    what holds of each data type, and of the widths that they have
--     three, width_some, width_le, plain_signed, plain_unsigned    the tables by data type
--     width_other, plain_other, past    and at a number that is no type
--     low-bits, low_below    the bits of the sample's width
--     null_yes, null_no    null comes first
--     bits-kept    a float that is a number has its bits
-- Assumes nothing.
use mathlib.Core.Path.{◌≡◌, refl, sym, subst, ◌∙◌}
use mathlib.Core.Logic.{◌⊎◌, inl, inr, ⊎_elim}
use mathlib.Core.Bool.{Bool, true, false, not}
use Prim.Native.Nat.{ℕ, zero, suc, ◌*◌, ◌%◌, ◌<◌, ◌≤◌}
use native.Mathlib.Decide.{dec_lt}
use native.Mathlib.Nat.{mod-lt, mod-eq_of_lt}
use native.Mathlib.Omega.{arith}
use borrow.Author.Tests.{lt-ltb, le-ltb, eq-eqb, ne_eqb}
use lib.Dec.{T, lit≤, lit<}
use lib.Ieee.{Format, of_bits, to_bits, nan_bits, ones, hid, top}
use lib.Ieee.Bits.{nan_bits_is, nan_bits_above, to_bits-of_bits}
use lib.IntN.{pos}
use lib.ListN.{get_or-eq_default}
use Rattle.octets.specs.Number.{range, twos}
use Rattle.octets.proofs.Laws.{range_pos}
use Rattle.octets.proofs.Pick.{both_false}
use Rattle.values.specs.declared.Bits.{Bits}
use Rattle.values.specs.Sample.{width_of, whole_said, null_said, plain_of, is_null, low_bits, value_of}

-- A float is no number where its bits without the sign are above infinity's.
module _ (f : Format) (n : ℕ) where
  pub nan_yes : ones f * hid f < n % top f → nan_bits f n ≡ true
  nan_yes h = nan_bits_above f n ∙ lt-ltb _ _ h

  pub nan_no : n % top f ≤ ones f * hid f → nan_bits f n ≡ false
  nan_no h = nan_bits_above f n ∙ le-ltb _ _ h

-- A float that is a number has exactly the bits that it was made of.
pub bits-kept : (f : Format) (n : ℕ) → n < 2 * top f → nan_bits f n ≡ false → to_bits f (of_bits f n) ≡ n
bits-kept f n h e = to_bits-of_bits f n h (subst (λ (b : Bool). T (not b)) (sym e ∙ nan_bits_is f n) tt)

-- What holds of three numbers holds of one that is among them.
pub three : (P : ℕ → Type 0) {a b c k : ℕ} → P a → P b → P c → (k ≡ a) ⊎ ((k ≡ b) ⊎ (k ≡ c)) → P k
three P p q r h = ⊎_elim (λ e. rw e p) (⊎_elim (λ e. rw e q) (λ e. rw e r)) h

-- What holds of each data type, and of a number that is none, holds of every number.
pub type_cases : (P : ℕ → Type 0) → P 0 → P 1 → P 2 → P 3 → P 4 → P 5 → P 6 → P 7 → P 8 → ((k : ℕ) → 9 ≤ k → P k) → (k : ℕ) → P k
type_cases P p0 p1 p2 p3 p4 p5 p6 p7 p8 other zero = p0
type_cases P p0 p1 p2 p3 p4 p5 p6 p7 p8 other (suc zero) = p1
type_cases P p0 p1 p2 p3 p4 p5 p6 p7 p8 other (suc (suc zero)) = p2
type_cases P p0 p1 p2 p3 p4 p5 p6 p7 p8 other (suc (suc (suc zero))) = p3
type_cases P p0 p1 p2 p3 p4 p5 p6 p7 p8 other (suc (suc (suc (suc zero)))) = p4
type_cases P p0 p1 p2 p3 p4 p5 p6 p7 p8 other (suc (suc (suc (suc (suc zero))))) = p5
type_cases P p0 p1 p2 p3 p4 p5 p6 p7 p8 other (suc (suc (suc (suc (suc (suc zero)))))) = p6
type_cases P p0 p1 p2 p3 p4 p5 p6 p7 p8 other (suc (suc (suc (suc (suc (suc (suc zero))))))) = p7
type_cases P p0 p1 p2 p3 p4 p5 p6 p7 p8 other (suc (suc (suc (suc (suc (suc (suc (suc zero)))))))) = p8
type_cases P p0 p1 p2 p3 p4 p5 p6 p7 p8 other (suc (suc (suc (suc (suc (suc (suc (suc (suc k))))))))) = other _ (omega arith)

-- At a number that is no data type.
pub width_other : (k : ℕ) → 9 ≤ k → 0 ≡ width_of k
unfolding width_of
width_other k h = rw get_or-eq_default

pub plain_other : (k n : ℕ) → 9 ≤ k → whole_said (pos 0) ≡ plain_of k n
unfolding plain_of
plain_other k n h = rw get_or-eq_default

-- What holds of the widths 1, 2, 4 and 8 holds of the width of each data type.
pub width_cases : (P : ℕ → Type 0) → P 1 → P 2 → P 4 → P 8 → (k : ℕ) → k ≤ 8 → P (width_of k)
unfolding width_of
width_cases P one two four eight =
    type_cases (λ (k : ℕ). k ≤ 8 → P (width_of k))
    (λ _. two) (λ _. two) (λ _. four) (λ _. one) (λ _. two) (λ _. one) (λ _. four) (λ _. four) (λ _. eight)
    (λ k h l. let z : ⊥ = omega arith in absurd z)

-- A sample of a data type has octets.
pub width_some : (k : ℕ) → k ≤ 8 → 0 < width_of k
width_some = width_cases (λ (w : ℕ). 0 < w) (lit< tt) (lit< tt) (lit< tt) (lit< tt)

-- No sample is wider than eight octets.
pub width_le : (k : ℕ) → width_of k ≤ 8
width_le k = by (dec_lt 8 k)
  where
    by : Dec (8 < k) → width_of k ≤ 8
    by (yes h) = omega (arith, width_other k h)
    by (no h) = width_cases (λ (w : ℕ). w ≤ 8) (lit≤ tt) (lit≤ tt) (lit≤ tt) (lit≤ tt) k (omega arith)

-- The signed data types, and the unsigned ones.
module _ (k n : ℕ) where
  pub plain_signed : (k ≡ 0) ⊎ ((k ≡ 2) ⊎ (k ≡ 5)) → whole_said (twos (width_of k) n) ≡ plain_of k n
  unfolding plain_of
  plain_signed h = three (λ (j : ℕ). whole_said (twos (width_of j) n) ≡ plain_of j n) refl refl refl h

  pub plain_unsigned : (k ≡ 1) ⊎ ((k ≡ 3) ⊎ (k ≡ 6)) → whole_said (pos n) ≡ plain_of k n
  unfolding plain_of
  plain_unsigned h = three (λ (j : ℕ). whole_said (pos n) ≡ plain_of j n) refl refl refl h

-- A number that is at least j, and not j, is above it.
pub past : {k j : ℕ} → j ≤ k → (k ≡ j → ⊥) → suc j ≤ k
past h n = omega arith

-- Bits of the sample's width are all looked at.
pub low-bits : (k n : ℕ) → n < range (width_of k) → low_bits k n ≡ n
low-bits k n h = mod-eq_of_lt h

pub low_below : (k n : ℕ) → low_bits k n < range (width_of k)
low_below k n = mod-lt n (range_pos (width_of k))

-- Null comes first: it is defined and its bits are the sample's, or the data type decides.
module _ (k n : ℕ) (u : Bits) where
  pub null_yes : (u.width ≡ 0 → ⊥) → u.bits ≡ n → null_said ≡ value_of k u n
  unfolding value_of is_null
  null_yes h q = simp (ne_eqb _ _ h, eq-eqb _ _ q)

  pub null_no : (u.width ≡ 0) ⊎ (u.bits ≡ n → ⊥) → plain_of k n ≡ value_of k u n
  unfolding value_of is_null
  null_no (inl h) = simp (eq-eqb _ _ h)
  null_no (inr h) = simp (ne_eqb _ _ h, both_false)
