-- What is told of a sample's bits is the kind and the whole number of its value.
--     shape_other     the shape of the data types that have none of their own
--     told_null, told_number    null comes first
--     told_is         what is told of a sample's bits
-- Assumes nothing.
use mathlib.Core.Path.{◌≡◌, refl, sym, ap, ◌∙◌}
use mathlib.Core.Logic.{◌⊎◌, inl, inr}
use mathlib.Core.Bool.{Bool, true, false}
use Prim.Native.Nat.{ℕ, suc, ◌*◌, ◌-◌, ◌%◌, ◌<◌, ◌≤◌}
use native.Mathlib.Decide.{dec_lt}
use native.Mathlib.Nat.{mod-eq_of_lt, mod-eq-sub-mod}
use native.Mathlib.Omega.{arith}
use borrow.Author.Tests.{lt-ltb, le-ltb, le-leb, lt-leb, eq-eqb, ne_eqb}
use lib.Dec.{ltb}
use lib.Ieee.{Format, binary32, binary64, nan_bits, ones, hid, top}
use lib.Ieee.Bits.{nan_bits_above}
use lib.IntN.{pos}
use lib.ListN.{get_or-eq_default}
use Rattle.octets.specs.Pick.{pick}
use Rattle.octets.proofs.Pick.{both_false}
use Rattle.octets.specs.Number.{range, twos}
use Rattle.values.specs.declared.Bits.{Bits}
use Rattle.values.specs.declared.Meaning.{Meaning}
use Rattle.values.specs.declared.Shape.{Shape}
use Rattle.values.specs.Sample.{Said, width_of, single_said, double_said, not_number_said, single_of, double_of, plain_of, is_null, value_of, null_said}
use Rattle.values.specs.Told.{telling, told_as, unsigned, shape_of, meaning_of, whole_told, signless, number_told, told_of}
use Rattle.values.proofs.Laws.{type_cases, width_other, plain_other}

-- A data type that has no shape of its own is unsigned; so is a number that is no data type.
shape_past : (k : ℕ) → 9 ≤ k → unsigned ≡ shape_of k
unfolding shape_of
shape_past k h = rw get_or-eq_default

pub shape_other : (k : ℕ) → (k ≡ 0 → ⊥) → (k ≡ 2 → ⊥) → (k ≡ 4 → ⊥) → (k ≡ 5 → ⊥) → (k ≡ 7 → ⊥) → (k ≡ 8 → ⊥) → unsigned ≡ shape_of k
unfolding shape_of
shape_other =
    type_cases (λ (k : ℕ). (k ≡ 0 → ⊥) → (k ≡ 2 → ⊥) → (k ≡ 4 → ⊥) → (k ≡ 5 → ⊥) → (k ≡ 7 → ⊥) → (k ≡ 8 → ⊥) → unsigned ≡ shape_of k)
    (λ a b c d e f. absurd (a refl)) (λ a b c d e f. refl) (λ a b c d e f. absurd (b refl)) (λ a b c d e f. refl) (λ a b c d e f. absurd (c refl))
    (λ a b c d e f. absurd (d refl)) (λ a b c d e f. refl) (λ a b c d e f. absurd (e refl)) (λ a b c d e f. absurd (f refl))
    (λ k h a b c d e f. shape_past k h)

-- ---- whole numbers

told_signed : (w last high b : ℕ) → 2 * suc last ≡ range w → suc high ≡ range w → b < range w → whole_told last high b ≡ twos w b
unfolding whole_told twos
told_signed w last high b e f h = by (dec_lt last b)
  where
    by : Dec (last < b) → whole_told last high b ≡ twos w b
    by (yes l) =
        let k : range w ≤ 2 * b = omega arith in
        let d : high - b ≡ range w - suc b = omega arith in
        let m : b ≤ high = omega arith in
        simp (lt-leb _ _ l, le-leb _ _ m, le-ltb _ _ k, d)
    by (no l) =
        let k : 2 * b < range w = omega arith in
        let m : b ≤ last = omega arith in
        simp (le-leb _ _ m, lt-ltb _ _ k)

told_unsigned : (last high b : ℕ) → b ≤ last → whole_told last high b ≡ pos b
unfolding whole_told
told_unsigned last high b h = simp (le-leb _ _ h)

-- ---- floats

signless-is : (sign b : ℕ) → b < 2 * sign → signless sign b ≡ b % sign
unfolding signless
signless-is sign b h = by (dec_lt b sign)
  where
    by : Dec (b < sign) → signless sign b ≡ b % sign
    by (yes l) = simp (lt-ltb _ _ l) (sym (mod-eq_of_lt l))
    by (no l) =
        let k : sign ≤ b = omega arith in
        let m : b - sign < sign = omega arith in
        simp (le-ltb _ _ k) (sym (mod-eq-sub-mod k ∙ mod-eq_of_lt m))

float_told : (f : Format) (b : ℕ) → b < 2 * top f → ltb (ones f * hid f) (signless (top f) b) ≡ nan_bits f b
float_told f b h = ap (ltb (ones f * hid f)) (signless-is (top f) b h) ∙ sym (nan_bits_above f b)

-- ---- null comes first

module _ (m : Meaning) (b : ℕ) where
  pub told_null : (m.null.width ≡ 0 → ⊥) → m.null.bits ≡ b → telling 5 (pos 0) ≡ told_of m b
  unfolding told_of is_null
  told_null h q = simp (ne_eqb _ _ h, eq-eqb _ _ q)

  pub told_number : (m.null.width ≡ 0) ⊎ (m.null.bits ≡ b → ⊥) → number_told m.shape b ≡ told_of m b
  unfolding told_of is_null
  told_number (inl h) = simp (eq-eqb _ _ h)
  told_number (inr h) = simp (ne_eqb _ _ h, both_false)

-- ---- a sample's bits

-- A float: no number, or of its kind.
told_float : (t : Bool) (f : ℕ → Said) (n : ℕ) → pick t (telling 4 (pos 0)) (told_as (f n)) ≡ told_as (pick t (not_number_said n) (f n))
told_float true f n = refl
told_float false f n = refl

-- No status word is a float.
status_told : (b : ℕ) → b < 0x1_0000 → ltb 0xFFFF (signless 0x1_0000 b) ≡ false
unfolding signless
status_told b h = let k : b ≤ 0xFFFF = omega arith in simp (lt-ltb _ _ h, le-ltb _ _ k)

-- The bits of no octets are 0.
number_past : (b k : ℕ) → 9 ≤ k → b < range (width_of k) → number_told (shape_of k) b ≡ told_as (plain_of k b)
unfolding number_told
number_past b k p h =
    let l : b < 1 = rw (← width_other k p) at h in
    let z : b ≡ 0 = omega arith in
    ap (λ (x : Shape). number_told x b) (sym (shape_past k p))
    ∙ ap (telling 0) (told_unsigned 0xFFFF_FFFF 0xFFFF_FFFF b (omega arith) ∙ ap pos z)
    ∙ ap told_as (plain_other k b p)

-- By data type, null aside.
number_is : (b k : ℕ) → b < range (width_of k) → number_told (shape_of k) b ≡ told_as (plain_of k b)
unfolding number_told shape_of plain_of width_of single_of double_of
number_is b =
    type_cases (λ (k : ℕ). b < range (width_of k) → number_told (shape_of k) b ≡ told_as (plain_of k b))
    (λ h. ap (telling 0) (told_signed 2 0x7FFF 0xFFFF b refl refl h))
    (λ h. ap (telling 0) (told_unsigned 0xFFFF_FFFF 0xFFFF_FFFF b (omega arith)))
    (λ h. ap (telling 0) (told_signed 4 0x7FFF_FFFF 0xFFFF_FFFF b refl refl h))
    (λ h. ap (telling 0) (told_unsigned 0xFFFF_FFFF 0xFFFF_FFFF b (omega arith)))
    (λ h. ap (λ (t : Bool). pick t (telling 4 (pos 0)) (telling 1 (pos 0))) (status_told b h))
    (λ h. ap (telling 0) (told_signed 1 0x7F 0xFF b refl refl h))
    (λ h. ap (telling 0) (told_unsigned 0xFFFF_FFFF 0xFFFF_FFFF b (omega arith)))
    (λ h. ap (λ (t : Bool). pick t (telling 4 (pos 0)) (telling 2 (pos 0))) (float_told binary32 b h) ∙ told_float (nan_bits binary32 b) single_said b)
    (λ h. ap (λ (t : Bool). pick t (telling 4 (pos 0)) (telling 3 (pos 0))) (float_told binary64 b h) ∙ told_float (nan_bits binary64 b) double_said b)
    (λ k p h. number_past b k p h)

-- What is told of a sample's bits is the kind and the whole number of its value.
pub told_is : (k : ℕ) (null : Bits) (b : ℕ) → b < range (width_of k) → told_of (meaning_of k null) b ≡ told_as (value_of k null b)
unfolding told_of value_of
told_is k null b h = ap (pick (is_null null b) (telling 5 (pos 0))) (number_is b k h) ∙ either (is_null null b) (plain_of k b)
  where
    either : (t : Bool) (x : Said) → pick t (telling 5 (pos 0)) (told_as x) ≡ told_as (pick t null_said x)
    either true x = refl
    either false x = refl
