-- Laws of the effect of an item of which only the first octets of its value are kept: no definition has more than 34 octets, so 35 decide.
--     plain_kept, member_kept    the same effect, by the first 35 octets of the value
-- Assumes nothing.
use Rattle.std.specs.Prelude.{Err, Option, Some, None}
use Prim.Native.Nat.{ℕ, ◌≤◌, ◌<◌}
use mathlib.Core.Path.{◌≡◌, refl}
use mathlib.Core.List.{List}
use mathlib.Core.Bool.{Bool, false}
use native.Mathlib.Omega.{arith}
use native.Mathlib.Decide.{dec_lt}
use borrow.Author.Tests.{lt-ltb, ne_eqb, lt-leb, le-leb}
use lib.IntN.{ℤ}
use lib.ListN.{length, take}
use lib.Seq.{take_all, length-take-le}
use Rattle.heads.specs.declared.Fault.TheVariants.{UnfitLength, Compressed}
use Rattle.settings.specs.declared.Settings.{Settings}
use Rattle.definitions.specs.declared.Attribute.{Attribute}
use Rattle.definitions.specs.Define.{defined, length_fits, scale_length, bits_length}
use Rattle.standing.specs.declared.Standing.{Standing}
use Rattle.effects.specs.Effects.{order_effect, count_effect, sequences_effect, start_effect, compressed_effect, root_effect, plain_effect, member_effect}

-- ---- a long value

module _ (v : List ℕ) (h : 34 < length v) where
  order_long : order_effect v ≡ Err UnfitLength
  unfolding order_effect
  order_long = let k : 1 < length v = omega arith in simp (lt-ltb 1 (length v) k)

  above_four : 4 < length v
  above_four = omega arith

  count_long : (little : Bool) → count_effect little v ≡ Err UnfitLength
  unfolding count_effect
  count_long little = simp (lt-ltb 4 (length v) above_four)

  sequences-long : (little : Bool) → sequences_effect little v ≡ Err UnfitLength
  unfolding sequences_effect
  sequences-long little = simp (lt-ltb 4 (length v) above_four)

  start-long : (little : Bool) (z : ℤ) → start_effect little z v ≡ Err UnfitLength
  unfolding start_effect
  start-long little z = simp (lt-ltb 4 (length v) above_four)

  not-long : (n : ℕ) → n ≤ 34 → length v ≡ n → ⊥
  not-long n k e = omega arith

  compressed-long : compressed_effect v ≡ Err Compressed
  unfolding compressed_effect
  compressed-long = simp (ne_eqb (length v) 0 (not-long 0 (omega arith)))

  scale_long : scale_length (length v) ≡ false
  scale_long =
      let a : 3 ≤ length v = omega arith in
      let b : 6 < length v = omega arith in
      simp (ne_eqb (length v) 0 (not-long 0 (omega arith)), le-leb 3 (length v) a, lt-leb (length v) 6 b)

  bits-long : bits_length (length v) ≡ false
  bits-long =
      let a : 2 < length v = omega arith in
      simp (lt-leb (length v) 2 a, ne_eqb (length v) 4 (not-long 4 (omega arith)), ne_eqb (length v) 8 (not-long 8 (omega arith)))

  fits-long : (a : Attribute) → length_fits a (length v) ≡ false
  fits-long Attribute.Block = lt-leb (length v) 4 above_four
  fits-long Attribute.Class = lt-leb (length v) 34 h
  fits-long Attribute.Lead = lt-leb (length v) 34 h
  fits-long Attribute.DataType = lt-leb (length v) 1 (omega arith)
  fits-long Attribute.Interval = scale_long
  fits-long Attribute.Resolution = scale_long
  fits-long Attribute.Offset = bits-long
  fits-long Attribute.Null = bits-long

  defined-long : (a : Attribute) (little : Bool) (base : Settings) → defined a little base v ≡ Err UnfitLength
  unfolding defined
  defined-long a little base = simp (fits-long a)

-- Two long values have the same effect, wherever they start.
module _ (u v : List ℕ) (h : 34 < length u) (k : 34 < length v) (st : Standing) where
  root_longs : (tag a b : ℕ) → (tag ≡ 0x1E → ⊥) → root_effect st tag a u ≡ root_effect st tag b v
  unfolding root_effect
  root_longs tag a b n =
      simp
      (order_long u h, order_long v k, count_long u h, count_long v k, sequences-long u h, sequences-long v k, start-long u h, start-long v k, compressed-long u h, compressed-long v k, ne_eqb tag 0x1E n)

  plain_longs : (tag a b : ℕ) → (tag ≡ 0x1E → ⊥) → (t : Option Attribute) → plain_effect st tag a u t ≡ plain_effect st tag b v t
  unfolding plain_effect
  plain_longs tag a b n (Some x) = simp (defined-long u h, defined-long v k)
  plain_longs tag a b n None = root_longs tag a b n

  member_longs : (channel : ℕ) (t : Option Attribute) → member_effect st channel u t ≡ member_effect st channel v t
  unfolding member_effect
  member_longs channel (Some x) = simp (defined-long u h, defined-long v k)
  member_longs channel None = refl

-- ---- the first 35 octets decide

cut_long : (v : List ℕ) → 34 < length v → 34 < length (take 35 v)
cut_long v h = rw (length-take-le 35 v h) (omega arith)

-- Only a frame looks at where its value starts.
module _ (st : Standing) (tag a b : ℕ) (v : List ℕ) (n : tag ≡ 0x1E → ⊥) where
  root_start : root_effect st tag a v ≡ root_effect st tag b v
  unfolding root_effect
  root_start = simp (ne_eqb tag 0x1E n)

  plain_start : (t : Option Attribute) → plain_effect st tag a v t ≡ plain_effect st tag b v t
  unfolding plain_effect
  plain_start (Some x) = refl
  plain_start None = root_start

pub plain_kept : (st : Standing) (tag a b : ℕ) (v : List ℕ) → (tag ≡ 0x1E → ⊥) → (t : Option Attribute) → plain_effect st tag a v t ≡ plain_effect st tag b (take 35 v) t
plain_kept st tag a b v n t = by (dec_lt 34 (length v))
  where
    by : Dec (34 < length v) → plain_effect st tag a v t ≡ plain_effect st tag b (take 35 v) t
    by (yes h) = plain_longs v (take 35 v) h (cut_long v h) st tag a b n t
    by (no h) = rw (take_all 35 v (omega arith)) (plain_start st tag a b v n t)

pub member_kept : (st : Standing) (channel : ℕ) (v : List ℕ) (t : Option Attribute) → member_effect st channel v t ≡ member_effect st channel (take 35 v) t
member_kept st channel v t = by (dec_lt 34 (length v))
  where
    by : Dec (34 < length v) → member_effect st channel v t ≡ member_effect st channel (take 35 v) t
    by (yes h) = member_longs v (take 35 v) h (cut_long v h) st channel t
    by (no h) = rw (take_all 35 v (omega arith)) refl
