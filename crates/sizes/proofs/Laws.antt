-- Laws of the sizes of a frame's parts.
--     null-le, channel-few    a null and a channel number take few octets
--     sequences-item-few, head_few    and so do 06 and a frame's head
--     held_by      whether sequences fit in so many octets, by how many do
-- Assumes nothing.
use mathlib.Core.Path.{◌≡◌, refl, sym}
use mathlib.Core.Bool.{Bool, true, false}
use Prim.Native.Nat.{ℕ, ◌*◌, ◌/◌, ◌≤◌, ◌<◌}
use native.Mathlib.Nat.{le-div_iff_mul-le, div-lt_iff_lt-mul}
use native.Mathlib.Omega.{arith}
use borrow.Author.Tests.{le-leb, lt-leb, leb-true, leb-false}
use lib.Dec.{ltb, leb, eqb}
use Rattle.octets.proofs.Pick.{pick_cases}
use Rattle.values.specs.declared.Bits.{Bits}
use Rattle.sizes.specs.Size.{channel_size, null_size, sequences_size, head_size}

-- A null takes no more than a sample, and a channel number at most 2 octets.
pub null-le : (width : ℕ) (null : Bits) → null_size width null ≤ width
null-le width null = pick_cases (λ (n : ℕ). n ≤ width) (eqb null.width 0) (λ _. omega arith) (λ _. omega arith)

pub channel-few : (k : ℕ) → channel_size k ≤ 2
channel-few k = pick_cases (λ (n : ℕ). n ≤ 2) (ltb k 128) (λ _. omega arith) (λ _. omega arith)

-- 06 and a frame's head take few octets.
pub sequences-item-few : (sequences : ℕ) → sequences_size sequences ≤ 6
sequences-item-few sequences = pick_cases (λ (n : ℕ). n ≤ 6) (eqb sequences 0) (λ _. omega arith) (λ _. omega arith)

pub head_few : (sequences : ℕ) → head_size sequences ≤ 18
unfolding head_size
head_few sequences = omega (arith, sequences-item-few sequences)

-- Sequences fit in where that many do.
pub held_by : (sequences octets most : ℕ) → (octets ≡ 0 → ⊥) → leb sequences (most / octets) ≡ leb (sequences * octets) most
held_by sequences octets most n = by (leb sequences (most / octets)) refl
  where
    some : 0 < octets
    some = omega arith

    by : (t : Bool) → leb sequences (most / octets) ≡ t → t ≡ leb (sequences * octets) most
    by true h = sym (le-leb (sequences * octets) most ((le-div_iff_mul-le some).0 (leb-true sequences (most / octets) h)))
    by false h = sym (lt-leb (sequences * octets) most ((div-lt_iff_lt-mul some).0 (leb-false sequences (most / octets) h)))
