-- Laws of samples that can be laid into a buffer.
--     width_wide      the widths of samples
--     lays_in_lem, in_lays    samples that can be laid
--     no_bits        no samples
--     whole-small, whole_blocks, whole-bits    all samples of a channel
--     single_inside, single_bits    the same, one to a block
--     block_start, gap, block-rest, in_blocks, laid-bits    they lie in the file in blocks, from the block of the first one on
-- Assumes nothing.
use mathlib.Core.Path.{◌≡◌, refl, ap, ◌∙◌}
use mathlib.Core.Bool.{true}
use mathlib.Core.Logic.{inl, inr}
use mathlib.Core.List.{List}
use Prim.Native.Nat.{ℕ, zero, suc, ◌+◌, ◌-◌, ◌*◌, ◌/◌, ◌%◌, ◌≤◌, ◌<◌, min}
use native.Mathlib.Nat.{zero-mul, suc-mul, min-eq_left, min-le_right, add-zero, zero-add, add-mul, mod-lt, div-eq_of_lt, mod-eq_of_lt, div-add-mod', mul-add-div_right, mul-add-mod_self_right}
use native.Mathlib.Decide.{dec_lt}
use native.Mathlib.Omega.{arith}
use borrow.Author.Tests.{leb-true, le-leb}
use lib.Dec.{leb}
use lib.Seq.{sets}
use Rattle.octets.proofs.Pick.{both_split}
use Rattle.values.specs.Sample.{width_of}
use Rattle.values.proofs.Laws.{width_cases, width_other}
use Rattle.layout.proofs.Rows.{cells_some}
use Rattle.standing.specs.Standing.{octets_limit}
use Rattle.spread.specs.declared.Spread.{Spread}
use Rattle.spread.specs.Spread.{width_spread, there_spread, place_spread, bits_spread}
use Rattle.spread.specs.Lies.{Lies}
use Rattle.spread.proofs.Lying.{lies_in_lem, in_lies, there-named, spread_inside}
use Rattle.strides.specs.Laying.{bits_from, lays_in}
use Rattle.strides.specs.Walked.{bits_here, spaced, blocked, Wide, InFile, InBlocks, Layable}
use Rattle.strides.proofs.Walks.{bits-same, even_within, even_is}

-- The widths of samples.
pub width_wide : (k : ℕ) → 0 < width_of k → Wide (width_of k)
width_wide k h = by (dec_lt 8 k)
  where
    by : Dec (8 < k) → Wide (width_of k)
    by (yes l) = let z : ⊥ = omega (arith, width_other k l) in absurd z
    by (no l) = width_cases Wide (inl refl) (inr (inl refl)) (inr (inr (inl refl))) (inr (inr (inr refl))) k (omega arith)

-- ---- samples, block by block

-- The place of a sample that is j after another, from that one's block.
walk-place : (place b G below w first j : ℕ) → 0 < b
    → place + (first / b * G + below) + ((first % b + j) / b * G + (first % b + j) % b * w)
    ≡ place + ((first + j) / b * G + below + (first + j) % b * w)
walk-place place b G below w first j h =
    let e : first + j ≡ first / b * b + (first % b + j) = omega (arith, div-add-mod' first b) in
    let d : (first + j) / b ≡ first / b + (first % b + j) / b = ap (λ (n : ℕ). n / b) e ∙ mul-add-div_right h (first / b) (first % b + j) in
    let m : (first + j) % b ≡ (first % b + j) % b = ap (λ (n : ℕ). n % b) e ∙ mul-add-mod_self_right (first / b) b (first % b + j) in
    rw (d, m, add-mul) (omega arith)

-- Samples that can be laid.
pub lays_in_lem : (size room : ℕ) (x : Spread) (first n at : ℕ) → lays_in size room x first n at ≡ true → Layable size room x first n at
lays_in_lem size room x first n at e =
    let a = both_split (leb (at + n) room) _ e in
    let b = both_split (leb (first + n) (there_spread x)) _ a.1 in
    record { fits = leb-true _ _ a.0; there = leb-true _ _ b.0; lies = lies_in_lem b.1 }

pub in_lays : {size room : ℕ} {x : Spread} {first n at : ℕ} → Layable size room x first n at → lays_in size room x first n at ≡ true
in_lays k = simp (le-leb _ _ k.fits, le-leb _ _ k.there, in_lies k.lies)

-- The first octet of the block of a sample.
abbrev pub block_start : Spread → ℕ → ℕ
block_start x first = x.place + (first / x.block * x.octets + x.below)

-- How far apart blocks are, as it is computed.
abbrev pub gap : Spread → ℕ
gap x = min x.octets octets_limit

-- It is what is used of it.
gap_same : (q G L : ℕ) → q * G ≤ L → q * min G L ≡ q * G
gap_same zero G L h = simp zero-mul
gap_same (suc q) G L h = ap (λ (g : ℕ). suc q * g) (min-eq_left (omega (arith, suc-mul q G)))

module _ {size room : ℕ} {x : Spread} {first n at : ℕ} (h : 0 < n) (k : Layable size room x first n at) where
  l : Lies size x
  l = k.lies

  one : first < there_spread x
  one = omega (arith, k.there)

  pub block-some : 0 < x.block
  block-some = cells_some x.sequences x.block first (there-named x first one)

  inside : (j : ℕ) → j < n → place_spread x (first + j) + width_spread x ≤ size
  inside j i = spread_inside l (first + j) (omega (arith, k.there))

  walked : (j : ℕ) → j < n → block_start x first + ((first % x.block + j) / x.block * gap x + (first % x.block + j) % x.block * width_spread x) ≡ place_spread x (first + j)
  walked j i =
      let e = walk-place x.place x.block x.octets x.below (width_spread x) first j block-some in
      rw (gap_same ((first % x.block + j) / x.block) x.octets octets_limit (omega (arith, inside j i, l.small))) e

  pub start-inside : block_start x first + first % x.block * width_spread x ≤ octets_limit
  start-inside = omega (arith, spread_inside l first one, l.small)

  -- The number of the sample in its block, as it is computed.
  pub block-rest : (first / x.block * x.block ≤ first) × (first - first / x.block * x.block ≡ first % x.block)
  block-rest = let e = div-add-mod' first x.block in (omega arith, omega arith)

  pub in_blocks : InBlocks size (block_start x first) (first % x.block) x.block (gap x) (width_spread x) n
  in_blocks =
      record {
        small = l.small;
        apart = min-le_right _ _;
        low = mod-lt first block-some;
        starts = omega (arith, spread_inside l first one);
        each = λ j i. rw (walked j i) (inside j i);
      }

  -- The samples of the blocks are those of the channel.
  pub laid-bits : (s : List ℕ) → bits_from (blocked x.little (width_spread x) s (block_start x first) x.block (gap x)) (first % x.block) n ≡ bits_from (bits_spread s x) first n
  unfolding blocked
  laid-bits s =
      bits-same (blocked x.little (width_spread x) s (block_start x first) x.block (gap x)) (bits_spread s x) (first % x.block) first n
      (λ j i. ap (bits_here x.little (width_spread x) s) (walked j i))

-- All samples of a channel, from its first block on.
module _ {size room : ℕ} {x : Spread} {n at : ℕ} (h : 0 < n) (k : Layable size room x 0 n at) where
  front : block_start x 0 ≡ x.place + x.below
  front = rw (div-eq_of_lt (block-some h k), zero-mul, zero-add)

  pub whole-small : x.place + x.below ≤ octets_limit
  whole-small = omega (arith, start-inside h k, front)

  pub whole_blocks : InBlocks size (x.place + x.below) 0 x.block (gap x) (width_spread x) n
  whole_blocks = rw (front, mod-eq_of_lt (block-some h k)) at (in_blocks h k)

  pub whole-bits : (s : List ℕ) → bits_from (blocked x.little (width_spread x) s (x.place + x.below) x.block (gap x)) 0 n ≡ bits_from (bits_spread s x) 0 n
  whole-bits s = rw (front, mod-eq_of_lt (block-some h k)) at (laid-bits h k s)

  -- One to a block, they are a sequence apart.
  module _ {w : ℕ} (one : x.block ≡ 1) (e : w ≡ width_spread x) where
    pub single_inside : InFile size (x.place + x.below) (gap x) n w
    single_inside = rw e (rw (zero-mul, add-zero) at (even_within size (x.place + x.below) 0 x.block (gap x) (width_spread x) n whole_blocks (inl (one, refl)) (width_wide _ k.lies.wide)))

    pub single_bits : (s : List ℕ) → spaced x.little w s (gap x) (x.place + x.below) n ≡ bits_from (bits_spread s x) 0 n
    single_bits s = rw e ((rw (zero-mul, add-zero) at (even_is size (x.place + x.below) 0 x.block (gap x) (width_spread x) n whole_blocks (inl (one, refl)) x.little s)) ∙ whole-bits s)

-- No samples leave a buffer as it is.
pub no_bits : (g : ℕ → ℕ) (first n at : ℕ) {out : List ℕ} → n ≤ 0 → out ≡ sets out at (bits_from g first n)
unfolding bits_from
no_bits g first n at {out} h = let e : n ≡ 0 = omega arith in rw e
