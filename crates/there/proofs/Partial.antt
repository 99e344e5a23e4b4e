-- What the octets of the samples there leave.
--     partial_sum      the octets of samples that end in the first octets of a sequence, and those of a sample that is cut off
--     there_cut        the octets of the samples there, of a waveform that ends before the sequences do
--     cut_some         such sequences have octets
--     partial_even, there_even    the same of samples of one width
--     Cutting, cutting_first, cutting_block, cutting_end, cutting_past    the loop over channels that finds what is left
-- Assumes nothing.
use Prim.Native.Nat.{ℕ, suc, ◌+◌, ◌-◌, ◌*◌, ◌/◌, ◌%◌, ◌≤◌, ◌<◌}
use mathlib.Core.Path.{◌≡◌, refl, sym, ◌∙◌, ap}
use mathlib.Core.List.{List, [], ◌∷◌}
use native.Mathlib.Nat.{mul_assoc, div-add-mod', mod-lt, zero-mod, min-eq_right, add-mul-mod_self_right}
use native.Mathlib.Numerals.{add-one}
use native.Mathlib.Decide.{dec_lt}
use native.Mathlib.Omega.{arith}
use borrow.Author.Tests.{le-leb, lt-leb}
use lib.ListN.{length, get_or, drop, drop_of_length-le}
use lib.Seq.{drop-cons}
use Rattle.settings.specs.declared.Settings.{Settings}
use Rattle.layout.specs.Frame.{width_in, block_octets, sequence_octets}
use Rattle.layout.proofs.Rows.{cells_some}
use Rattle.laid.specs.Turned.{sequence_samples, Even}
use Rattle.laid.proofs.Turned.{octets_even}
use Rattle.there.specs.There.{part_octets, there_octets, partial_octets}
use Rattle.there.proofs.Places.{part_block, part_some, part_le, there-min}

pub partial_block : (c : Settings) (cs : List Settings) (x : ℕ) → block_octets c ≤ x → partial_octets (c ∷ cs) x ≡ partial_octets cs (x - block_octets c)
unfolding partial_octets
partial_block c cs x h = rw (le-leb (block_octets c) x h)

pub partial_some : (c : Settings) (cs : List Settings) (x : ℕ) → x < block_octets c → partial_octets (c ∷ cs) x ≡ x % width_in c
unfolding partial_octets
partial_some c cs x h = rw (lt-leb (block_octets c) x h)

pub partial_sum : (cs : List Settings) (x : ℕ) → part_octets cs x + partial_octets cs x ≡ x
unfolding part_octets partial_octets
partial_sum [] x = omega arith
partial_sum (c ∷ cs) x = by (dec_lt x (block_octets c)) (partial_sum cs (x - block_octets c))
  where
    by : Dec (x < block_octets c) → part_octets cs (x - block_octets c) + partial_octets cs (x - block_octets c) ≡ x - block_octets c → part_octets (c ∷ cs) x + partial_octets (c ∷ cs) x ≡ x
    by (yes a) e = omega (arith, part_some c cs x a, partial_some c cs x a, div-add-mod' x (width_in c))
    by (no a) e = omega (arith, part_block c cs x (omega arith), partial_block c cs x (omega arith))

module _ (cs : List Settings) (S long : ℕ) where
  abbrev G : ℕ
  G = sequence_octets cs

  pub there_cut : long < S * G → there_octets cs S long ≡ long - partial_octets cs (long % G)
  there_cut h =
      let e = partial_sum cs (long % G) in
      let k : long / G * G + part_octets cs (long % G) ≤ S * G = omega (arith, part_le cs (long % G), div-add-mod' long G) in
      there-min cs S long ∙ min-eq_right k ∙ omega (arith, div-add-mod' long G)

  -- A sequence that the waveform cannot hold has octets.
  pub cut_some : long < S * G → 0 < G
  cut_some h = cells_some S G long h

-- ---- one width

-- Whole samples less change nothing of what is left.
less_rest : (w b x : ℕ) → b * w ≤ x → (x - b * w) % w ≡ x % w
less_rest w b x h =
    let e : x - b * w + b * w ≡ x = omega arith in
    sym (ap (λ (t : ℕ). t % w) (sym e) ∙ add-mul-mod_self_right (x - b * w) b w)

pub partial_even : (w : ℕ) (cs : List Settings) → Even w cs → (x : ℕ) → x ≤ sequence_octets cs → partial_octets cs x ≡ x % w
unfolding sequence_octets partial_octets block_octets
partial_even w [] f x h = let z : x ≡ 0 = omega arith in rw z (sym (zero-mod w))
partial_even w (c ∷ cs) f x h = by (dec_lt x (block_octets c)) (partial_even w cs (λ i l. f (suc i) (omega arith)) (x - block_octets c) (omega arith))
  where
    e : width_in c ≡ w
    e = f 0 (omega arith)

    block : block_octets c ≡ c.block * w
    block = ap (λ (v : ℕ). c.block * v) e

    by : Dec (x < block_octets c) → partial_octets cs (x - block_octets c) ≡ (x - block_octets c) % w → partial_octets (c ∷ cs) x ≡ x % w
    by (yes a) r = partial_some c cs x a ∙ ap (λ (v : ℕ). x % v) e
    by (no a) r =
        let h : block_octets c ≤ x = omega arith in
        partial_block c cs x h ∙ r ∙ ap (λ (t : ℕ). (x - t) % w) block ∙ less_rest w c.block x (omega (arith, block))

-- What is left of whole sequences has the same rest.
rest_even : (w k long : ℕ) → long % (k * w) % w ≡ long % w
rest_even w k long =
    let q = long / (k * w) in
    let e : long % (k * w) + q * k * w ≡ long = omega (arith, mul_assoc q k w, div-add-mod' long (k * w)) in
    sym (add-mul-mod_self_right (long % (k * w)) (q * k) w) ∙ ap (λ (t : ℕ). t % w) e

pub there_even : (w : ℕ) (cs : List Settings) (S long : ℕ) → Even w cs → long < S * sequence_octets cs → long - long % w ≡ there_octets cs S long
there_even w cs S long f h =
    let x = long % sequence_octets cs in
    let low : x ≤ sequence_octets cs = omega (arith, mod-lt long (cut_some cs S long h)) in
    let rest : partial_octets cs x ≡ long % w = partial_even w cs f x low ∙ rw (octets_even w cs f) (rest_even w (sequence_samples cs) long) in
    sym (there_cut cs S long h ∙ ap (λ (t : ℕ). long - t) rest)

-- ---- the loop over channels

-- What is left of x octets behind the first i channels' blocks: the channels to come leave the same.
pub record Cutting (cs : List Settings) (x i left : ℕ) : Type 0 where
  pub low : i ≤ length cs
  pub small : left ≤ x
  pub same : partial_octets (drop i cs) left ≡ partial_octets cs x

module _ (cs : List Settings) (x : ℕ) where
  pub cutting_first : Cutting cs x 0 x
  cutting_first = record { low = omega arith; small = omega arith; same = refl }

  module _ (d : Settings) (i left : ℕ) (k : Cutting cs x i left) (h : i < length cs) where
    ahead : partial_octets (get_or cs i d ∷ drop (suc i) cs) left ≡ partial_octets cs x
    ahead = rw (drop-cons cs i d h) at k.same

    pub cutting_block : block_octets (get_or cs i d) ≤ left → Cutting cs x (i + 1) (left - block_octets (get_or cs i d))
    cutting_block l =
        record {
          low = omega arith;
          small = omega (arith, k.small);
          same = rw add-one (sym (partial_block (get_or cs i d) (drop (suc i) cs) left l) ∙ ahead);
        }

    pub cutting_end : left < block_octets (get_or cs i d) → left % width_in (get_or cs i d) ≡ partial_octets cs x
    cutting_end l = sym (partial_some (get_or cs i d) (drop (suc i) cs) left l) ∙ ahead

  pub cutting_past : (i left : ℕ) → Cutting cs x i left → length cs ≤ i → left ≡ partial_octets cs x
  unfolding partial_octets
  cutting_past i left k h = rw (drop_of_length-le cs {i = i} h) at k.same
