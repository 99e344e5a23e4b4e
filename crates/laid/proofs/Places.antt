-- Where samples lie.
--     below_apart, below-fits    a channel's block ends before a higher channel's begins, and in the sequence
--     offset-is                  the offset of sample r of a channel's block in sequence q
--     row_below, rest_below      a named sample's sequence, and its number in the block
--     offset_by_lem, offset-inside   a sample of a channel, and a named sample, ends by the end of the sequences
--     offset-apart               two named samples share no octet
--     offset_covers              every octet of the sequences is a named sample's
-- Assumes nothing.
use Prim.Native.Nat.{ℕ, zero, suc, ◌+◌, ◌-◌, ◌*◌, ◌/◌, ◌%◌, ◌≤◌, ◌<◌}
use mathlib.Core.Path.{◌≡◌, sym, ◌∙◌, ap}
use mathlib.Core.List.{List, [], ◌∷◌}
use native.Mathlib.Nat.{add-zero, div-add-mod', mod-lt, div-lt_iff_lt-mul, div-eq_of_lt, mod-eq_of_lt, mul-add-div_right, mul-add-mod_self_right}
use native.Mathlib.Decide.{dec_lt}
use native.Mathlib.Omega.{arith}
use lib.ListN.{length}
use lib.Seq.{take-length}
use Rattle.settings.specs.declared.Settings.{Settings}
use Rattle.layout.specs.Frame.{width_in, block_octets, sequence_octets, octets_below, channel_in, offset_by, offset_of, samples_octets}
use Rattle.layout.proofs.Rows.{row_fits, cells_some, cell_inside}
use Rattle.laid.specs.Laid.{Named, Covered}

-- ---- rows of equal cells

-- A row's number and the place in it are what division gives.
row_number : (G q x : ℕ) → x < G → (q * G + x) / G ≡ q
row_number G q x h = let p : 0 < G = omega arith in mul-add-div_right p q x ∙ rw (div-eq_of_lt h, add-zero)

row-rest : (G q x : ℕ) → x < G → (q * G + x) % G ≡ x
row-rest G q x h = mul-add-mod_self_right q G x ∙ mod-eq_of_lt h

-- A place is in one row only.
row_same : (G q p x y : ℕ) → x < G → y < G → q * G + x ≡ p * G + y → (q ≡ p) × (x ≡ y)
row_same G q p x y h k e =
    (sym (row_number G q x h) ∙ ap (λ (t : ℕ). t / G) e ∙ row_number G p y k, sym (row-rest G q x h) ∙ ap (λ (t : ℕ). t % G) e ∙ row-rest G p y k)

-- ---- channels

pub below_apart : (cs : List Settings) (c d : ℕ) → c < d → d ≤ length cs → octets_below c cs + block_octets (channel_in c cs) ≤ octets_below d cs
unfolding octets_below sequence_octets
below_apart [] c d h l = let z : ⊥ = omega arith in absurd z
below_apart (s ∷ cs) zero zero h l = let z : ⊥ = omega arith in absurd z
below_apart (s ∷ cs) zero (suc d) h l = omega arith
below_apart (s ∷ cs) (suc c) zero h l = let z : ⊥ = omega arith in absurd z
below_apart (s ∷ cs) (suc c) (suc d) h l = omega (arith, below_apart cs c d (omega arith) (omega arith))

-- The blocks below a channel, and its own, are in the sequence.
pub below-fits : (cs : List Settings) (c : ℕ) → c < length cs → octets_below c cs + block_octets (channel_in c cs) ≤ sequence_octets cs
unfolding octets_below
below-fits cs c h = rw take-length at (below_apart cs c (length cs) h (omega arith))

-- ---- the offset of a sample

-- Octet i of sample r of a channel's block, from the first octet of the sequence.
abbrev within : List Settings → ℕ → ℕ → ℕ → ℕ
within cs c r i = octets_below c cs + (r * width_in (channel_in c cs) + i)

block-fits : (s : Settings) (r i : ℕ) → r < s.block → i < width_in s → r * width_in s + i < block_octets s
unfolding block_octets
block-fits s r i h l = omega (arith, row_fits (width_in s) r s.block h)

within-fits : (cs : List Settings) (c r i : ℕ) → c < length cs → r < (channel_in c cs).block → i < width_in (channel_in c cs) → within cs c r i < sequence_octets cs
within-fits cs c r i h l m = omega (arith, below-fits cs c h, block-fits (channel_in c cs) r i l m)

pub offset-is : (cs : List Settings) (c q r : ℕ) → r < (channel_in c cs).block → offset_of cs c (q * (channel_in c cs).block + r) ≡ q * sequence_octets cs + octets_below c cs + r * width_in (channel_in c cs)
unfolding offset_of
offset-is cs c q r h = rw (row_number (channel_in c cs).block q r h, row-rest (channel_in c cs).block q r h)

-- A named sample: its sequence is one of S, and its number in the block is below the block length.
module _ (cs : List Settings) (S c n : ℕ) (h : Named cs S c n) where
  pub row_below : n / (channel_in c cs).block < S
  row_below = (div-lt_iff_lt-mul (cells_some S (channel_in c cs).block n h.number)).1 h.number

  pub rest_below : n % (channel_in c cs).block < (channel_in c cs).block
  rest_below = mod-lt n (cells_some S (channel_in c cs).block n h.number)

  named-fits : (i : ℕ) → i < width_in (channel_in c cs) → within cs c (n % (channel_in c cs).block) i < sequence_octets cs
  named-fits i l = within-fits cs c (n % (channel_in c cs).block) i h.channel rest_below l

offset-within : (cs : List Settings) (c n i : ℕ) → offset_of cs c n + i ≡ n / (channel_in c cs).block * sequence_octets cs + within cs c (n % (channel_in c cs).block) i
unfolding offset_of
offset-within cs c n i = omega arith

-- A sample ends by the end of its sequences, where its channel's block ends by the end of a sequence.
pub offset_by_lem : (s : Settings) (G below S n : ℕ) → below + block_octets s ≤ G → n < S * s.block → offset_by s G below n + width_in s ≤ S * G
unfolding block_octets
offset_by_lem s G below S n h k = cell_inside s.block (width_in s) G below S n h k

pub offset-inside : {cs : List Settings} {S c n : ℕ} → Named cs S c n → offset_of cs c n + width_in (channel_in c cs) ≤ samples_octets cs S
unfolding offset_of
offset-inside {cs} {S} {c} {n} h = offset_by_lem (channel_in c cs) (sequence_octets cs) (octets_below c cs) S n (below-fits cs c h.channel) h.number

-- ---- two samples

-- A place in the sequence is in the block of one channel.
channel-same : (cs : List Settings) (c d x y : ℕ) → c < length cs → d < length cs → x < block_octets (channel_in c cs) → y < block_octets (channel_in d cs) → octets_below c cs + x ≡ octets_below d cs + y → c ≡ d
channel-same cs c d x y h k l m e = go (dec_lt c d) (dec_lt d c)
  where
    go : Dec (c < d) → Dec (d < c) → c ≡ d
    go (yes a) b = let z : ⊥ = omega (arith, below_apart cs c d a (omega arith)) in absurd z
    go (no a) (yes b) = let z : ⊥ = omega (arith, below_apart cs d c b (omega arith)) in absurd z
    go (no a) (no b) = omega arith

-- A place in a channel's block is in one sample.
number_same : (cs : List Settings) (c n m i j : ℕ) → i < width_in (channel_in c cs) → j < width_in (channel_in c cs) → n / (channel_in c cs).block ≡ m / (channel_in c cs).block → within cs c (n % (channel_in c cs).block) i ≡ within cs c (m % (channel_in c cs).block) j → n ≡ m
number_same cs c n m i j l v e f =
    let b = (channel_in c cs).block in
    let g = row_same (width_in (channel_in c cs)) (n % b) (m % b) i j l v (omega arith) in
    cc (div-add-mod' n b, div-add-mod' m b, g.0, e)

pub offset-apart : {cs : List Settings} {S c n d m : ℕ} → Named cs S c n → Named cs S d m → ((c ≡ d) × (n ≡ m) → ⊥) → (i j : ℕ) → i < width_in (channel_in c cs) → j < width_in (channel_in d cs) → offset_of cs c n + i ≡ offset_of cs d m + j → ⊥
offset-apart {cs} {S} {c} {n} {d} {m} h k differ i j l v e =
    let places = sym (offset-within cs c n i) ∙ e ∙ offset-within cs d m j in
    let f = row_same (sequence_octets cs) _ _ _ _ (named-fits cs S c n h i l) (named-fits cs S d m k j v) places in
    let x = block-fits (channel_in c cs) _ i (rest_below cs S c n h) l in
    let y = block-fits (channel_in d cs) _ j (rest_below cs S d m k) v in
    let same = channel-same cs c d _ _ h.channel k.channel x y f.1 in
    differ (same, number_same cs c n m i j l (rw (← same) at v) (rw (← same) at f.0) (rw (← same) at f.1))

-- ---- every octet

-- A place in the sequence is in the block of some channel.
record Block (cs : List Settings) (x : ℕ) : Type 0 where
  channel : ℕ
  rest : ℕ
  known : channel < length cs
  below : rest < block_octets (channel_in channel cs)
  place : octets_below channel cs + rest ≡ x

block_of : (cs : List Settings) (x : ℕ) → x < sequence_octets cs → Block cs x
unfolding octets_below sequence_octets
block_of [] x h = let z : ⊥ = omega arith in absurd z
block_of (s ∷ cs) x h = go (dec_lt x (block_octets s)) (block_of cs (x - block_octets s))
  where
    go : Dec (x < block_octets s) → (x - block_octets s < sequence_octets cs → Block cs (x - block_octets s)) → Block (s ∷ cs) x
    go (yes a) f = record { channel = 0; rest = x; known = omega arith; below = a; place = omega arith }
    go (no a) f =
        let b = f (omega arith) in
        record { channel = suc b.channel; rest = b.rest; known = omega arith; below = b.below; place = omega arith }

pub offset_covers : (cs : List Settings) (S o : ℕ) → o < samples_octets cs S → Covered cs S o
unfolding block_octets
offset_covers cs S o h =
    let G = sequence_octets cs in
    let p : 0 < G = cells_some S G o h in
    let b : Block cs (o % G) = block_of cs (o % G) (mod-lt o p) in
    let s = channel_in b.channel cs in
    let v : 0 < width_in s = cells_some s.block (width_in s) b.rest b.below in
    let q = o / G in
    let r = b.rest / width_in s in
    let l : q < S = (div-lt_iff_lt-mul p).1 h in
    let m : r < s.block = (div-lt_iff_lt-mul v).1 b.below in
    record {
      channel = b.channel;
      n = q * s.block + r;
      i = b.rest % width_in s;
      named = record { channel = b.known; number = omega (arith, row_fits s.block q S l) };
      inside = mod-lt b.rest v;
      place = omega (arith, offset-is cs b.channel q r m, div-add-mod' b.rest (width_in s), div-add-mod' o G);
    }
