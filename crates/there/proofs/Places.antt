-- Which samples are there.
--     part_block, part_some, part_le, part_fits    the octets of samples in the first octets of a sequence
--     there-le, there_declared, there-whole        how many octets the samples there have
--     there_clean      a declared sample is among these octets or behind them
--     there-ends       and among them exactly when its octets are all inside the waveform
--     there-counted    exactly when its number is below the channel's count
--     there_first      the samples there are the first in file order
--     octet_held       each octet ahead of the surplus is one of a sample that is there
--     octets_again, there_again    a waveform that ends with its last sample there has the same samples
--     there-all        where nothing is cut off, all declared samples are there
-- Assumes nothing.
use Prim.Native.Nat.{ℕ, zero, suc, ◌+◌, ◌-◌, ◌*◌, ◌/◌, ◌%◌, ◌≤◌, ◌<◌, min}
use mathlib.Core.Path.{◌≡◌, refl, ◌∙◌, ap}
use mathlib.Core.Logic.{◌⊎◌, inl, inr, ◌↔◌}
use mathlib.Core.List.{List, [], ◌∷◌}
use native.Mathlib.Nat.{mul-zero, mul-le-mul_right, div-add-mod', mod-lt, le-div_iff_mul-le, min-le_left, min-le_right, le-min, min-eq_left}
use native.Mathlib.Decide.{dec_lt}
use native.Mathlib.Omega.{arith}
use borrow.Author.Tests.{le-leb, lt-leb}
use lib.ListN.{length}
use Rattle.settings.specs.declared.Settings.{Settings}
use Rattle.layout.specs.Frame.{width_in, block_octets, sequence_octets, octets_below, channel_in, offset_of}
use Rattle.laid.specs.Laid.{Named}
use Rattle.layout.proofs.Rows.{row_fits}
use Rattle.laid.proofs.Places.{below-fits, rest_below, offset-inside, offset_covers}
use Rattle.there.specs.There.{end_of, there_of, part_octets, there_octets, Wide, There, Held}
use Rattle.there.proofs.Counts.{cell_in, count-few, count-inside}

-- ---- numbers

pub none_of : (S G : ℕ) → G ≡ 0 → S * G ≡ 0
none_of S G e = rw e (mul-zero S)

-- ---- one sequence

-- The block is in the first x octets, or it is not.
pub part_block : (s : Settings) (cs : List Settings) (x : ℕ) → block_octets s ≤ x → part_octets (s ∷ cs) x ≡ block_octets s + part_octets cs (x - block_octets s)
unfolding part_octets
part_block s cs x h = rw (le-leb (block_octets s) x h)

pub part_some : (s : Settings) (cs : List Settings) (x : ℕ) → x < block_octets s → part_octets (s ∷ cs) x ≡ x / width_in s * width_in s
unfolding part_octets
part_some s cs x h = rw (lt-leb (block_octets s) x h)

pub part_le : (cs : List Settings) (x : ℕ) → part_octets cs x ≤ x
unfolding part_octets
part_le [] x = omega arith
part_le (s ∷ cs) x = by (dec_lt x (block_octets s)) (part_le cs (x - block_octets s))
  where
    by : Dec (x < block_octets s) → part_octets cs (x - block_octets s) ≤ x - block_octets s → part_octets (s ∷ cs) x ≤ x
    by (yes a) b = omega (arith, part_some s cs x a, div-add-mod' x (width_in s))
    by (no a) b = omega (arith, part_block s cs x (omega arith))

pub part_fits : (cs : List Settings) (x : ℕ) → part_octets cs x ≤ sequence_octets cs
unfolding part_octets sequence_octets
part_fits [] x = omega arith
part_fits (s ∷ cs) x = by (dec_lt x (block_octets s)) (part_fits cs (x - block_octets s))
  where
    by : Dec (x < block_octets s) → part_octets cs (x - block_octets s) ≤ sequence_octets cs → part_octets (s ∷ cs) x ≤ block_octets s + sequence_octets cs
    by (yes a) b = omega (arith, part_le (s ∷ cs) x)
    by (no a) b = omega (arith, part_block s cs x (omega arith))

-- Where sample r of a channel's block begins and ends in its sequence.
abbrev from : List Settings → ℕ → ℕ → ℕ
from cs c r = octets_below c cs + r * width_in (channel_in c cs)

abbrev upto : List Settings → ℕ → ℕ → ℕ
upto cs c r = octets_below c cs + r * width_in (channel_in c cs) + width_in (channel_in c cs)

-- A sample is in the part, or behind it.
part_clean : (cs : List Settings) (x c r : ℕ) → c < length cs → r < (channel_in c cs).block → (upto cs c r ≤ part_octets cs x) ⊎ (part_octets cs x ≤ from cs c r)
unfolding octets_below sequence_octets block_octets
part_clean [] x c r h l = let z : ⊥ = omega arith in absurd z
part_clean (s ∷ cs) x zero r h l = by (dec_lt x (block_octets s)) (dec_lt r (x / width_in s))
  where
    by : Dec (x < block_octets s) → Dec (r < x / width_in s) → (upto (s ∷ cs) 0 r ≤ part_octets (s ∷ cs) x) ⊎ (part_octets (s ∷ cs) x ≤ from (s ∷ cs) 0 r)
    by (yes a) (yes b) = inl (omega (arith, part_some s cs x a, row_fits (width_in s) r (x / width_in s) b))
    by (yes a) (no b) = let k : x / width_in s ≤ r = omega arith in inr (omega (arith, part_some s cs x a, mul-le-mul_right (width_in s) k))
    by (no a) b = inl (omega (arith, part_block s cs x (omega arith), row_fits (width_in s) r s.block l))
part_clean (s ∷ cs) x (suc c) r h l = by (dec_lt x (block_octets s)) (part_clean cs (x - block_octets s) c r (omega arith) l)
  where
    by : Dec (x < block_octets s) → (upto cs c r ≤ part_octets cs (x - block_octets s)) ⊎ (part_octets cs (x - block_octets s) ≤ from cs c r) → (upto (s ∷ cs) (suc c) r ≤ part_octets (s ∷ cs) x) ⊎ (part_octets (s ∷ cs) x ≤ from (s ∷ cs) (suc c) r)
    by (yes a) b = inr (omega (arith, part_le (s ∷ cs) x))
    by (no a) (inl b) = inl (omega (arith, part_block s cs x (omega arith)))
    by (no a) (inr b) = inr (omega (arith, part_block s cs x (omega arith)))

-- A sample in the first x octets is in the part.
part_inside : (cs : List Settings) (x c r : ℕ) → c < length cs → r < (channel_in c cs).block → upto cs c r ≤ x → upto cs c r ≤ part_octets cs x
unfolding octets_below sequence_octets block_octets
part_inside [] x c r h l m = let z : ⊥ = omega arith in absurd z
part_inside (s ∷ cs) x zero r h l m = by (dec_lt x (block_octets s)) (dec_lt r (x / width_in s))
  where
    by : Dec (x < block_octets s) → Dec (r < x / width_in s) → upto (s ∷ cs) 0 r ≤ part_octets (s ∷ cs) x
    by (yes a) (yes b) = omega (arith, part_some s cs x a, row_fits (width_in s) r (x / width_in s) b)
    by (yes a) (no b) = narrow (dec_lt 0 (width_in s))
      where
        narrow : Dec (0 < width_in s) → upto (s ∷ cs) 0 r ≤ part_octets (s ∷ cs) x
        narrow (yes p) = let z : ⊥ = b ((cell_in (width_in s) r x p).1 (omega arith)) in absurd z
        narrow (no p) = omega (arith, none_of r (width_in s) (omega arith))
    by (no a) b = omega (arith, part_block s cs x (omega arith), row_fits (width_in s) r s.block l)
part_inside (s ∷ cs) x (suc c) r h l m = by (dec_lt x (block_octets s)) (part_inside cs (x - block_octets s) c r (omega arith) l)
  where
    by : Dec (x < block_octets s) → (upto cs c r ≤ x - block_octets s → upto cs c r ≤ part_octets cs (x - block_octets s)) → upto (s ∷ cs) (suc c) r ≤ part_octets (s ∷ cs) x
    by (yes a) f = let z : ⊥ = omega arith in absurd z
    by (no a) f = omega (arith, part_block s cs x (omega arith), f (omega arith))

-- ---- the sequences

module _ (cs : List Settings) (S long : ℕ) where
  abbrev T : ℕ
  T = there_octets cs S long

  -- The samples of all whole sequences, and of what is left of them in one that is cut off.
  abbrev reach : ℕ
  reach = long / sequence_octets cs * sequence_octets cs + part_octets cs (long % sequence_octets cs)

  pub there-min : T ≡ min (S * sequence_octets cs) reach
  unfolding there_octets
  there-min = refl

  pub there-le : T ≤ long
  there-le =
      let G = sequence_octets cs in
      omega (arith, there-min, min-le_right (S * G) reach, part_le cs (long % G), div-add-mod' long G)

  pub there_declared : T ≤ S * sequence_octets cs
  there_declared = omega (arith, there-min, min-le_left (S * sequence_octets cs) reach)

  -- Where nothing is cut off.
  pub there-whole : S * sequence_octets cs ≤ long → T ≡ S * sequence_octets cs
  there-whole h = by (dec_lt 0 G)
    where
      G : ℕ
      G = sequence_octets cs

      by : Dec (0 < G) → T ≡ S * G
      by (yes p) =
          let k : S ≤ long / G = (le-div_iff_mul-le p).1 h in
          there-min ∙ min-eq_left (omega (arith, mul-le-mul_right G k))
      by (no p) = let e : S * G ≡ 0 = none_of S G (omega arith) in omega (arith, there_declared)

  module _ (c n : ℕ) (h : Named cs S c n) where
    abbrev q : ℕ
    q = n / (channel_in c cs).block

    abbrev r : ℕ
    r = n % (channel_in c cs).block

    offset_at : offset_of cs c n ≡ q * sequence_octets cs + from cs c r
    unfolding offset_of
    offset_at = omega arith

    upto_fits : upto cs c r ≤ sequence_octets cs
    unfolding block_octets
    upto_fits =
        let s = channel_in c cs in
        omega (arith, below-fits cs c h.channel, row_fits (width_in s) r s.block (rest_below cs S c n h))

    -- A named sample is among the octets of those there, or behind them.
    pub there_clean : (end_of cs c n ≤ T) ⊎ (T ≤ offset_of cs c n)
    there_clean = by (dec_lt q Q) (dec_lt Q q) (part_clean cs (long % G) c r h.channel (rest_below cs S c n h))
      where
        G : ℕ
        G = sequence_octets cs

        Q : ℕ
        Q = long / G

        ahead : end_of cs c n ≤ reach → end_of cs c n ≤ T
        ahead k = rw there-min (le-min (offset-inside h) k)

        behind : reach ≤ offset_of cs c n → T ≤ offset_of cs c n
        behind k = omega (arith, there-min, min-le_right (S * G) reach)

        by : Dec (q < Q) → Dec (Q < q) → (upto cs c r ≤ part_octets cs (long % G)) ⊎ (part_octets cs (long % G) ≤ from cs c r) → (end_of cs c n ≤ T) ⊎ (T ≤ offset_of cs c n)
        by (yes a) b p = inl (ahead (omega (arith, offset_at, upto_fits, row_fits G q Q a)))
        by (no a) (yes b) p = inr (behind (omega (arith, offset_at, part_fits cs (long % G), row_fits G Q q b)))
        by (no a) (no b) (inl p) = let e : q ≡ Q = omega arith in inl (ahead (omega (arith, offset_at, ap (λ (t : ℕ). t * G) e)))
        by (no a) (no b) (inr p) = let e : q ≡ Q = omega arith in inr (behind (omega (arith, offset_at, ap (λ (t : ℕ). t * G) e)))

    -- A named sample is there exactly when it ends among the octets of those there.
    pub there-ends : (end_of cs c n ≤ long) ↔ (end_of cs c n ≤ T)
    there-ends = (λ k. by k (dec_lt 0 G) (dec_lt q Q) (dec_lt Q q), λ k. omega (arith, there-le))
      where
        G : ℕ
        G = sequence_octets cs

        Q : ℕ
        Q = long / G

        ahead : end_of cs c n ≤ reach → end_of cs c n ≤ T
        ahead k = rw there-min (le-min (offset-inside h) k)

        by : end_of cs c n ≤ long → Dec (0 < G) → Dec (q < Q) → Dec (Q < q) → end_of cs c n ≤ T
        by k (no p) a b = ahead (omega (arith, offset-inside h, none_of S G (omega arith)))
        by k (yes p) (yes a) b = ahead (omega (arith, offset_at, upto_fits, row_fits G q Q a))
        by k (yes p) (no a) (yes b) = let z : ⊥ = omega (arith, offset_at, row_fits G Q q b, div-add-mod' long G, mod-lt long p) in absurd z
        by k (yes p) (no a) (no b) =
            let e : q ≡ Q = omega arith in
            let m = ap (λ (t : ℕ). t * G) e in
            let inside : upto cs c r ≤ long % G = omega (arith, offset_at, div-add-mod' long G) in
            ahead (omega (arith, offset_at, part_inside cs (long % G) c r h.channel (rest_below cs S c n h) inside))

-- ---- the laws of a waveform

-- A channel's block ends in its sequence.
block-fits : (cs : List Settings) (c : ℕ) → c < length cs → octets_below c cs + (channel_in c cs).block * width_in (channel_in c cs) ≤ sequence_octets cs
unfolding block_octets
block-fits cs c h = below-fits cs c h

module _ {cs : List Settings} {S long : ℕ} where
  -- The samples there are the first in file order: with a sample that is there, each that does not begin behind it is there.
  pub there_first : {c n d m : ℕ} → Named cs S c n → There cs S long d m → 0 < width_in (channel_in d cs) → offset_of cs c n ≤ offset_of cs d m → There cs S long c n
  there_first {c} {n} {d} {m} h k p l = by (there_clean cs S long c n h)
    where
      by : (end_of cs c n ≤ there_octets cs S long) ⊎ (there_octets cs S long ≤ offset_of cs c n) → There cs S long c n
      by (inl a) = record { named = h; inside = omega (arith, there-le cs S long) }
      by (inr a) = let z : ⊥ = omega (arith, (there-ends cs S long d m k.named).0 k.inside) in absurd z

  -- Each octet ahead of the surplus is in a sample that is there.
  pub octet_held : (o : ℕ) → o < there_octets cs S long → Held cs S long o
  octet_held o h =
      let k = offset_covers cs S o (omega (arith, there_declared cs S long)) in
      let inside : end_of cs k.channel k.n ≤ long = by k.channel k.n k.named (omega (arith, k.place)) (there_clean cs S long k.channel k.n k.named) in
      record { channel = k.channel; n = k.n; i = k.i; there = record { named = k.named; inside = inside }; inside = k.inside; place = k.place }
    where
      by : (c n : ℕ) → Named cs S c n → offset_of cs c n < there_octets cs S long → (end_of cs c n ≤ there_octets cs S long) ⊎ (there_octets cs S long ≤ offset_of cs c n) → end_of cs c n ≤ long
      by c n g l (inl a) = omega (arith, there-le cs S long)
      by c n g l (inr a) = let z : ⊥ = omega arith in absurd z

  -- ---- counts

  -- A named sample is there exactly when its number is below the channel's count.
  pub there-counted : {c n : ℕ} → Named cs S c n → 0 < width_in (channel_in c cs) → (end_of cs c n ≤ long) ↔ (n < there_of cs S long c)
  unfolding there_of offset_of
  there-counted {c} {n} h p =
      let s = channel_in c cs in
      count-inside S s.block (width_in s) (sequence_octets cs) (octets_below c cs) long p (block-fits cs c h.channel) n h.number

pub there-few : (cs : List Settings) (S long c : ℕ) → there_of cs S long c ≤ S * (channel_in c cs).block
unfolding there_of
there-few cs S long c =
    let s = channel_in c cs in
    count-few S s.block (width_in s) (sequence_octets cs) (octets_below c cs) long

-- Two counts with the same numbers below them.
count_same : (B a b : ℕ) → a ≤ B → b ≤ B → ((n : ℕ) → n < B → (n < a) ↔ (n < b)) → a ≡ b
count_same B a b h k f = by (dec_lt a b) (dec_lt b a)
  where
    by : Dec (a < b) → Dec (b < a) → a ≡ b
    by (yes l) m = let z : ⊥ = omega (arith, (f a (omega arith)).1 l) in absurd z
    by (no l) (yes m) = let z : ⊥ = omega (arith, (f b (omega arith)).0 m) in absurd z
    by (no l) (no m) = omega arith

module _ (cs : List Settings) (S long : ℕ) where
  -- The octets of the samples there end with one of them.
  pub octets_again : there_octets cs S (there_octets cs S long) ≡ there_octets cs S long
  octets_again = by (dec_lt (there_octets cs S T) T)
    where
      T : ℕ
      T = there_octets cs S long

      by : Dec (there_octets cs S T < T) → there_octets cs S T ≡ T
      by (yes a) =
          let k = octet_held {cs = cs} {S = S} {long = long} (T - 1) (omega arith) in
          let e = (there-ends cs S long k.channel k.n k.there.named).0 k.there.inside in
          let f = (there-ends cs S T k.channel k.n k.there.named).0 e in
          let z : ⊥ = omega (arith, k.place, k.inside) in
          absurd z
      by (no a) = omega (arith, there-le cs S T)

module _ (cs : List Settings) (wide : Wide cs) (S long : ℕ) where
  -- A waveform that ends with the last sample there has the same samples.
  pub there_again : (c : ℕ) → c < length cs → there_of cs S (there_octets cs S long) c ≡ there_of cs S long c
  there_again c h =
      count_same (S * (channel_in c cs).block) _ _ (there-few cs S _ c) (there-few cs S _ c)
      (λ n l.
      let k : Named cs S c n = record { channel = h; number = l } in
      let e = there-ends cs S long c n k in
      let f = there-counted k (wide c h) in
      let g = there-counted k (wide c h) in
      (λ a. g.0 (e.1 (f.1 a)), λ a. f.0 (e.0 (g.1 a))))

  -- Where nothing is cut off, all declared samples are there.
  pub there-all : S * sequence_octets cs ≤ long → (c : ℕ) → c < length cs → there_of cs S long c ≡ S * (channel_in c cs).block
  there-all h c l =
      count_same (S * (channel_in c cs).block) _ _ (there-few cs S long c) (omega arith)
      (λ n m.
      let k : Named cs S c n = record { channel = l; number = m } in
      (λ a. m, λ a. (there-counted k (wide c l)).0 (omega (arith, offset-inside k))))
