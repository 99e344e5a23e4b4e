-- The samples of a recorded frame, laid out, where each list has as many as are there of a waveform of `long` octets.
--     there_big, there-little    where they stand in octets z, as they are or turned about, they are the first octets of z, or these turned
--     there-length    they take the octets of the samples there
--     there-at        a sample that is there stands at its offset
--     there-same      as many are there
-- Assumes nothing.
use Prim.Native.Nat.{ℕ, zero, suc, ◌*◌, ◌/◌, ◌≤◌, ◌<◌, min}
use mathlib.Core.Path.{◌≡◌, refl, sym, ◌∙◌, ap}
use mathlib.Core.Logic.{◌⊎◌, inl, inr}
use mathlib.Core.List.{List, [], ◌∷◌, reverse}
use native.Mathlib.Nat.{mul-le-mul_right, min-le_left, le-min, min-eq_left, div-add-mod', le-max_left, le-max_right, div-le_self}
use native.Mathlib.Decide.{dec_lt}
use native.Mathlib.Omega.{arith}
use borrow.Author.Tests.{lt-ltb, le-ltb}
use lib.ListN.{length, get_or, take, drop, length-take, drop_of_length-le}
use lib.Seq.{take-nil, take_all}
use Rattle.octets.proofs.Laws.{part_of}
use Rattle.stores.specs.Number.{be, length-be}
use Rattle.settings.specs.declared.Settings.{Settings}
use Rattle.layout.specs.Frame.{width_in, sequence_octets, channel_in, offset_of}
use Rattle.layout.proofs.Rows.{row_fits}
use Rattle.laid.specs.Laid.{Named, laid, sample_octets}
use Rattle.laid.proofs.Places.{row_below, rest_below, offset-inside}
use Rattle.laid.proofs.Laid.{laid_same, laid_self, laid-length, laid-at}
use Rattle.laid.proofs.Turned.{laid-turned}
use Rattle.there.specs.There.{end_of, there_of, there_octets, Wide, There}
use Rattle.there.specs.Turned.{turned_there}
use Rattle.there.proofs.Places.{there_declared, there_clean, there-ends, there-counted, octet_held, there_again}
use Rattle.there.proofs.Turned.{turned_enough, there-turned}
use Rattle.canonical.specs.Canonical.{octets_in, longest}

-- ---- parts of a list

-- Nothing stands behind the end.
part_behind : (w o l : ℕ) (u : List ℕ) → l ≤ o → take w (drop o (take l u)) ≡ []
part_behind w o l u h = rw (drop_of_length-le (take l u) {i = o} (omega (arith, length-take l u, min-le_left l (length u)))) (take-nil w)

longest-at : (samples : List (List ℕ)) (c : ℕ) → length (get_or samples c []) ≤ longest samples
unfolding longest
longest-at [] c = omega arith
longest-at (b ∷ bs) zero = le-max_left (length b) (longest bs)
longest-at (b ∷ bs) (suc c) = omega (arith, longest-at bs c, le-max_right (length b) (longest bs))

-- ---- the samples

-- Each channel's list has the samples that are there of a waveform of `long` octets.
abbrev pub SamplesSized : List Settings → ℕ → ℕ → List (List ℕ) → Type 0
SamplesSized cs S long samples = (c : ℕ) → c < length cs → length (get_or samples c []) ≡ there_of cs S long c

-- The samples laid out, as `waveform_of` does.
abbrev pub laid_there : List Settings → ℕ → List (List ℕ) → List ℕ
laid_there cs S samples = laid (octets_in cs samples) cs (min S (longest samples))

module _ (cs : List Settings) (wide : Wide cs) (S long : ℕ) (samples : List (List ℕ)) (sized : SamplesSized cs S long samples) where
  abbrev T : ℕ
  T = there_octets cs S long

  -- The sequences that are laid out.
  abbrev m : ℕ
  m = min S (longest samples)

  -- The octets of a sample's bits.
  abbrev written : ℕ → ℕ → List ℕ
  written c n = be (width_in (channel_in c cs)) (get_or (get_or samples c []) n 0)

  named-all : (c n : ℕ) → Named cs m c n → Named cs S c n
  named-all c n h = record { channel = h.channel; number = omega (arith, h.number, mul-le-mul_right (channel_in c cs).block (min-le_left S (longest samples))) }

  -- They hold all that is there.
  there-laid : T ≤ m * sequence_octets cs
  there-laid = by (dec_lt (m * sequence_octets cs) T)
    where
      by : Dec (m * sequence_octets cs < T) → T ≤ m * sequence_octets cs
      by (no a) = omega arith
      by (yes a) =
          let k = octet_held {cs = cs} {S = S} {long = long} (m * sequence_octets cs) a in
          let c = k.channel in
          let n = k.n in
          let b = (channel_in c cs).block in
          let h = k.there.named in
          let counted = (there-counted h (wide c h.channel)).0 k.there.inside in
          let q : n / b < m = le-min (row_below cs S c n h) (omega (arith, sized c h.channel, longest-at samples c, div-le_self n b)) in
          let j : Named cs m c n = record { channel = h.channel; number = omega (arith, row_fits b (n / b) m q, div-add-mod' n b, rest_below cs S c n h) } in
          let z : ⊥ = omega (arith, offset-inside j, k.place, k.inside) in
          absurd z

  octets-there : (c n : ℕ) → There cs S long c n → octets_in cs samples c n ≡ written c n
  unfolding octets_in
  octets-there c n h =
      let k = (there-counted h.named (wide c h.named.channel)).0 h.inside in
      rw (lt-ltb n (length (get_or samples c [])) (omega (arith, sized c h.named.channel)))

  octets-lacking : (c n : ℕ) → Named cs S c n → (end_of cs c n ≤ long → ⊥) → octets_in cs samples c n ≡ []
  unfolding octets_in
  octets-lacking c n h f = by (dec_lt n (length (get_or samples c [])))
    where
      by : Dec (n < length (get_or samples c [])) → octets_in cs samples c n ≡ []
      by (yes a) = absurd (f ((there-counted h (wide c h.channel)).1 (omega (arith, sized c h.channel))))
      by (no a) = rw (le-ltb n (length (get_or samples c [])) (omega arith))

  -- A function of the octets that stand in z, which gives none for none: the samples are f of those in the first octets of z.
  module _ (f : List ℕ → List ℕ) (none : f [] ≡ []) (z : List ℕ) (stand : (c n : ℕ) → There cs S long c n → written c n ≡ f (sample_octets cs z c n)) where
    sample_cut : (c n : ℕ) → Named cs m c n → octets_in cs samples c n ≡ f (sample_octets cs (take T z) c n)
    sample_cut c n h = by (there_clean cs S long c n k)
      where
        k : Named cs S c n
        k = named-all c n h

        w : ℕ
        w = width_in (channel_in c cs)

        by : (end_of cs c n ≤ T) ⊎ (T ≤ offset_of cs c n) → octets_in cs samples c n ≡ f (sample_octets cs (take T z) c n)
        by (inl a) =
            let there : There cs S long c n = record { named = k; inside = (there-ends cs S long c n k).1 a } in
            octets-there c n there ∙ stand c n there ∙ sym (ap f (part_of w (offset_of cs c n) T z a))
        by (inr a) =
            octets-lacking c n k (λ e. omega (arith, (there-ends cs S long c n k).0 e, wide c h.channel))
            ∙ sym (ap f (part_behind w (offset_of cs c n) T z a) ∙ none)

    samples_cut : laid_there cs S samples ≡ laid (λ c n. f (sample_octets cs (take T z) c n)) cs m
    samples_cut = laid_same _ _ cs m sample_cut

  pub there_big : (z : List ℕ) → ((c n : ℕ) → There cs S long c n → written c n ≡ sample_octets cs z c n) → laid_there cs S samples ≡ take T z
  there_big z stand =
      samples_cut (λ u. u) refl z stand
      ∙ laid_self cs m (take T z)
      ∙ take_all (m * sequence_octets cs) (take T z) (omega (arith, length-take T z, min-le_left T (length z), there-laid))

  pub there-little : (z : List ℕ) → ((c n : ℕ) → There cs S long c n → written c n ≡ reverse (sample_octets cs z c n)) → laid_there cs S samples ≡ turned_there cs T z
  there-little z stand =
      let k : length (take T z) ≤ T = omega (arith, length-take T z, min-le_left T (length z)) in
      samples_cut reverse refl z stand
      ∙ laid-turned cs m (take T z)
      ∙ turned_enough cs m S (take T z) (omega (arith, there-laid)) (omega (arith, there_declared cs S long))
      ∙ sym (there-turned cs S long z)

  -- All samples at their full width, those that are lacking too.
  abbrev full : List ℕ
  full = laid written cs S

  full_at : (c n : ℕ) → There cs S long c n → written c n ≡ sample_octets cs full c n
  full_at c n h = sym (laid-at written cs S (λ d k g. length-be _ _) c n h.named)

  pub there-length : length (laid_there cs S samples) ≡ T
  there-length =
      ap length (there_big full full_at)
      ∙ length-take T full
      ∙ min-eq_left (omega (arith, laid-length written cs S (λ d k g. length-be _ _), there_declared cs S long))

  pub there-at : (c n : ℕ) → There cs S long c n → sample_octets cs (laid_there cs S samples) c n ≡ written c n
  there-at c n h =
      ap (λ (u : List ℕ). sample_octets cs u c n) (there_big full full_at)
      ∙ part_of (width_in (channel_in c cs)) (offset_of cs c n) T full ((there-ends cs S long c n h.named).0 h.inside)
      ∙ sym (full_at c n h)

  pub there-same : (c : ℕ) → c < length cs → there_of cs S (length (laid_there cs S samples)) c ≡ there_of cs S long c
  there-same c h = rw there-length (there_again cs wide S long c h)
