-- What holds of each named sample, by the recursions that lay a waveform out, and back.
--     up_each, at_up, up_map        of the cells of a row
--     sequence-each, at-sequence    of the samples of a sequence
--     each, at_each                 of the samples of a waveform
-- Assumes nothing.
use Prim.Native.Nat.{ℕ, zero, suc, ◌+◌, ◌*◌, ◌/◌, ◌%◌, ◌<◌}
use mathlib.Core.Path.{◌≡◌, sym, subst₂}
use mathlib.Core.Logic.{◌↔◌}
use mathlib.Core.List.{List, [], ◌∷◌}
use native.Mathlib.Nat.{zero-mul, suc-mul, zero-add, add-zero, div-add-mod'}
use native.Mathlib.Omega.{arith}
use lib.ListN.{length}
use Rattle.settings.specs.declared.Settings.{Settings}
use Rattle.layout.specs.Frame.{width_in, block_octets, sequence_octets, octets_below, channel_in, offset_of}
use Rattle.layout.proofs.Rows.{row_fits}
use Rattle.laid.specs.Laid.{Named}
use Rattle.laid.proofs.Places.{offset-is, row_below, rest_below}

-- P holds of the k cells of w octets from number n and offset o on.
abbrev pub UpEach : (ℕ → ℕ → Type 0) → ℕ → ℕ → ℕ → ℕ → Type 0
UpEach P w n o zero = Unit {0}
UpEach P w n o (suc k) = P n o × UpEach P w (suc n) (o + w) k

-- P holds of the samples of sequence q, given by channel, number, settings and offset; the first channel is k, its block at o.
abbrev pub SequenceEach : (ℕ → ℕ → Settings → ℕ → Type 0) → ℕ → List Settings → ℕ → ℕ → Type 0
SequenceEach P k [] q o = Unit {0}
SequenceEach P k (s ∷ cs) q o =
    UpEach (λ n p. P k n s p) (width_in s) (q * s.block) o s.block × SequenceEach P (suc k) cs q (o + block_octets s)

-- P holds of the samples of all sequences.
abbrev pub Each : (ℕ → ℕ → Settings → ℕ → Type 0) → List Settings → ℕ → Type 0
Each P cs S = UpEach (SequenceEach P 0 cs) (sequence_octets cs) 0 0 S

module _ (P : ℕ → ℕ → Type 0) (w : ℕ) where
  pub up_each : (n o k : ℕ) → ((i : ℕ) → i < k → P (n + i) (o + i * w)) → UpEach P w n o k
  up_each n o zero f = tt
  up_each n o (suc k) f =
      let rest = up_each (suc n) (o + w) k (λ i h. subst₂ P (omega arith) (rw suc-mul (omega arith)) (f (suc i) (omega arith))) in
      (simp (add-zero, zero-mul) at (f 0 (omega arith)), rest)

  pub at_up : (n o k : ℕ) → UpEach P w n o k → (i : ℕ) → i < k → P (n + i) (o + i * w)
  at_up n o zero a i h = let z : ⊥ = omega arith in absurd z
  at_up n o (suc k) a zero h = simp (add-zero, zero-mul) a.0
  at_up n o (suc k) a (suc i) h = subst₂ P (omega arith) (rw suc-mul (omega arith)) (at_up (suc n) (o + w) k a.1 i (omega arith))

pub up_map : (P Q : ℕ → ℕ → Type 0) (w n o k : ℕ) → ((m p : ℕ) → P m p → Q m p) → UpEach P w n o k → UpEach Q w n o k
up_map P Q w n o zero f a = tt
up_map P Q w n o (suc k) f a = (f n o a.0, up_map P Q w (suc n) (o + w) k f a.1)

module _ (P : ℕ → ℕ → Settings → ℕ → Type 0) where
  -- P holds of sample r of the block of channel c of sequence q.
  abbrev At : ℕ → List Settings → ℕ → ℕ → ℕ → ℕ → Type 0
  At k cs q o c r = P (k + c) (q * (channel_in c cs).block + r) (channel_in c cs) (o + octets_below c cs + r * width_in (channel_in c cs))

  -- Channel c + 1 is channel c of those behind the first.
  at_next : (k : ℕ) (s : Settings) (cs : List Settings) (q o c r : ℕ) → At k (s ∷ cs) q o (suc c) r ↔ At (suc k) cs q (o + block_octets s) c r
  unfolding octets_below sequence_octets
  at_next k s cs q o c r =
      let number : k + suc c ≡ suc k + c = omega arith in
      let w = width_in (channel_in c cs) in
      let place : o + octets_below (suc c) (s ∷ cs) + r * w ≡ o + block_octets s + octets_below c cs + r * w = omega arith in
      let Q : ℕ → ℕ → Type 0 = λ j p. P j (q * (channel_in c cs).block + r) (channel_in c cs) p in
      (subst₂ Q number place, subst₂ Q (sym number) (sym place))

  sequence-each : (k : ℕ) (cs : List Settings) (q o : ℕ) → ((c r : ℕ) → c < length cs → r < (channel_in c cs).block → At k cs q o c r) → SequenceEach P k cs q o
  unfolding octets_below sequence_octets
  sequence-each k [] q o f = tt
  sequence-each k (s ∷ cs) q o f =
      let first = up_each (λ n p. P k n s p) (width_in s) (q * s.block) o s.block (λ r h. simp add-zero at (f 0 r (omega arith) h)) in
      (first, sequence-each (suc k) cs q (o + block_octets s) (λ c r h l. (at_next k s cs q o c r).0 (f (suc c) r (omega arith) l)))

  at-sequence : (k : ℕ) (cs : List Settings) (q o : ℕ) → SequenceEach P k cs q o → (c r : ℕ) → c < length cs → r < (channel_in c cs).block → At k cs q o c r
  unfolding octets_below sequence_octets
  at-sequence k [] q o a c r h l = let z : ⊥ = omega arith in absurd z
  at-sequence k (s ∷ cs) q o a zero r h l = simp add-zero (at_up (λ n p. P k n s p) (width_in s) (q * s.block) o s.block a.0 r l)
  at-sequence k (s ∷ cs) q o a (suc c) r h l =
      (at_next k s cs q o c r).1 (at-sequence (suc k) cs q (o + block_octets s) a.1 c r (omega arith) l)

  pub each : (cs : List Settings) (S : ℕ) → ((c n : ℕ) → Named cs S c n → P c n (channel_in c cs) (offset_of cs c n)) → Each P cs S
  each cs S f =
      up_each (SequenceEach P 0 cs) (sequence_octets cs) 0 0 S
      (λ q h. sequence-each 0 cs (0 + q) (0 + q * sequence_octets cs)
      (λ c r l m. simp (zero-add, sym (offset-is cs c q r m))
      (f c (q * (channel_in c cs).block + r) (record { channel = l; number = omega (arith, row_fits (channel_in c cs).block q S h) }))))

  pub at_each : (cs : List Settings) (S : ℕ) → Each P cs S → (c n : ℕ) → Named cs S c n → P c n (channel_in c cs) (offset_of cs c n)
  unfolding offset_of
  at_each cs S a c n h =
      let b = (channel_in c cs).block in
      let s = at_up (SequenceEach P 0 cs) (sequence_octets cs) 0 0 S a (n / b) (row_below cs S c n h) in
      simp (zero-add, div-add-mod') at (at-sequence 0 cs (0 + n / b) (0 + n / b * sequence_octets cs) s c (n % b) h.channel (rest_below cs S c n h))
