-- What a good recording's frame holds once it is read.
--     frame_of            the frame that its octets give
--     all_agree_lem, sequences_back, waveform-long    it passes the tests at its waveform
--     all-wide           its samples have octets
--     tabulate-is        a list is the values at its places
--     reported_again     its channels are reported as they are
--     recorded_back      it is recorded as it was
-- Assumes nothing.
use Prim.Native.Nat.{ℕ, zero, suc, ◌*◌, ◌≤◌, ◌<◌}
use mathlib.Core.Path.{◌≡◌, refl, sym, ap₂, ◌∙◌}
use mathlib.Core.List.{List, [], ◌∷◌, map}
use mathlib.Core.Logic.{◌⊎◌, inl, inr}
use mathlib.Core.Bool.{true, false}
use native.Mathlib.Nat.{zero-mul, zero-div}
use native.Mathlib.Decide.{ℕ_discrete}
use native.Mathlib.Omega.{arith}
use borrow.Author.Tests.{eq-eqb, ne_eqb}
use lib.ListN.{length, get_or}
use Rattle.octets.proofs.Pick.{either_true}
use Rattle.stores.proofs.Number.{number_back}
use Rattle.values.specs.declared.Bits.{Bits}
use Rattle.settings.specs.declared.Settings.{Settings}
use Rattle.layout.specs.Frame.{offset_bits, Frame, width_in, width_agrees, channel_agrees, all_agree, channel_in, reported}
use Rattle.laid.specs.Laid.{Named, sample_bits}
use Rattle.there.specs.There.{there_in, there_octets, Wide, There}
use Rattle.there.proofs.Places.{there-counted, there-few}
use Rattle.framing.specs.Framing.{sequences_of}
use Rattle.canonical.specs.Recording.{Recorded, tabulate, recorded_frame}
use Rattle.canonical.specs.Canonical.{waveform_of}
use Rattle.canonical.proofs.Good.{GoodReported, AllReported, GoodRecorded}
use Rattle.canonical.proofs.Waveform.{there-length, there-at, there-same}
use Rattle.canonical.proofs.Effects.{width_good}

-- The frame that a recorded one gives, its waveform at a place.
abbrev pub frame_of : Recorded → ℕ → Frame
frame_of r place =
    record { start = r.start; place = place; little = false; sequences = r.sequences; channels = r.channels; waveform = waveform_of r }

-- ---- the tests

width_agrees_lem : (w : ℕ) (b : Bits) → (b.width ≡ 0) ⊎ (b.width ≡ w) → width_agrees w b ≡ true
unfolding width_agrees
width_agrees_lem w b (inl z) = simp (eq-eqb b.width 0 z)
width_agrees_lem w b (inr e) = simp (eq-eqb b.width w e, either_true)

pub all_agree_lem : (cs : List Settings) → AllReported cs → all_agree cs ≡ true
unfolding all_agree channel_agrees
all_agree_lem [] g = refl
all_agree_lem (c ∷ cs) g =
    rw (width_agrees_lem (width_in c) c.offset (inr g.0.offset_width), width_agrees_lem (width_in c) c.null g.0.null_width) (all_agree_lem cs g.1)

pub sequences_back : (n long octets : ℕ) → long ≤ n * octets → n ≡ sequences_of n long octets
unfolding sequences_of
sequences_back n long octets h = by (ℕ_discrete n 0)
  where
    by : Dec (n ≡ 0) → n ≡ sequences_of n long octets
    by (yes z) = let e : long ≡ 0 = omega (arith, rw (z, zero-mul) at h) in rw (z, e) (sym (zero-div octets))
    by (no z) = simp (ne_eqb n 0 z)

pub all-wide : (cs : List Settings) → AllReported cs → Wide cs
all-wide [] g c h = let z : ⊥ = omega arith in absurd z
all-wide (s ∷ cs) g zero h = (width_good s.datatype g.0.datatype).some
all-wide (s ∷ cs) g (suc c) h = all-wide cs g.1 c (omega arith)

-- ---- the samples

pub tabulate-is : {A : Type 0} (d : A) (k : ℕ) (g : ℕ → A) (l : List A) → length l ≡ k → ((i : ℕ) → i < k → g i ≡ get_or l i d) → tabulate k g ≡ l
unfolding tabulate
tabulate-is d zero g [] e h = refl
tabulate-is d zero g (a ∷ l) e h = let z : ⊥ = omega arith in absurd z
tabulate-is d (suc k) g [] e h = let z : ⊥ = omega arith in absurd z
tabulate-is d (suc k) g (a ∷ l) e h =
    ap₂ ◌∷◌ (h 0 (omega arith)) (tabulate-is d k (λ i. g (suc i)) l (omega arith) (λ i q. h (suc i) (omega arith)))

module _ (r : Recorded) (good : GoodRecorded r) where
  wide : Wide r.channels
  wide = all-wide r.channels good.channels

  pub waveform-long : length (waveform_of r) ≡ there_octets r.channels r.sequences good.long
  unfolding waveform_of
  waveform-long = there-length r.channels wide r.sequences good.long r.samples good.sized

  module _ (place : ℕ) where
    sample_back : (c n : ℕ) → There r.channels r.sequences good.long c n → n < length (get_or r.samples c []) → sample_bits (frame_of r place) c n ≡ get_or (get_or r.samples c []) n 0
    unfolding sample_bits waveform_of
    sample_back c n h l =
        rw (there-at r.channels wide r.sequences good.long r.samples good.sized c n h)
        (number_back (width_in (channel_in c r.channels)) (get_or (get_or r.samples c []) n 0) (good.bits c n h.named.channel l))

    channel_back : (c : ℕ) → c < length r.channels → tabulate (there_in c (frame_of r place)) (sample_bits (frame_of r place) c) ≡ get_or r.samples c []
    unfolding there_in waveform_of
    channel_back c h =
        let cs = r.channels in
        let long = good.long in
        let e = good.sized c h ∙ sym (there-same cs wide r.sequences long r.samples good.sized c h) in
        tabulate-is 0 (there_in c (frame_of r place)) (sample_bits (frame_of r place) c) (get_or r.samples c []) e
        (λ n l.
        let i : n < length (get_or r.samples c []) = omega (arith, e) in
        let k : Named cs r.sequences c n = record { channel = h; number = omega (arith, good.sized c h, there-few cs r.sequences long c) } in
        sample_back c n (record { named = k; inside = (there-counted k (wide c h)).1 (omega (arith, good.sized c h)) }) i)

reported-is : (c : Settings) → GoodReported c → reported c ≡ c
unfolding reported offset_bits
reported-is c g =
    let n : c.offset.width ≡ 0 → ⊥ = λ z. omega (arith, (width_good c.datatype g.datatype).some, g.offset_width) in
    simp (ne_eqb c.offset.width 0 n)

pub reported_again : (cs : List Settings) → AllReported cs → map reported cs ≡ cs
reported_again [] g = refl
reported_again (c ∷ cs) g = ap₂ ◌∷◌ (reported-is c g.0) (reported_again cs g.1)

pub recorded_back : (r : Recorded) → GoodRecorded r → (place : ℕ) → recorded_frame (frame_of r place) ≡ r
unfolding recorded_frame
recorded_back r good place =
    let cs = reported_again r.channels good.channels in
    let samples = tabulate-is [] (length r.channels) (λ c. tabulate (there_in c (frame_of r place)) (sample_bits (frame_of r place) c)) r.samples good.counted (channel_back r good place) in
    λ i. record { start = r.start; sequences = r.sequences; channels = cs i; samples = samples i }
