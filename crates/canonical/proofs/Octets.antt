-- The octets of a canonical file, as a writer puts them: the samples as runs of the file's octets, and how many octets there are.
--     be-little       octets that stand lowest first, written highest first
--     waveform-octets    how many octets a frame's samples there take
--     waveform_big, waveform-little    these samples: as they stand, or each turned about
--     frame-long, frames-long, canonical-long, canonical-none    frames and the file
-- Assumes nothing.
use Prim.Native.Nat.{ℕ, zero, suc, ◌+◌, ◌*◌, ◌/◌, ◌%◌, ◌<◌, min}
use mathlib.Core.Path.{◌≡◌, refl, sym, ap, ◌∙◌}
use mathlib.Core.List.{List, [], ◌∷◌, map, reverse, reverse_aux-eq}
use mathlib.Core.Bool.{Bool, true, false}
use native.Mathlib.Omega.{arith}
use lib.ListN.{length, get_or, take, drop, length-append, length-take, length-drop}
use Rattle.octets.specs.Pick.{pick}
use Rattle.octets.specs.Number.{Octets, little_of, number_of}
use Rattle.octets.proofs.Laws.{take-octets, drop-octets}
use Rattle.stores.specs.Number.{be}
use Rattle.stores.proofs.Number.{octets_back}
use Rattle.settings.specs.declared.Settings.{Settings}
use Rattle.layout.specs.Frame.{Frame, width_in, channel_in, offset_of, reported}
use Rattle.sizes.specs.Size.{frame_size}
use Rattle.laid.specs.Laid.{sequence, laid_from, laid, sample_octets, sample_bits}
use Rattle.laid.proofs.Laid.{laid_same}
use Rattle.there.specs.There.{there_in, octets_there, Wide, There}
use Rattle.there.specs.Turned.{turned_there}
use Rattle.there.proofs.Places.{there-counted}
use Rattle.pass.specs.Scan.{size_of, sizes}
use Rattle.verdict.proofs.Every.{Every}
use Rattle.canonical.specs.Recording.{recorded_frame, recording}
use Rattle.canonical.specs.Canonical.{octets_in, longest, waveform_of, frame_octets, frames_octets, canonical}
use Rattle.groups.proofs.Sizes.{length-item, head-long, groups-long}
use Rattle.canonical.proofs.Waveform.{laid_there, there_big, there-little, there-length}
use Rattle.canonical.proofs.Accepted.{width_at, samples-sized, sample-at}

-- ---- the octets of a number

pub be-little : (v : List ℕ) → Octets v → be (length v) (little_of v) ≡ reverse v
unfolding be little_of
be-little [] o = refl
be-little (b ∷ v) o =
    let h : b < 256 = o 0 in
    let e : (little_of v * 256 + b) / 256 ≡ little_of v = omega arith in
    let f : (little_of v * 256 + b) % 256 ≡ b = omega arith in
    rw (e, f, be-little v (λ i. o (suc i))) (sym (reverse_aux-eq v (b ∷ [])))

-- ---- channels as a recording has them

-- They have the frame's block lengths and widths.
sequence-reported : (g : ℕ → ℕ → List ℕ) (k : ℕ) (cs : List Settings) (q : ℕ) → sequence g k (map reported cs) q ≡ sequence g k cs q
unfolding sequence reported
sequence-reported g k [] q = refl
sequence-reported g k (c ∷ cs) q = rw (sequence-reported g (suc k) cs q)

laid_from_reported : (g : ℕ → ℕ → List ℕ) (cs : List Settings) (q m : ℕ) → laid_from g (map reported cs) q m ≡ laid_from g cs q m
unfolding laid_from
laid_from_reported g cs q zero = refl
laid_from_reported g cs q (suc m) = rw (sequence-reported g 0 cs q, laid_from_reported g cs (suc q) m)

laid-reported : (g : ℕ → ℕ → List ℕ) (cs : List Settings) (S : ℕ) → laid g (map reported cs) S ≡ laid g cs S
unfolding laid
laid-reported g cs S = laid_from_reported g cs 0 S

-- ---- a waveform

-- Octets as they stand, or turned about where they stand lowest first.
abbrev highest_first : Bool → List ℕ → List ℕ
highest_first little v = pick little (reverse v) v

number_written : (little : Bool) (w : ℕ) (v : List ℕ) → length v ≡ w → Octets v → be w (number_of little v) ≡ highest_first little v
unfolding number_of
number_written true w v e o = rw (← e) (be-little v o)
number_written false w v e o = rw (← e) (octets_back v o)

module _ (f : Frame) (wide : Wide f.channels) where
  abbrev cs : List Settings
  cs = f.channels

  abbrev samples : List (List ℕ)
  samples = (recorded_frame f).samples

  -- A sample has the same octets by the frame's channels.
  octets-same : (c n : ℕ) → c < length cs → octets_in (map reported cs) samples c n ≡ octets_in cs samples c n
  unfolding octets_in
  octets-same c n h = rw (width_at cs c h)

  waveform-there : waveform_of (recorded_frame f) ≡ laid_there cs f.sequences samples
  unfolding waveform_of recorded_frame
  waveform-there =
      let m = min f.sequences (longest samples) in
      laid-reported (octets_in (map reported cs) samples) cs m ∙ laid_same _ _ cs m (λ c n h. octets-same c n h.channel)

  pub waveform-octets : length (waveform_of (recorded_frame f)) ≡ octets_there f
  unfolding octets_there
  waveform-octets = ap length waveform-there ∙ there-length cs wide f.sequences (length f.waveform) samples (samples-sized f)

  module _ (octets : Octets f.waveform) where
    -- A sample's octets in the canonical file are those of the waveform, highest first.
    sample_written : (c n : ℕ) → There cs f.sequences (length f.waveform) c n → be (width_in (channel_in c cs)) (get_or (get_or samples c []) n 0) ≡ highest_first f.little (sample_octets cs f.waveform c n)
    unfolding sample_bits there_in
    sample_written c n h =
        let w = width_in (channel_in c cs) in
        let o = offset_of cs c n in
        let v = sample_octets cs f.waveform c n in
        let long : length v ≡ w = simp (length-take, length-drop) (omega (arith, h.inside)) in
        let there = (there-counted h.named (wide c h.named.channel)).0 h.inside in
        ap (be w) (sample-at f c n h.named.channel there)
        ∙ number_written f.little w v long (take-octets w (drop o f.waveform) (drop-octets o f.waveform octets))

    pub waveform_big : f.little ≡ false → waveform_of (recorded_frame f) ≡ take (octets_there f) f.waveform
    unfolding octets_there
    waveform_big e =
        waveform-there
        ∙ there_big cs wide f.sequences (length f.waveform) samples (samples-sized f) f.waveform
        (λ c n h. sample_written c n h ∙ ap (λ (b : Bool). highest_first b (sample_octets cs f.waveform c n)) e)

    pub waveform-little : f.little ≡ true → waveform_of (recorded_frame f) ≡ turned_there cs (octets_there f) f.waveform
    unfolding octets_there
    waveform-little e =
        waveform-there
        ∙ there-little cs wide f.sequences (length f.waveform) samples (samples-sized f) f.waveform
        (λ c n h. sample_written c n h ∙ ap (λ (b : Bool). highest_first b (sample_octets cs f.waveform c n)) e)

-- ---- how many octets

pub frame-long : (f : Frame) → Wide f.channels → length (frame_octets (recorded_frame f)) ≡ size_of f
unfolding frame_octets recorded_frame size_of frame_size
frame-long f wide = simp (length-append, head-long, groups-long, length-item, waveform-octets f wide) (omega arith)

pub frames-long : (fs : List Frame) → Every (λ f. Wide f.channels) fs → length (frames_octets (recording fs)) ≡ sizes fs
unfolding frames_octets recording sizes
frames-long [] w = refl
frames-long (f ∷ fs) w = rw (length-append, frame-long f w.0, frames-long fs w.1)

pub canonical-long : (fs : List Frame) → Every (λ f. Wide f.channels) fs → (length fs ≡ 0 → ⊥) → length (canonical (recording fs)) ≡ 3 + sizes fs
unfolding canonical recording
canonical-long [] w h = absurd (h refl)
canonical-long (f ∷ fs) w h = omega (arith, frames-long (f ∷ fs) w)

pub canonical-none : (fs : List Frame) → length fs ≡ 0 → canonical (recording fs) ≡ []
unfolding canonical recording
canonical-none [] h = refl
canonical-none (f ∷ fs) h = let z : ⊥ = omega arith in absurd z
