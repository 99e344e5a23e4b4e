-- The recording of an accepted file has each number in its range, and of each channel the samples that are there.
--     tabulate-length, tabulate-at    a list of values by number
--     reported_good         a channel's attributes as a recording has them
--     width_at              its sample width
--     samples-sized, sample-at    the samples of a frame
--     frame-recorded        one frame
--     accepted-recorded, accepted-wide    all frames of an accepted file
-- Assumes nothing.
use mathlib.Core.Path.{◌≡◌, refl, sym, ap, ◌∙◌}
use mathlib.Core.Logic.{◌⊎◌, inl, inr}
use mathlib.Core.List.{List, [], ◌∷◌, map}
use mathlib.Core.Bool.{Bool, true, false}
use Prim.Native.Nat.{ℕ, zero, suc, ◌^◌, ◌<◌}
use native.Mathlib.Nat.{not-suc-le-zero, le_of_suc-le-suc}
use native.Mathlib.Omega.{arith}
use borrow.Author.Tests.{eqb-true}
use lib.Dec.{eqb}
use lib.ListN.{length, get_or, take, drop, length-map}
use Rattle.octets.specs.Number.{Octets}
use Rattle.octets.specs.Pick.{pick, either}
use Rattle.octets.proofs.Pick.{both_split}
use Rattle.octets.proofs.Laws.{number_first, drop-octets, range_pos}
use Rattle.values.specs.declared.Bits.{Bits}
use Rattle.settings.specs.declared.Settings.{Settings}
use Rattle.settings.specs.Settings.{zero_settings}
use Rattle.layout.specs.Frame.{offset_bits, Frame, width_in, block_octets, sequence_octets, octets_below, channel_in, width_agrees, channel_agrees, offset_of, reported}
use Rattle.laid.specs.Laid.{sample_bits}
use Rattle.there.specs.There.{count_there, there_of, there_in, Wide}
use Rattle.verdict.specs.Verdict.{accepted, verdict}
use Rattle.verdict.proofs.Every.{Every, every_imp}
use Rattle.reader.proofs.Ordered.{Lies, every_lies}
use Rattle.reader.proofs.Good.{GoodSettings, GoodFrame, agree_every, every_good}
use Rattle.canonical.specs.Recording.{tabulate, recorded_frame, recording}
use Rattle.canonical.proofs.Waveform.{SamplesSized}
use Rattle.canonical.proofs.Good.{GoodReported, AllReported, GoodRecorded, AllRecorded}

-- ---- lists by number

module _ {A : Type 0} where
  pub tabulate-length : (k : ℕ) (g : ℕ → A) → length (tabulate k g) ≡ k
  unfolding tabulate
  tabulate-length zero g = refl
  tabulate-length (suc k) g = ap suc (tabulate-length k (λ i. g (suc i)))

  pub tabulate-at : (k : ℕ) (g : ℕ → A) (i : ℕ) (d : A) → i < k → get_or (tabulate k g) i d ≡ g i
  unfolding tabulate
  tabulate-at zero g i d h = absurd (not-suc-le-zero h)
  tabulate-at (suc k) g zero d h = refl
  tabulate-at (suc k) g (suc i) d h = tabulate-at k (λ j. g (suc j)) i d (le_of_suc-le-suc h)

pub map_at : {A B : Type 0} (f : A → B) (l : List A) (i : ℕ) (a : A) (b : B) → i < length l → get_or (map f l) i b ≡ f (get_or l i a)
map_at f [] i a b h = absurd (not-suc-le-zero h)
map_at f (x ∷ l) zero a b h = refl
map_at f (x ∷ l) (suc i) a b h = map_at f l i a b (le_of_suc-le-suc h)

-- ---- channels

-- Bits that agree are not defined, or have the sample's width.
agrees_by : (width : ℕ) (b : Bits) → width_agrees width b ≡ true → (b.width ≡ 0) ⊎ (b.width ≡ width)
unfolding width_agrees
agrees_by width b e = by (eqb b.width 0) refl e
  where
    by : (t : Bool) → eqb b.width 0 ≡ t → either t (eqb b.width width) ≡ true → (b.width ≡ 0) ⊎ (b.width ≡ width)
    by true q e = inl (eqb-true b.width 0 q)
    by false q e = inr (eqb-true b.width width e)

-- Where the offset is not defined it is zero bits of the sample's width.
abbrev Sized : ℕ → Bits → Type 0
Sized width b = (b.width ≡ width) × (b.bits < 256 ^ width)

offset_good : (c : Settings) → GoodSettings c → width_agrees (width_in c) c.offset ≡ true → Sized (width_in c) (offset_bits c)
unfolding offset_bits width_agrees
offset_good c g a = by (eqb c.offset.width 0) a
  where
    by : (t : Bool) → either t (eqb c.offset.width (width_in c)) ≡ true → Sized (width_in c) (pick t (record { width = width_in c; bits = 0 }) c.offset)
    by true e = (refl, range_pos (width_in c))
    by false e =
        let w : c.offset.width ≡ width_in c = eqb-true c.offset.width (width_in c) e in
        (w, rw w at g.offset)

pub reported_good : (c : Settings) → GoodSettings c → channel_agrees c ≡ true → GoodReported (reported c)
unfolding reported channel_agrees
reported_good c g a =
    let h = both_split (width_agrees (width_in c) c.offset) (width_agrees (width_in c) c.null) a in
    let o = offset_good c g h.0 in
    record {
      block_low = g.block_low;
      block_high = g.block_high;
      class = g.class;
      lead = g.lead;
      datatype = g.datatype;
      interval = g.interval;
      resolution = g.resolution;
      offset_width = o.0;
      offset = o.1;
      null_width = agrees_by (width_in c) c.null h.1;
      null = g.null;
    }

all-reported : (cs : List Settings) → Every GoodSettings cs → Every (λ c. channel_agrees c ≡ true) cs → AllReported (map reported cs)
all-reported [] g a = tt
all-reported (c ∷ cs) g a = (reported_good c g.0 a.0, all-reported cs g.1 a.1)

-- A channel of the recording is that of the frame.
block_at : (cs : List Settings) (c : ℕ) → c < length cs → (channel_in c (map reported cs)).block ≡ (channel_in c cs).block
unfolding reported
block_at cs c h = ap (λ (x : Settings). x.block) (map_at reported cs c zero_settings zero_settings h)

pub width_at : (cs : List Settings) (c : ℕ) → c < length cs → width_in (channel_in c (map reported cs)) ≡ width_in (channel_in c cs)
unfolding reported
width_at cs c h = ap width_in (map_at reported cs c zero_settings zero_settings h)

octets-reported : (cs : List Settings) → sequence_octets (map reported cs) ≡ sequence_octets cs
unfolding sequence_octets block_octets reported
octets-reported [] = refl
octets-reported (c ∷ cs) = rw (octets-reported cs)

below-reported : (c : ℕ) (cs : List Settings) → octets_below c (map reported cs) ≡ octets_below c cs
unfolding octets_below
below-reported c cs = ap sequence_octets (take-map c cs) ∙ octets-reported (take c cs)
  where
    take-map : (n : ℕ) (l : List Settings) → take n (map reported l) ≡ map reported (take n l)
    take-map zero l = refl
    take-map (suc n) [] = refl
    take-map (suc n) (x ∷ l) = ap (λ (u : List Settings). reported x ∷ u) (take-map n l)

-- As many of its samples are there.
there-reported : (cs : List Settings) (sequences long c : ℕ) → c < length cs → there_of (map reported cs) sequences long c ≡ there_of cs sequences long c
unfolding there_of
there-reported cs sequences long c h =
    λ i. count_there sequences (block_at cs c h i) (width_at cs c h i) (octets-reported cs i) (below-reported c cs i) long

-- ---- the samples of a frame

module _ (f : Frame) where
  samples-at : (c : ℕ) → c < length f.channels → get_or (recorded_frame f).samples c [] ≡ tabulate (there_in c f) (sample_bits f c)
  unfolding recorded_frame
  samples-at c h = tabulate-at (length f.channels) (λ k. tabulate (there_in k f) (sample_bits f k)) c [] h

  pub samples-sized : SamplesSized f.channels f.sequences (length f.waveform) (recorded_frame f).samples
  unfolding there_in
  samples-sized c h = rw (samples-at c h) (tabulate-length (there_in c f) (sample_bits f c))

  pub sample-at : (c n : ℕ) → c < length f.channels → n < there_in c f → get_or (get_or (recorded_frame f).samples c []) n 0 ≡ sample_bits f c n
  sample-at c n h l = rw (samples-at c h) (tabulate-at (there_in c f) (sample_bits f c) n 0 l)

-- ---- frames

-- The bits of a sample fit its width.
sample-bits : (f : Frame) (channel n : ℕ) → Octets f.waveform → sample_bits f channel n < 256 ^ width_in (channel_in channel f.channels)
unfolding sample_bits
sample-bits f channel n octets =
    let o = offset_of f.channels channel n in
    number_first f.little (drop o f.waveform) (drop-octets o f.waveform octets) (width_in (channel_in channel f.channels))

module _ (s : List ℕ) (f : Frame) (l : Lies s f) (g : GoodFrame f) where
  pub frame-recorded : GoodRecorded (recorded_frame f)
  unfolding recorded_frame there_in
  frame-recorded =
      let cs = f.channels in
      let k : length (map reported cs) ≡ length cs = length-map cs reported in
      record {
        start = l.pointer;
        sequences = g.sequences;
        some = rw k l.some;
        few = rw k l.few;
        channels = all-reported cs g.channels (agree_every cs g.agree);
        counted = tabulate-length (length cs) (λ c. tabulate (there_in c f) (sample_bits f c)) ∙ sym k;
        long = length f.waveform;
        sized = λ c h.
            let i : c < length cs = omega arith in
            samples-sized f c i ∙ sym (there-reported cs f.sequences (length f.waveform) c i);
        bits = λ c n h m.
            let i : c < length cs = omega arith in
            let j : n < there_in c f = rw (samples-sized f c i) at m in
            rw (sample-at f c n i j, width_at cs c i) (sample-bits f c n g.octets);
      }

all-recorded : (s : List ℕ) (fs : List Frame) → Every (Lies s) fs → Every GoodFrame fs → AllRecorded (map recorded_frame fs)
all-recorded s [] l g = tt
all-recorded s (f ∷ fs) l g = (frame-recorded s f l.0 g.0, all-recorded s fs l.1 g.1)

module _ (s : List ℕ) (octets : Octets s) (fs : List Frame) (e : verdict s ≡ accepted fs) where
  pub accepted-recorded : AllRecorded (recording fs)
  unfolding recording
  accepted-recorded =
      all-recorded s fs (every_lies s fs e) (every_good s octets fs e)

-- Samples have octets.
pub accepted-wide : (s : List ℕ) (fs : List Frame) → verdict s ≡ accepted fs → Every (λ f. Wide f.channels) fs
accepted-wide s fs e = every_imp (Lies s) (λ f. Wide f.channels) (λ f l. l.wide) fs (every_lies s fs e)
