-- Files of made frames read back.
--     scale_good, made_good, record_good    each number of a made frame is in its range
--     went_in          a made frame is recorded as exactly what went in
--     file-is          a file of made frames is the canonical file of what went in
--     made_read        it is accepted, and reads back
-- Assumes nothing.
use mathlib.Core.Path.{◌≡◌, refl, sym, ap, ap₂, ◌∙◌, subst}
use mathlib.Core.Logic.{◌⊎◌, inl, inr}
use mathlib.Core.Bool.{Bool, true, false}
use mathlib.Core.List.{List, [], ◌∷◌, ◌++◌, map}
use Prim.Native.Nat.{ℕ, zero, suc, ◌^◌, ◌≤◌, ◌<◌, ◌*◌}
use native.Mathlib.Omega.{arith}
use lib.IntN.{ℤ, pos, negsuc}
use lib.ListN.{length, get_or, length-map}
use Rattle.octets.specs.Number.{Octets}
use Rattle.octets.specs.Pick.{pick, either}
use Rattle.octets.proofs.Pick.{both_split}
use Rattle.values.specs.declared.Bits.{Bits}
use Rattle.settings.specs.declared.Settings.{Settings}
use Rattle.settings.specs.Settings.{block_limit, last_data_type, last_interval_unit, last_resolution_unit}
use Rattle.definitions.specs.Define.{bits_length}
use Rattle.layout.specs.Frame.{width_in, channel_in}
use Rattle.there.specs.There.{there_in}
use Rattle.there.proofs.Places.{there-all}
use Rattle.laid.specs.Laid.{Named, sample_bits}
use Rattle.standing.specs.Standing.{octets_limit, frames_limit}
use Rattle.verdict.proofs.Every.{Every}
use Rattle.reader.proofs.Good.{GoodSettings, GoodFrame}
use Rattle.reader.proofs.Checks.{check-accepted}
use Rattle.canonical.specs.Recording.{Recorded, tabulate, recorded_frame}
use Rattle.canonical.specs.Canonical.{waveform_of, frame_octets, frames_octets, canonical}
use Rattle.canonical.specs.Write.{recording_of, canonical_of}
use Rattle.canonical.proofs.Good.{GoodScale, GoodReported, AllReported, GoodRecorded, AllRecorded}
use Rattle.canonical.proofs.Effects.{width_good}
use Rattle.canonical.proofs.Recordings.{all_agree_lem, reported_again}
use Rattle.canonical.proofs.Accepted.{tabulate-length, tabulate-at, frame-recorded}
use Rattle.canonical.proofs.ReadBack.{Reads, read_back}
use Rattle.maker.specs.Given.{GivenScale, Given, given_at, last_code, last_mantissa, within, natural_of, width_given, scale_in_table, bits_fit, no_null, numbers_in_table, bits_in_table, in_table, all_in_table, scale_made, bits_made, null_made, settings_made}
use Rattle.maker.specs.Make.{Making, settings_fit, samples_fit, channels_in, frame_made, record_made}
use Rattle.maker.proofs.Numbers.{within_low, within_high, exponent_small}
use Rattle.maker.proofs.Channels.{numbers_split, ScaleFits, scale_split, row_split, fit_at, made-long, made_at}
use Rattle.maker.proofs.Makes.{frame_split, settings_split, made-lies, made-waveform}
use Rattle.theorems.specs.Told.{zero_recorded}
use Rattle.theorems.specs.Making.{MadeFrame, AllMade, concatenated, file_of, ScaleSays, ChannelSays, AllThere, WentIn, no_making, ReadsBack}
use Rattle.theorems.proofs.Canonical.{recording-is, recording-long}
use Rattle.theorems.proofs.Allowed.{allowed_by, samples_by, bits_by, none_by, made_exactly}

-- ---- numbers

-- A number of a range that starts at 0 or above.
natural_back : (low high : ℕ) (z : ℤ) → within low high z ≡ true → pos (natural_of z) ≡ z
natural_back low high (pos n) e = refl
natural_back low high (negsuc k) e = let z : ◌≡◌ {A = ℕ} 0 1 = cc in let w : ⊥ = omega arith in absurd w

scale_good : (last : ℕ) (x : GivenScale) → ScaleFits last x → GoodScale last (scale_made x)
scale_good last x f =
    record {
      unit = f.unit;
      exponent = exponent_small x.exponent f.exponent;
      value = natural_of x.mantissa;
      mantissa = sym (natural_back 1 last_mantissa x.mantissa f.mantissa);
      low = within_low 1 last_mantissa x.mantissa f.mantissa;
      high = omega (arith, within_high 1 last_mantissa x.mantissa f.mantissa);
    }

-- A null has the sample's width and fits it, or there is none.
NullGood : ℕ → Bits → Type 0
NullGood width b = ((b.width ≡ 0) ⊎ (b.width ≡ width)) × (b.bits < 256 ^ b.width)

null_good : (g : Given) → either (no_null g.null_width) (bits_fit (width_given g) g.null) ≡ true → NullGood (width_given g) (null_made g)
unfolding null_made NullGood
null_good g e = by (no_null g.null_width) e
  where
    by : (t : Bool) → either t (bits_fit (width_given g) g.null) ≡ true → NullGood (width_given g) (pick t (bits_made 0 0) (bits_made (width_given g) g.null))
    by true e = (inl refl, omega arith)
    by false e = (inr refl, (bits_by (width_given g) g.null).0 e)

pub made_good : (g : Given) → in_table g ≡ true → GoodReported (settings_made g)
unfolding settings_made bits_in_table NullGood
made_good g e =
    let f = row_split g e in
    let n = numbers_split g f.numbers in
    let b = both_split (bits_fit (width_given g) g.offset) _ f.bits in
    let null = null_good g b.1 in
    record {
      block_low = n.some;
      block_high = n.most;
      class = omega (arith, n.class);
      lead = omega (arith, n.lead);
      datatype = n.datatype;
      interval = scale_good last_interval_unit g.interval (scale_split last_interval_unit g.interval f.interval);
      resolution = scale_good last_resolution_unit g.resolution (scale_split last_resolution_unit g.resolution f.resolution);
      offset_width = refl;
      offset = (bits_by (width_given g) g.offset).0 b.0;
      null_width = null.0;
      null = null.1;
    }

all_good : (n : ℕ) (f : ℕ → Given) → all_in_table (tabulate n f) ≡ true → AllReported (map settings_made (tabulate n f))
unfolding tabulate all_in_table
all_good zero f e = tt
all_good (suc n) f e =
    let h = both_split (in_table (f 0)) (all_in_table (tabulate n (λ i. f (suc i)))) e in
    (made_good (f 0) h.0, all_good n (λ i. f (suc i)) h.1)

-- What a recording holds may stand in a frame.
settings_good : (c : Settings) → GoodReported c → GoodSettings c
settings_good c g =
    let w = width_good c.datatype g.datatype in
    record {
      block_low = g.block_low;
      block_high = g.block_high;
      class = g.class;
      lead = g.lead;
      datatype = g.datatype;
      interval = g.interval;
      resolution = g.resolution;
      offset = rw g.offset_width g.offset;
      offset_width = rw g.offset_width w.fits;
      null = g.null;
      null_width = by g.null_width w.fits;
    }
  where
    by : (c.null.width ≡ 0) ⊎ (c.null.width ≡ width_in c) → bits_length (width_in c) ≡ true → bits_length c.null.width ≡ true
    by (inl z) e = rw z
    by (inr q) e = rw q e

every_good : (cs : List Settings) → AllReported cs → Every GoodSettings cs
every_good [] g = tt
every_good (c ∷ cs) g = (settings_good c g.0, every_good cs g.1)

-- ---- a frame

module _ (m : Making) (s : settings_fit m ≡ true) (f : samples_fit m ≡ true) (o : Octets m.samples) where
  channels_good : AllReported (channels_in m)
  channels_good = all_good m.channels (given_at m.numbers m.bits) (settings_split m s).1

  frame_good : GoodFrame (frame_made m)
  frame_good =
      record {
        channels = every_good (channels_in m) channels_good;
        agree = all_agree_lem (channels_in m) channels_good;
        sequences = omega (arith, (frame_split _ _ _ _ _ (settings_split m s).0).most);
        octets = o;
      }

  pub record_good : GoodRecorded (record_made m)
  unfolding record_made
  record_good = frame-recorded m.samples (frame_made m) (made-lies m s f) frame_good

  -- The frame of the recording, its channels as they were made.
  plain : Recorded
  plain =
      record {
        start = m.start;
        sequences = m.sequences;
        channels = channels_in m;
        samples = tabulate (length (channels_in m)) (λ c. tabulate (there_in c (frame_made m)) (sample_bits (frame_made m) c));
      }

  plain_is : record_made m ≡ plain
  unfolding plain record_made recorded_frame
  plain_is = λ i. record { start = m.start; sequences = m.sequences; channels = reported_again (channels_in m) channels_good i; samples = plain.samples }

-- ---- what went in

scale_says : (last : ℕ) (x : GivenScale) → scale_in_table last x ≡ true → ScaleSays (scale_made x) x
unfolding scale_in_table
scale_says last x e =
    record { unit = natural_back 0 last x.unit (both_split (within 0 last x.unit) _ e).0; exponent = refl; mantissa = refl }

-- A null as it was handed over.
null-none : (g : Given) → g.null_width ≡ pos 0 → (null_made g).width ≡ 0
unfolding null_made
null-none g z = rw ((none_by g.null_width).1 z)

null-some : (g : Given) → (g.null_width ≡ pos 0 → ⊥) → ((null_made g).width ≡ width_given g) × ((null_made g).bits ≡ g.null)
unfolding null_made
null-some g n = by (no_null g.null_width) refl
  where
    by : (t : Bool) → no_null g.null_width ≡ t → ((pick t (bits_made 0 0) (bits_made (width_given g) g.null)).width ≡ width_given g) × ((pick t (bits_made 0 0) (bits_made (width_given g) g.null)).bits ≡ g.null)
    by true q = absurd (n ((none_by g.null_width).0 q))
    by false q = (refl, refl)

channel_says : (g : Given) → in_table g ≡ true → ChannelSays (settings_made g) g
unfolding settings_made numbers_in_table
channel_says g e =
    let f = row_split g e in
    let a = both_split (within 1 block_limit g.block) _ f.numbers in
    let b = both_split (within 0 last_code g.class) _ a.1 in
    let c = both_split (within 0 last_code g.lead) _ b.1 in
    record {
      block = natural_back 1 block_limit g.block a.0;
      class = natural_back 0 last_code g.class b.0;
      lead = natural_back 0 last_code g.lead c.0;
      datatype = natural_back 0 last_data_type g.datatype c.1;
      interval = scale_says last_interval_unit g.interval f.interval;
      resolution = scale_says last_resolution_unit g.resolution f.resolution;
      offset_width = refl;
      offset = refl;
      none = null-none g;
      null = null-some g;
    }

module _ (m : Making) (s : settings_fit m ≡ true) (f : samples_fit m ≡ true) (o : Octets m.samples) where
  abbrev made : Recorded
  made = plain m s f o

  -- All samples are there.
  there_in_lem : (c : ℕ) → c < length (channels_in m) → there_in c (frame_made m) ≡ m.sequences * (channel_in c (channels_in m)).block
  unfolding there_in
  there_in_lem c h = there-all (channels_in m) (made-lies m s f).wide m.sequences (length m.samples) (omega (arith, (samples_by m).0 f)) c h

  samples_in : (c : ℕ) → c < length (channels_in m) → get_or made.samples c [] ≡ tabulate (there_in c (frame_made m)) (sample_bits (frame_made m) c)
  unfolding plain
  samples_in c h = tabulate-at (length (channels_in m)) (λ k. tabulate (there_in k (frame_made m)) (sample_bits (frame_made m) k)) c [] h

  all_there : AllThere made
  unfolding plain
  all_there c h = rw (samples_in c h) (tabulate-length (there_in c (frame_made m)) (sample_bits (frame_made m) c) ∙ there_in_lem c h)

  -- The bits of a sample.
  bits_in : (c n : ℕ) → Named (channels_in m) m.sequences c n → get_or (get_or made.samples c []) n 0 ≡ sample_bits (frame_made m) c n
  bits_in c n h =
      rw (samples_in c h.channel)
      (tabulate-at (there_in c (frame_made m)) (sample_bits (frame_made m) c) n 0 (omega (arith, there_in_lem c h.channel, h.number)))

  plain_went : WentIn m made
  unfolding plain sample_bits
  plain_went =
      record {
        start = refl;
        sequences = refl;
        channels = made-long m.channels m.numbers m.bits;
        settings = λ c h.
            rw (made_at m.channels m.numbers m.bits c h)
            (channel_says (given_at m.numbers m.bits c) (fit_at m.channels (given_at m.numbers m.bits) (settings_split m s).1 c h));
        there = all_there;
        bits = bits_in;
        waveform = ap waveform_of (sym (plain_is m s f o)) ∙ made-waveform m s f o;
      }

  pub went_in : WentIn m (record_made m)
  went_in = subst (WentIn m) (sym (plain_is m s f o)) plain_went

-- ---- a file

-- What is known of a frame that is made.
pub record Known (m : Making) (octets : List ℕ) : Type 0 where
  pub good : GoodRecorded (record_made m)
  pub went : WentIn m (record_made m)
  pub is : octets ≡ frame_octets (record_made m)

pub made_known : {m : Making} {octets : List ℕ} → MadeFrame m octets → Known m octets
made_known {m} {octets} p =
    let e = ((made_exactly m p.room).made octets).0 p.made in
    let s = (allowed_by m).1 e.0 in
    let f = (samples_by m).1 e.1 in
    record { good = record_good m s f p.samples; went = went_in m s f p.samples; is = e.3 }

all-recorded : (ms : List Making) (os : List (List ℕ)) → AllMade ms os → AllRecorded (map record_made ms)
all-recorded [] [] p = tt
all-recorded (m ∷ ms) (o ∷ os) p = ((made_known p.0).good, all-recorded ms os p.1)
all-recorded [] (o ∷ os) p = absurd p
all-recorded (m ∷ ms) [] p = absurd p

frames_are : (ms : List Making) (os : List (List ℕ)) → AllMade ms os → concatenated os ≡ frames_octets (map record_made ms)
unfolding frames_octets
frames_are [] [] p = refl
frames_are (m ∷ ms) (o ∷ os) p = ap₂ ◌++◌ (made_known p.0).is (frames_are ms os p.1)
frames_are [] (o ∷ os) p = absurd p
frames_are (m ∷ ms) [] p = absurd p

pub file-is : (ms : List Making) (os : List (List ℕ)) → AllMade ms os → 0 < length ms → file_of os ≡ canonical (map record_made ms)
unfolding canonical
file-is [] os p h = let z : ⊥ = omega arith in absurd z
file-is (m ∷ ms) os p h = ap (λ (x : List ℕ). 0x01 ∷ 0x01 ∷ 0x00 ∷ x) (frames_are (m ∷ ms) os p)

all_in : (ms : List Making) (os : List (List ℕ)) → AllMade ms os → (i : ℕ) → i < length ms → WentIn (get_or ms i no_making) (get_or (map record_made ms) i zero_recorded)
all_in [] [] p i h = let z : ⊥ = omega arith in absurd z
all_in (m ∷ ms) (o ∷ os) p zero h = (made_known p.0).went
all_in (m ∷ ms) (o ∷ os) p (suc i) h = all_in ms os p.1 i (omega arith)
all_in [] (o ∷ os) p i h = absurd p
all_in (m ∷ ms) [] p i h = absurd p

-- "Reading what was written gives the settings and samples again."
pub made_read : (ms : List Making) (os : List (List ℕ)) → AllMade ms os → 0 < length ms → length ms ≤ frames_limit → length (file_of os) ≤ octets_limit → ReadsBack ms (file_of os)
unfolding canonical_of
made_read ms os p some few short =
    let file = file-is ms os p some in
    let n : length (map record_made ms) ≡ length ms = length-map ms record_made in
    let r : Reads (file_of os) (map record_made ms) = rw file (read_back (map record_made ms) (all-recorded ms os p) (rw n few) (subst (λ (x : List ℕ). length x ≤ octets_limit) file short)) in
    let q : recording_of (file_of os) ≡ map record_made ms = recording-is (file_of os) r.frames r.is ∙ r.recorded in
    let l : length r.frames ≡ length ms = sym (recording-long r.frames) ∙ ap length r.recorded ∙ n in
    record {
      check = (check-accepted (file_of os) (length ms)).1 (r.frames, r.is, l);
      recorded = q;
      frames = λ i h. rw q (all_in ms os p i h);
      own = ap canonical q ∙ sym file;
    }
