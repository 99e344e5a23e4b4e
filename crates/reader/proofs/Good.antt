-- Each number of a frame of an accepted file is in its range.
--     change_good      a value that a definition gives is in its attribute's range
--     every_good, accepted_good    so is each number of each frame of an accepted file
--     agree_every      where 12 was looked for, each channel's offset and null have its sample width
-- Assumes nothing.
use mathlib.Core.Path.{◌≡◌, refl}
use mathlib.Core.List.{List, [], ◌∷◌}
use mathlib.Core.Bool.{Bool, true, false}
use Prim.Native.Nat.{ℕ, suc, ◌-◌, ◌*◌, ◌^◌, ◌≤◌, ◌<◌}
use native.Mathlib.Omega.{arith}
use borrow.Author.Tests.{ltb-true, ltb-false, leb-true, eqb-true}
use lib.Dec.{lit<, ltb, leb, eqb}
use lib.IntN.{pos, negsuc}
use lib.Signed.{mag, lt_z}
use lib.ListN.{length, get_or, take, drop}
use lib.Seq.{take_all}
use Rattle.octets.specs.Pick.{pick, either}
use Rattle.octets.specs.Number.{Octets, range, number_of, twos, signed_of}
use Rattle.octets.proofs.Pick.{both_split}
use Rattle.octets.proofs.Laws.{number_first, take-octets, drop-octets, take-length-le, cap, number-below}
use Rattle.values.specs.declared.Bits.{Bits}
use Rattle.items.specs.declared.Item.{Item}
use Rattle.settings.specs.declared.Scale.{Scale}
use Rattle.settings.specs.declared.Settings.{Settings}
use Rattle.definitions.specs.declared.Attribute.{Attribute}
use Rattle.settings.specs.declared.Change.{Change}
use Rattle.settings.specs.Settings.{block_limit, last_data_type, last_interval_unit, last_resolution_unit, default_settings}
use Rattle.definitions.specs.Define.{bits_length, length_fits, scale_of, bits_of, change_of, scale_fits, in_range}
use Rattle.layout.specs.Frame.{Frame, sequence_octets, channel_agrees, all_agree}
use Rattle.standing.specs.declared.Standing.{Standing}
use Rattle.effects.specs.Effects.{value_at}
use Rattle.standing.specs.Standing.{octets_limit}
use Rattle.framing.specs.Framing.{channels_of}
use Rattle.verdict.specs.Verdict.{State, first_state, frame_channels, frame_at, accepted, verdict}
use Rattle.pass.specs.Scan.{zero_frame}
use Rattle.verdict.proofs.Keeps.{Keeps, accepted_by, accepted-kept}
use Rattle.framing.proofs.Framings.{sequences-small}
use Rattle.verdict.proofs.Steps.{Small, Waveform, waveform_short, TakenBy, ItemStep, passes, stands, resets, changes, sets, frames, meaning_steps}
use Rattle.verdict.proofs.Every.{Every, every_at, every_snoc, every_take, every_imp}
use Rattle.verdict.proofs.Tables.{EachAttribute, Table, table_step, table_first}

-- A unit up to the last one, an exponent of one octet, and a mantissa from 1 on that fits four.
pub record GoodScale (last : ℕ) (x : Scale) : Type 0 where
  pub unit : x.unit ≤ last
  pub exponent : mag x.exponent < 128
  pub value : ℕ
  pub mantissa : x.mantissa ≡ pos value
  pub low : 0 < value
  pub high : value < 2 ^ 31

-- A channel's attributes, as they stand in the table.
pub record GoodSettings (c : Settings) : Type 0 where
  pub block_low : 0 < c.block
  pub block_high : c.block ≤ block_limit
  pub class : c.class < 2 ^ 16
  pub lead : c.lead < 2 ^ 16
  pub datatype : c.datatype ≤ last_data_type
  pub interval : GoodScale last_interval_unit c.interval
  pub resolution : GoodScale last_resolution_unit c.resolution
  pub offset : c.offset.bits < 256 ^ c.offset.width
  pub offset_width : bits_length c.offset.width ≡ true
  pub null : c.null.bits < 256 ^ c.null.width
  pub null_width : bits_length c.null.width ≡ true

pub record GoodFrame (f : Frame) : Type 0 where
  pub channels : Every GoodSettings f.channels
  pub agree : all_agree f.channels ≡ true
  pub sequences : f.sequences < 2 ^ 32
  pub octets : Octets f.waveform

-- ---- one attribute

abbrev GoodBits : Bits → Type 0
GoodBits b = (b.bits < 256 ^ b.width) × (bits_length b.width ≡ true)

-- The same of one attribute's value.
abbrev GoodChange : Change → Type 0
GoodChange (Change.Block n) = (0 < n) × (n ≤ block_limit)
GoodChange (Change.Class n) = n < 2 ^ 16
GoodChange (Change.Lead n) = n < 2 ^ 16
GoodChange (Change.DataType n) = n ≤ last_data_type
GoodChange (Change.Interval x) = GoodScale last_interval_unit x
GoodChange (Change.Resolution x) = GoodScale last_resolution_unit x
GoodChange (Change.Offset x) = GoodBits x
GoodChange (Change.Null x) = GoodBits x

settings_good : (c : Settings) → EachAttribute GoodChange c → GoodSettings c
settings_good c e =
    record {
      block_low = e.block.0;
      block_high = e.block.1;
      class = e.class;
      lead = e.lead;
      datatype = e.datatype;
      interval = e.interval;
      resolution = e.resolution;
      offset = e.offset.0;
      offset_width = e.offset.1;
      null = e.null.0;
      null_width = e.null.1;
    }

default_good : EachAttribute GoodChange default_settings
default_good =
    record {
      block = omega arith;
      class = omega arith;
      lead = omega arith;
      datatype = omega arith;
      interval = record { unit = omega arith; exponent = omega arith; value = 1000; mantissa = refl; low = omega arith; high = omega arith };
      resolution = record { unit = omega arith; exponent = omega arith; value = 1; mantissa = refl; low = omega arith; high = omega arith };
      offset = (lit< tt, refl);
      null = (lit< tt, refl);
    }

-- Bits are at most eight octets.
bits_short : (n : ℕ) → bits_length n ≡ true → n ≤ 8
bits_short n = by (leb n 2) (eqb n 4) (eqb n 8) refl refl refl
  where
    by : (a b c : Bool) → leb n 2 ≡ a → eqb n 4 ≡ b → eqb n 8 ≡ c → either a (either b c) ≡ true → n ≤ 8
    by true b c p q r e = omega (arith, leb-true n 2 p)
    by false true c p q r e = omega (arith, eqb-true n 4 q)
    by false false true p q r e = omega (arith, eqb-true n 8 r)
    by false false false p q r e = let z : ◌≡◌ {A = ℕ} 0 1 = cc in let w : ⊥ = omega arith in absurd w

-- One octet's two's complement number.
exponent-fits : (n : ℕ) → n < 256 → mag (twos 1 n) < 128
unfolding twos
exponent-fits n h = by (ltb (2 * n) 256) refl
  where
    by : (b : Bool) → ltb (2 * n) 256 ≡ b → mag (pick b (pos n) (negsuc (256 - suc n))) < 128
    by true e = omega (arith, ltb-true (2 * n) 256 e)
    by false e = omega (arith, ltb-false (2 * n) 256 e)

-- A two's complement number above 0 is below half of the range.
record Positive (w n : ℕ) : Type 0 where
  pub is : twos w n ≡ pos n
  pub low : 0 < n
  pub high : 2 * n < range w

twos_positive : (w n : ℕ) → lt_z (pos 0) (twos w n) ≡ true → Positive w n
unfolding twos
twos_positive w n = by (ltb (2 * n) (range w)) refl refl
  where
    by : (b : Bool) → ltb (2 * n) (range w) ≡ b → twos w n ≡ pick b (pos n) (negsuc (range w - suc n)) → lt_z (pos 0) (pick b (pos n) (negsuc (range w - suc n))) ≡ true → Positive w n
    by true e q h = record { is = q; low = ltb-true 0 n h; high = ltb-true (2 * n) (range w) e }
    by false e q h = let z : ◌≡◌ {A = ℕ} 0 1 = cc in let w : ⊥ = omega arith in absurd w

module _ (little : Bool) (v : List ℕ) (octets : Octets v) where
  scale_good : (last : ℕ) → scale_fits last (scale_of little v) ≡ true → GoodScale last (scale_of little v)
  unfolding scale_of signed_of
  scale_good last e =
      let m = take 4 (drop 2 v) in
      let n = number_of little m in
      let h = both_split (leb (get_or v 0 0) last) (lt_z (pos 0) (twos (length m) n)) e in
      let p = twos_positive (length m) n h.1 in
      let c = cap (length m) 4 (take-length-le 4 (drop 2 v)) in
      record {
        unit = leb-true (get_or v 0 0) last h.0;
        exponent = exponent-fits (get_or v 1 0) (octets 1);
        value = n;
        mantissa = p.is;
        low = p.low;
        high = omega (arith, p.high, c);
      }

  bits_good : bits_length (length v) ≡ true → GoodBits (bits_of little v)
  bits_good e = rw (take_all 8 v (bits_short (length v) e)) (number-below little v octets, e)

  change_good : (a : Attribute) → length_fits a (length v) ≡ true → in_range (change_of a little v) ≡ true → GoodChange (change_of a little v)
  change_good Attribute.Block f r =
      let n = number_of little (take 4 v) in
      let h = both_split (leb 1 n) (leb n block_limit) r in
      (leb-true 1 n h.0, leb-true n block_limit h.1)
  change_good Attribute.Class f r = number_first little v octets 2
  change_good Attribute.Lead f r = number_first little v octets 2
  change_good Attribute.DataType f r = leb-true (get_or v 0 0) last_data_type r
  change_good Attribute.Interval f r = scale_good last_interval_unit r
  change_good Attribute.Resolution f r = scale_good last_resolution_unit r
  change_good Attribute.Offset f r = bits_good f
  change_good Attribute.Null f r = bits_good f

-- ---- frames

-- What every item keeps.
record Ranged (s : List ℕ) (x : State) : Type 0 where
  pub sequences : Small s x.standing.sequences
  pub table : Table GoodChange x
  pub frames : Every GoodFrame x.frames

module _ (s : List ℕ) (octets : Octets s) where
  value-octets : (start len : ℕ) → Octets (value_at s start len)
  value-octets start len = take-octets len (drop start s) (drop-octets start s octets)

  fresh_good : (a : Attribute) (little : Bool) (start len : ℕ)
      → length_fits a (length (value_at s start len)) ≡ true
      → (length (value_at s start len) ≡ 0 → ⊥)
      → in_range (change_of a little (value_at s start len)) ≡ true
      → GoodChange (change_of a little (value_at s start len))
  fresh_good a little start len f z r = change_good little (value_at s start len) (value-octets start len) a f r

  -- Sequences that stand are a number of four octets.
  sequences-step : (x : State) (i : Item) (y : State) → Small s x.standing.sequences → ItemStep s x i y → Small s y.standing.sequences
  sequences-step x i _ p passes = p
  sequences-step x i _ p (stands y h r q) = q p
  sequences-step x i _ p (resets y h r q) = rw q p
  sequences-step x i _ p (changes ch g) = p
  sequences-step x i _ p (sets channel ch g) = p
  sequences-step x i _ p (frames start long n y w f) = rw f.after p

  module _ (short : length s ≤ octets_limit) where
    frame_good : (x : State) (i : Item) (start long n : ℕ) (y : Standing) → Ranged s x → Waveform s i start long
        → TakenBy (length x.frames) x.standing (all_agree (frame_channels x)) (sequence_octets (frame_channels x)) long n y
        → GoodFrame (frame_at s x start long n)
    frame_good x i start long n y p w f =
        record {
          channels = every_imp (EachAttribute GoodChange) GoodSettings settings_good (frame_channels x) (every_take (EachAttribute GoodChange) (channels_of x.standing.counted) x.channels p.table.table);
          agree = f.agrees;
          sequences = rw f.sequences (sequences-small x.standing.sequences long (sequence_octets (frame_channels x)) (p.sequences octets) (omega (arith, waveform_short s w)));
          octets = value-octets start long;
        }

    frames-step : (x : State) (i : Item) (y : State) → Ranged s x → ItemStep s x i y → Every GoodFrame y.frames
    frames-step x i _ p passes = p.frames
    frames-step x i _ p (stands y h r q) = p.frames
    frames-step x i _ p (resets y h r q) = p.frames
    frames-step x i _ p (changes ch g) = p.frames
    frames-step x i _ p (sets channel ch g) = p.frames
    frames-step x i _ p (frames start long n y w f) =
        every_snoc GoodFrame x.frames (frame_at s x start long n) p.frames (frame_good x i start long n y p w f)

    ranged_keeps : Keeps s (λ x c. Ranged s x)
    ranged_keeps x c i d y p e f =
        let st = meaning_steps s x i y f in
        record { sequences = sequences-step x i y p.sequences st; table = table_step GoodChange s default_good fresh_good x i y p.table st; frames = frames-step x i y p st }

  ranged_first : Ranged s first_state
  ranged_first = record { sequences = λ o. omega arith; table = table_first GoodChange s default_good fresh_good; frames = tt }

  pub every_good : (fs : List Frame) → verdict s ≡ accepted fs → Every GoodFrame fs
  every_good fs e =
      let k = accepted-kept s (λ x c. Ranged s x) (ranged_keeps (accepted_by s fs e).0) ranged_first fs e in
      rw k.frames at k.holds.frames

  pub accepted_good : (fs : List Frame) → verdict s ≡ accepted fs → (i : ℕ) → i < length fs → GoodFrame (get_or fs i zero_frame)
  accepted_good fs e i h = every_at GoodFrame fs (every_good fs e) zero_frame i h

-- Each channel agrees where all do.
pub agree_every : (cs : List Settings) → all_agree cs ≡ true → Every (λ c. channel_agrees c ≡ true) cs
unfolding all_agree
agree_every [] e = tt
agree_every (c ∷ cs) e = let h = both_split (channel_agrees c) (all_agree cs) e in (h.0, agree_every cs h.1)
