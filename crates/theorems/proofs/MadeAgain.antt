-- What a recording hands back to the maker gives the canonical file piece by piece.
--     rows_long, rows_at    rows one behind the other
--     row_says         the row of a channel of a recording
--     row_fits, row_back    it is in the table, and says that channel's settings
--     all_there        where all declared samples are there, so are their octets
--     record_again     a frame that is made of a frame of a recording is that frame
--     exactly_there, frame_again, frame-lacking    it is made exactly where its declared samples are all there
--     made_again       so is each frame of the canonical file
-- Assumes nothing.
use mathlib.Core.Path.{◌≡◌, refl, sym, ap, ◌∙◌}
use mathlib.Core.Logic.{◌↔◌, ◌⊎◌, inl, inr}
use mathlib.Core.Bool.{true, false}
use mathlib.Core.List.{List, [], ◌∷◌, ◌++◌, map}
use Prim.Native.Nat.{ℕ, zero, suc, ◌+◌, ◌*◌, ◌^◌, ◌≤◌, ◌<◌}
use native.Mathlib.Omega.{arith}
use borrow.Author.Tests.{le-leb, eq-eqb, ne_eqb}
use lib.Dec.{lit<}
use lib.IntN.{ℤ, pos, negsuc}
use lib.ListN.{length, get_or, length-append, get_or-append}
use lib.Seq.{get_or-append-add}
use lib.Signed.{mag}
use Rattle.octets.specs.Number.{Octets}
use Rattle.octets.specs.Pick.{pick, either}
use native.Mathlib.Decide.{dec_lt}
use Rattle.heads.specs.declared.Fault.TheVariants.{SamplesLength}
use Rattle.heads.specs.Answer.{answered, refused_as}
use Rattle.settings.specs.declared.Scale.{Scale}
use Rattle.settings.specs.declared.Settings.{Settings}
use Rattle.settings.specs.Settings.{zero_settings, block_limit, last_data_type, last_interval_unit, last_resolution_unit}
use Rattle.layout.specs.Frame.{width_in, samples_octets, channel_in}
use Rattle.laid.proofs.Places.{offset_covers}
use Rattle.there.specs.There.{there_of, there_octets, Wide}
use Rattle.there.proofs.Places.{there-le, there_declared, there-ends, there-counted, there-all}
use Rattle.standing.specs.Standing.{octets_limit}
use Rattle.verdict.specs.Verdict.{accepted, verdict}
use Rattle.layout.specs.Frame.{Frame}
use Rattle.canonical.specs.Recording.{Recorded, tabulate, recorded_frame}
use Rattle.canonical.specs.Canonical.{waveform_of, frame_octets, frames_octets, canonical}
use Rattle.canonical.specs.Write.{recording_of, canonical_of}
use Rattle.canonical.proofs.Good.{GoodScale, GoodReported, AllReported, GoodRecorded, AllRecorded}
use Rattle.canonical.proofs.Effects.{width_good}
use Rattle.canonical.proofs.Recordings.{frame_of, all-wide, waveform-long, tabulate-is, recorded_back}
use Rattle.canonical.proofs.Accepted.{accepted-recorded}
use Rattle.numbers.specs.Numbers.{attribute_numbers, numbers_of, bit_pair_of}
use Rattle.maker.specs.Given.{Given, GivenScale, bit_numbers, given_at, last_code, last_mantissa, within, exponent_fits, scale_in_table, bits_fit, no_null, numbers_in_table, scales_in_table, bits_in_table, in_table, bits_made, null_made, settings_made}
use Rattle.maker.specs.Make.{Making, settings_fit, channels_in, frame_made, record_made, order_octets, made_in}
use Rattle.maker.proofs.Channels.{all_fit}
use Rattle.maker.proofs.Makes.{frame_by_bits, all-inside, made-answered, room_yes}
use Rattle.theorems.specs.Told.{attributes_recorded, zero_recorded}
use Rattle.theorems.specs.Making.{SamplesExact, concatenated, file_of, AllThere, rows_of, bit_rows_of, making_of, MadeAgain}
use Rattle.theorems.proofs.Canonical.{recording-is}
use Rattle.theorems.proofs.Allowed.{bits_by, allowed_by, samples_by, made_exactly}

-- ---- rows one behind the other

module _ {A : Type 0} (w : ℕ) where
  rows_long : (k : ℕ) (g : ℕ → List A) → ((i : ℕ) → length (g i) ≡ w) → length (concatenated (tabulate k g)) ≡ k * w
  unfolding tabulate
  rows_long zero g l = omega arith
  rows_long (suc k) g l = length-append (g 0) (concatenated (tabulate k (λ i. g (suc i)))) ∙ omega (arith, l 0, rows_long k (λ i. g (suc i)) (λ i. l (suc i)))

  rows_at : (k : ℕ) (g : ℕ → List A) → ((i : ℕ) → length (g i) ≡ w) → (i a : ℕ) (d : A) → i < k → a < w → get_or (concatenated (tabulate k g)) (i * w + a) d ≡ get_or (g i) a d
  unfolding tabulate
  rows_at zero g l i a d h q = let z : ⊥ = omega arith in absurd z
  rows_at (suc k) g l zero a d h q =
      let e : 0 * w + a ≡ a = omega arith in
      rw e (get_or-append (g 0) (concatenated (tabulate k (λ i. g (suc i)))) d a (omega (arith, l 0)))
  rows_at (suc k) g l (suc i) a d h q =
      let e : suc i * w + a ≡ length (g 0) + (i * w + a) = omega (arith, l 0) in
      rw e (get_or-append-add (g 0) (concatenated (tabulate k (λ j. g (suc j)))) (i * w + a) d ∙ rows_at k (λ j. g (suc j)) (λ j. l (suc j)) i a d (omega arith) q)

-- ---- the row of a channel

abbrev scale_given : Scale → GivenScale
scale_given x = record { unit = pos x.unit; exponent = x.exponent; mantissa = x.mantissa }

-- What a channel's settings are handed over as.
abbrev given_of : Settings → Given
given_of c =
    record {
      block = pos c.block;
      class = pos c.class;
      lead = pos c.lead;
      datatype = pos c.datatype;
      interval = scale_given c.interval;
      resolution = scale_given c.resolution;
      offset = c.offset.bits;
      null_width = pos c.null.width;
      null = c.null.bits;
    }

module _ (r : Recorded) where
  abbrev row : ℕ → List ℤ
  row c = numbers_of (attributes_recorded c r)

  abbrev bit_row : ℕ → List ℕ
  bit_row c = bit_pair_of (attributes_recorded c r)

  row-long : (c : ℕ) → length (row c) ≡ attribute_numbers
  unfolding numbers_of
  row-long c = refl

  bits-long : (c : ℕ) → length (bit_row c) ≡ bit_numbers
  unfolding bit_pair_of
  bits-long c = refl

  module _ (c : ℕ) (h : c < length r.channels) where
    number_at : (a : ℕ) → a < attribute_numbers → get_or (rows_of r) (c * attribute_numbers + a) (pos 0) ≡ get_or (row c) a (pos 0)
    number_at a l = rows_at attribute_numbers (length r.channels) row row-long c a (pos 0) h l

    bit_at : (a : ℕ) → a < bit_numbers → get_or (bit_rows_of r) (c * bit_numbers + a) 0 ≡ get_or (bit_row c) a 0
    bit_at a l = rows_at bit_numbers (length r.channels) bit_row bits-long c a 0 h l

    row_says : given_at (rows_of r) (bit_rows_of r) c ≡ given_of (channel_in c r.channels)
    unfolding numbers_of bit_pair_of
    row_says =
        λ i.
        record {
          block = number_at 3 (lit< tt) i;
          class = number_at 4 (lit< tt) i;
          lead = number_at 5 (lit< tt) i;
          datatype = number_at 6 (lit< tt) i;
          interval = record { unit = number_at 7 (lit< tt) i; exponent = number_at 8 (lit< tt) i; mantissa = number_at 9 (lit< tt) i };
          resolution = record { unit = number_at 10 (lit< tt) i; exponent = number_at 11 (lit< tt) i; mantissa = number_at 12 (lit< tt) i };
          offset = bit_at 0 (lit< tt) i;
          null_width = number_at 14 (lit< tt) i;
          null = bit_at 1 (lit< tt) i;
        }

-- ---- it is in the table

within_pos : (low high n : ℕ) → low ≤ n → n ≤ high → within low high (pos n) ≡ true
within_pos low high n h k = rw (le-leb low n h, le-leb n high k)

exponent-fits : (z : ℤ) → mag z < 128 → exponent_fits z ≡ true
unfolding exponent_fits
exponent-fits (pos n) h = le-leb n 127 (omega arith)
exponent-fits (negsuc k) h = rw (le-leb k 127 (omega arith))

scale_fits_lem : (last : ℕ) (x : Scale) → GoodScale last x → scale_in_table last (scale_given x) ≡ true
unfolding scale_in_table
scale_fits_lem last x g =
    rw (within_pos 0 last x.unit (omega arith) g.unit, exponent-fits x.exponent g.exponent, g.mantissa)
    (within_pos 1 last_mantissa g.value g.low (omega (arith, g.high)))

-- By whether there is a null.
null-fits : (c : Settings) → GoodReported c → either (no_null (pos c.null.width)) (bits_fit (width_in c) c.null.bits) ≡ true
null-fits c g = by g.null_width
  where
    by : (c.null.width ≡ 0) ⊎ (c.null.width ≡ width_in c) → either (no_null (pos c.null.width)) (bits_fit (width_in c) c.null.bits) ≡ true
    by (inl z) = rw (eq-eqb c.null.width 0 z)
    by (inr e) =
        let n : c.null.width ≡ 0 → ⊥ = λ z. omega (arith, (width_good c.datatype g.datatype).some) in
        rw (ne_eqb c.null.width 0 n) ((bits_by (width_in c) c.null.bits).1 (rw e at g.null))

row_fits : (c : Settings) → GoodReported c → in_table (given_of c) ≡ true
unfolding in_table numbers_in_table scales_in_table bits_in_table
row_fits c g =
    rw (
      within_pos 1 block_limit c.block g.block_low g.block_high,
      within_pos 0 last_code c.class (omega arith) (omega (arith, g.class)),
      within_pos 0 last_code c.lead (omega arith) (omega (arith, g.lead)),
      within_pos 0 last_data_type c.datatype (omega arith) g.datatype,
      scale_fits_lem last_interval_unit c.interval g.interval,
      scale_fits_lem last_resolution_unit c.resolution g.resolution,
      (bits_by (width_in c) c.offset.bits).1 g.offset,
    )
    (null-fits c g)

-- ---- it says the channel's settings

null_back : (c : Settings) → GoodReported c → null_made (given_of c) ≡ c.null
unfolding null_made
null_back c g = by g.null_width
  where
    by : (c.null.width ≡ 0) ⊎ (c.null.width ≡ width_in c) → pick (no_null (pos c.null.width)) (bits_made 0 0) (bits_made (width_in c) c.null.bits) ≡ c.null
    by (inl z) =
        let small : c.null.bits < 256 ^ 0 = rw z at g.null in
        let b : 0 ≡ c.null.bits = omega arith in
        rw (eq-eqb c.null.width 0 z) (λ i. record { width = sym z i; bits = b i })
    by (inr e) =
        let n : c.null.width ≡ 0 → ⊥ = λ z. omega (arith, (width_good c.datatype g.datatype).some) in
        rw (ne_eqb c.null.width 0 n) (λ i. record { width = sym e i; bits = c.null.bits })

row_back : (c : Settings) → GoodReported c → settings_made (given_of c) ≡ c
unfolding settings_made
row_back c g =
    λ i.
    record {
      block = c.block;
      class = c.class;
      lead = c.lead;
      datatype = c.datatype;
      interval = c.interval;
      resolution = c.resolution;
      offset = record { width = sym g.offset_width i; bits = c.offset.bits };
      null = null_back c g i;
    }

-- ---- a frame

reported-at : (cs : List Settings) → AllReported cs → (c : ℕ) → c < length cs → GoodReported (channel_in c cs)
reported-at [] g c h = let z : ⊥ = omega arith in absurd z
reported-at (x ∷ cs) g zero h = g.0
reported-at (x ∷ cs) g (suc c) h = reported-at cs g.1 c (omega arith)

map-tabulate : {A B : Type 0} (f : A → B) (k : ℕ) (g : ℕ → A) → map f (tabulate k g) ≡ tabulate k (λ i. f (g i))
unfolding tabulate
map-tabulate f zero g = refl
map-tabulate f (suc k) g = ap (λ (l : List _). f (g 0) ∷ l) (map-tabulate f k (λ i. g (suc i)))

-- Where all declared samples are there, so are their octets.
all_there : (cs : List Settings) → Wide cs → (S long : ℕ) → ((c : ℕ) → c < length cs → there_of cs S long c ≡ S * (channel_in c cs).block) → there_octets cs S long ≡ samples_octets cs S
all_there cs wide S long a = by (dec_lt (there_octets cs S long) (samples_octets cs S))
  where
    by : Dec (there_octets cs S long < samples_octets cs S) → there_octets cs S long ≡ samples_octets cs S
    by (yes l) =
        let k = offset_covers cs S (there_octets cs S long) l in
        let h = k.named in
        let inside = (there-counted {long = long} h (wide k.channel h.channel)).1 (omega (arith, a k.channel h.channel, h.number)) in
        let z : ⊥ = omega (arith, k.place, k.inside, (there-ends cs S long k.channel k.n h).0 inside) in
        absurd z
    by (no l) = omega (arith, there_declared cs S long)

module _ (r : Recorded) (good : GoodRecorded r) where
  abbrev m : Making
  m = making_of r

  at_good : (c : ℕ) → c < length r.channels → GoodReported (channel_in c r.channels)
  at_good c h = reported-at r.channels good.channels c h

  channels_back : channels_in m ≡ r.channels
  channels_back =
      map-tabulate settings_made (length r.channels) (given_at (rows_of r) (bit_rows_of r))
      ∙ tabulate-is zero_settings (length r.channels) (λ c. settings_made (given_at (rows_of r) (bit_rows_of r) c)) r.channels refl
      (λ c h. ap settings_made (row_says r c h) ∙ row_back (channel_in c r.channels) (at_good c h))

  settings-fit : settings_fit m ≡ true
  settings-fit =
      all-inside m
      (sym (frame_by_bits r.start r.sequences (length r.channels) (length (rows_of r)) (length (bit_rows_of r)) good.start (omega (arith, good.sequences)) good.some good.few (rows_long attribute_numbers (length r.channels) (row r) (row-long r)))
      ∙ eq-eqb (length (bit_rows_of r)) (length r.channels * bit_numbers) (rows_long bit_numbers (length r.channels) (bit_row r) (bits-long r)))
      (all_fit (length r.channels) (given_at (rows_of r) (bit_rows_of r)) (λ c h. ap in_table (row_says r c h) ∙ row_fits (channel_in c r.channels) (at_good c h)))

  -- The sample octets are exactly the declared ones where all declared samples are there, and only there.
  exactly_there : SamplesExact m ↔ AllThere r
  exactly_there =
      let cs = r.channels in
      let S = r.sequences in
      let wide = all-wide cs good.channels in
      let made = ap (λ (ds : List Settings). samples_octets ds S) channels_back in (
        λ e c h. good.sized c h ∙ there-all cs wide S good.long (omega (arith, e, made, waveform-long r good, there-le cs S good.long)) c h,
        λ a. waveform-long r good ∙ all_there cs wide S good.long (λ c h. sym (good.sized c h) ∙ a c h) ∙ sym made,
      )

  frame_back : frame_made m ≡ frame_of r 0
  frame_back = λ i. record { start = r.start; place = 0; little = false; sequences = r.sequences; channels = channels_back i; waveform = waveform_of r }

  pub record_again : record_made m ≡ r
  unfolding record_made
  record_again = ap recorded_frame frame_back ∙ recorded_back r good 0

  frame_again : AllThere r → (room : ℕ) → length (frame_octets r) ≤ room → order_octets + length (frame_octets r) ≤ octets_limit → made_in room m ≡ answered (frame_octets r)
  frame_again a room h k =
      let e : frame_octets (record_made m) ≡ frame_octets r = ap frame_octets record_again in
      made-answered m room settings-fit ((samples_by m).1 (exactly_there.1 a)) (rw e (room_yes (length (frame_octets r)) room h k)) ∙ ap answered e

  frame-lacking : (AllThere r → ⊥) → (room : ℕ) → made_in room m ≡ refused_as SamplesLength 0
  frame-lacking n room = (made_exactly m room).samples.1 ((allowed_by m).0 settings-fit, λ e. n (exactly_there.0 e))

-- ---- a file

recorded-at : (rs : List Recorded) → AllRecorded rs → (i : ℕ) → i < length rs → GoodRecorded (get_or rs i zero_recorded)
recorded-at [] g i h = let z : ⊥ = omega arith in absurd z
recorded-at (r ∷ rs) g zero h = g.0
recorded-at (r ∷ rs) g (suc i) h = recorded-at rs g.1 i (omega arith)

-- One of several frames is no longer than all.
piece_short : (rs : List Recorded) (i : ℕ) → i < length rs → length (frame_octets (get_or rs i zero_recorded)) ≤ length (frames_octets rs)
unfolding frames_octets
piece_short [] i h = let z : ⊥ = omega arith in absurd z
piece_short (r ∷ rs) zero h = omega (arith, length-append (frame_octets r) (frames_octets rs))
piece_short (r ∷ rs) (suc i) h = omega (arith, length-append (frame_octets r) (frames_octets rs), piece_short rs i (omega arith))

pieces : (rs : List Recorded) → frames_octets rs ≡ concatenated (map frame_octets rs)
unfolding frames_octets
pieces [] = refl
pieces (r ∷ rs) = ap (λ (x : List ℕ). frame_octets r ++ x) (pieces rs)

file_pieces : (rs : List Recorded) → 0 < length rs → canonical rs ≡ file_of (map frame_octets rs)
unfolding canonical
file_pieces [] h = let z : ⊥ = omega arith in absurd z
file_pieces (r ∷ rs) h = ap (λ (x : List ℕ). 0x01 ∷ 0x01 ∷ 0x00 ∷ x) (pieces (r ∷ rs))

file-long : (rs : List Recorded) → 0 < length rs → length (canonical rs) ≡ order_octets + length (frames_octets rs)
unfolding canonical
file-long [] h = let z : ⊥ = omega arith in absurd z
file-long (r ∷ rs) h = omega arith

pub made_again : (s : List ℕ) → Octets s → (fs : List Frame) → verdict s ≡ accepted fs → length (canonical_of s) ≤ octets_limit → MadeAgain s
unfolding canonical_of
made_again s o fs e short =
    let rs = recording_of s in
    let good : AllRecorded rs = rw (recording-is s fs e) (accepted-recorded s o fs e) in
    record {
      file = file_pieces rs;
      frames = λ i h a room l.
          frame_again (get_or rs i zero_recorded) (recorded-at rs good i h) a room l (omega (arith, piece_short rs i h, file-long rs (omega arith)));
      lacking = λ i h n room. frame-lacking (get_or rs i zero_recorded) (recorded-at rs good i h) n room;
    }
