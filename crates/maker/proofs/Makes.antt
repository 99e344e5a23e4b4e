-- Laws of a frame that is made.
--     FrameFits, frame_split    what the test of a frame's own numbers tells
--     pointer_outside, sequences-outside, channels-none, channels-many, rows_other, frame_by_bits    that test, part by part
--     setting-refused, samples-refused, room-refused, made-answered    the ways of the answer
--     room_yes, room_short, room_limit    the test of the room
--     made-lies                 the frame's samples lie in what is handed over
--     made_wide, made-there     they have octets, and all are there
--     made-waveform, made_parts, made-size    its octets, as they are written, and how many
--     rows_are, measured_out, measured_in, Found, found    what is found on the way
--     product_small, groups-small, samples_other, samples-same, size_is, samples_long_out, store_asked    what follows from it
--     made-refused, made-whole  the calls
-- Assumes nothing.
use mathlib.Core.Path.{◌≡◌, refl, sym, ap, ◌∙◌}
use mathlib.Core.Bool.{Bool, true, false}
use mathlib.Core.List.{List}
use Prim.Native.Nat.{ℕ, ◌+◌, ◌*◌, ◌^◌, ◌≤◌, ◌<◌}
use native.Mathlib.Nat.{zero-add, mul-le-mul}
use native.Mathlib.Omega.{arith}
use borrow.Author.Tests.{leb-true, eqb-true, le-leb, lt-leb, ne_eqb, eq-eqb}
use lib.Dec.{eqb, leb}
use lib.IntN.{ℤ}
use lib.ListN.{length}
use lib.Seq.{take_all}
use Rattle.std.specs.Prelude.{Some, None}
use Rattle.octets.specs.Number.{Octets}
use Rattle.octets.specs.Pick.{pick}
use Rattle.octets.proofs.Pick.{both_split, both_false}
use Rattle.heads.specs.declared.Fault.{Fault}
use Rattle.heads.specs.declared.Fault.TheVariants.{NoRoom, SettingRange, SamplesLength}
use Rattle.heads.specs.Answer.{Answer, answered, refused_as, map_answer, left_by}
use Rattle.stores.specs.Storing.{Put}
use Rattle.stores.proofs.Stores.{sets_front}
use Rattle.settings.specs.Settings.{channel_limit}
use Rattle.layout.specs.declared.Layout.{Layout}
use Rattle.layout.specs.Frame.{sequence_octets, samples_octets}
use Rattle.there.specs.There.{octets_there, Wide}
use Rattle.there.proofs.Places.{there-whole}
use Rattle.sizes.specs.Size.{frame_size}
use Rattle.layout.specs.Measure.{groups_size, layout_of}
use Rattle.layout.proofs.Laws.{groups-few}
use Rattle.standing.specs.Standing.{octets_limit}
use Rattle.framing.specs.Framing.{pointer_fits}
use Rattle.pass.specs.Scan.{size_of}
use Rattle.reader.proofs.Ordered.{Lies}
use Rattle.groups.proofs.Puts.{put_as}
use Rattle.frames.specs.Parts.{frame_parts}
use Rattle.canonical.specs.Canonical.{waveform_of, frame_octets}
use Rattle.canonical.proofs.Octets.{waveform_big, frame-long}
use Rattle.canonical.proofs.Writing.{frame_is}
use Rattle.numbers.specs.Numbers.{attribute_numbers}
use Rattle.maker.specs.Given.{bit_numbers, given_at, givens_in, all_in_table, channels_made}
use Rattle.maker.specs.Rows.{RowsThere, RowsFit, measured}
use Rattle.maker.specs.Make.{Making, last_sequences, frame_in_table, settings_fit, channels_in, samples_fit, frame_made, record_made, order_octets, room_fits, made_in, Made}
use Rattle.maker.proofs.Channels as channels

-- ---- the numbers of a frame

pub record FrameFits (start : ℤ) (sequences channels numbers bits : ℕ) : Type 0 where
  pub pointer : pointer_fits start ≡ true
  pub most : sequences ≤ last_sequences
  pub some : 1 ≤ channels
  pub few : channels ≤ channel_limit
  pub in_numbers : numbers ≡ channels * attribute_numbers
  pub in_bits : bits ≡ channels * bit_numbers

pub frame_split : (start : ℤ) (sequences channels numbers bits : ℕ) → frame_in_table start sequences channels numbers bits ≡ true → FrameFits start sequences channels numbers bits
unfolding frame_in_table
frame_split start sequences channels numbers bits e =
    let a = both_split (pointer_fits start) _ e in
    let b = both_split (leb sequences last_sequences) _ a.1 in
    let c = both_split (leb 1 channels) _ b.1 in
    let d = both_split (leb channels channel_limit) _ c.1 in
    let f = both_split (eqb numbers (channels * attribute_numbers)) _ d.1 in
    record {
      pointer = a.0;
      most = leb-true sequences last_sequences b.0;
      some = leb-true 1 channels c.0;
      few = leb-true channels channel_limit d.0;
      in_numbers = eqb-true numbers (channels * attribute_numbers) f.0;
      in_bits = eqb-true bits (channels * bit_numbers) f.1;
    }

-- Each test that fails decides, and where all others hold the last one does.
module _ (start : ℤ) (sequences channels numbers bits : ℕ) where
  pub pointer_outside : pointer_fits start ≡ false → false ≡ frame_in_table start sequences channels numbers bits
  unfolding frame_in_table
  pointer_outside e = sym (rw e)

  pub sequences-outside : last_sequences < sequences → false ≡ frame_in_table start sequences channels numbers bits
  unfolding frame_in_table
  sequences-outside h = sym (simp (lt-leb sequences last_sequences h, both_false))

  pub channels-none : channels < 1 → false ≡ frame_in_table start sequences channels numbers bits
  unfolding frame_in_table
  channels-none h = sym (simp (lt-leb 1 channels h, both_false))

  pub channels-many : channel_limit < channels → false ≡ frame_in_table start sequences channels numbers bits
  unfolding frame_in_table
  channels-many h = sym (simp (lt-leb channels channel_limit h, both_false))

  pub rows_other : (numbers ≡ channels * attribute_numbers → ⊥) → false ≡ frame_in_table start sequences channels numbers bits
  unfolding frame_in_table
  rows_other n = sym (simp (ne_eqb numbers (channels * attribute_numbers) n, both_false))

  pub frame_by_bits : pointer_fits start ≡ true → sequences ≤ last_sequences → 1 ≤ channels → channels ≤ channel_limit → numbers ≡ channels * attribute_numbers → eqb bits (channels * bit_numbers) ≡ frame_in_table start sequences channels numbers bits
  unfolding frame_in_table
  frame_by_bits p s c d n =
      sym (simp (p, le-leb sequences last_sequences s, le-leb 1 channels c, le-leb channels channel_limit d, eq-eqb numbers (channels * attribute_numbers) n))

-- ---- the ways of the answer

module _ (m : Making) where
  -- The octets of the frame.
  abbrev octets : List ℕ
  octets = frame_octets (record_made m)

  abbrev pub own_fit : Bool
  own_fit = frame_in_table m.start m.sequences m.channels (length m.numbers) (length m.bits)

  pub own-outside : own_fit ≡ false → settings_fit m ≡ false
  unfolding settings_fit
  own-outside e = rw e

  pub row-outside : all_in_table (givens_in m.channels m.numbers m.bits) ≡ false → settings_fit m ≡ false
  unfolding settings_fit
  row-outside e = rw e (both_false own_fit)

  pub all-inside : own_fit ≡ true → all_in_table (givens_in m.channels m.numbers m.bits) ≡ true → settings_fit m ≡ true
  unfolding settings_fit
  all-inside e f = rw (e, f)

  pub settings_split : settings_fit m ≡ true → (own_fit ≡ true) × (all_in_table (givens_in m.channels m.numbers m.bits) ≡ true)
  unfolding settings_fit
  settings_split e = both_split own_fit _ e

  module _ (room : ℕ) where
    pub setting-refused : settings_fit m ≡ false → made_in room m ≡ refused_as SettingRange 0
    unfolding made_in
    setting-refused e = rw e

    module _ (s : settings_fit m ≡ true) where
      pub samples-refused : samples_fit m ≡ false → made_in room m ≡ refused_as SamplesLength 0
      unfolding made_in
      samples-refused e = rw (s, e)

      module _ (f : samples_fit m ≡ true) where
        pub room-refused : room_fits (length octets) room ≡ false → made_in room m ≡ refused_as NoRoom 0
        unfolding made_in
        room-refused e = rw (s, f, e)

        pub made-answered : room_fits (length octets) room ≡ true → made_in room m ≡ answered octets
        unfolding made_in
        made-answered e = rw (s, f, e)

-- ---- room

pub room_yes : (long room : ℕ) → long ≤ room → order_octets + long ≤ octets_limit → room_fits long room ≡ true
unfolding room_fits
room_yes long room h k = simp (le-leb long room h, le-leb (order_octets + long) octets_limit k)

pub room_short : (long room : ℕ) → room < long → room_fits long room ≡ false
unfolding room_fits
room_short long room h = simp (lt-leb long room h)

pub room_limit : (long room : ℕ) → octets_limit < order_octets + long → room_fits long room ≡ false
unfolding room_fits
room_limit long room h = simp (lt-leb (order_octets + long) octets_limit h, both_false)

-- ---- a frame that is made

module _ (m : Making) (s : settings_fit m ≡ true) (f : samples_fit m ≡ true) where
  own : FrameFits m.start m.sequences m.channels (length m.numbers) (length m.bits)
  own = frame_split _ _ _ _ _ (settings_split m s).0

  pub samples-long : length m.samples ≡ samples_octets (channels_in m) m.sequences
  unfolding samples_fit
  samples-long = eqb-true (length m.samples) (samples_octets (channels_in m) m.sequences) f

  abbrev channels-long : length (channels_in m) ≡ m.channels
  channels-long = channels.made-long m.channels m.numbers m.bits

  made_wide : Wide (channels_in m)
  made_wide = channels.made_wide m.channels m.numbers m.bits (settings_split m s).1

  pub made-lies : Lies m.samples (frame_made m)
  made-lies =
      record {
        inside = omega arith;
        octets = sym (take_all (length m.samples) m.samples (omega arith));
        some = omega (arith, channels-long, own.some);
        few = omega (arith, channels-long, own.few);
        wide = made_wide;
        pointer = own.pointer;
      }

  -- All its samples are there.
  made-there : octets_there (frame_made m) ≡ length m.samples
  unfolding octets_there
  made-there = there-whole (channels_in m) m.sequences (length m.samples) (omega (arith, samples-long)) ∙ sym samples-long

  -- Its canonical waveform is the samples as they are handed over.
  pub made-waveform : Octets m.samples → waveform_of (record_made m) ≡ m.samples
  unfolding record_made
  made-waveform o =
      waveform_big (frame_made m) made_wide o refl ∙ take_all (octets_there (frame_made m)) m.samples (omega (arith, made-there))

  pub made_parts : Octets m.samples → frame_parts m.start m.sequences (channels_in m) m.samples ≡ frame_octets (record_made m)
  unfolding record_made
  made_parts o = sym (frame_is (frame_made m) ∙ ap (frame_parts m.start m.sequences (channels_in m)) (made-waveform o))

  made-size : length (frame_octets (record_made m)) ≡ frame_size m.sequences (groups_size 0 (channels_in m)) (length m.samples)
  unfolding record_made size_of
  made-size = frame-long (frame_made m) made_wide ∙ ap (frame_size m.sequences (groups_size 0 (channels_in m))) made-there

-- ---- by what is found on the way

-- The rows of all channels are there.
pub rows_are : {start : ℤ} {sequences channels : ℕ} {numbers : List ℤ} {bits : List ℕ} → FrameFits start sequences channels (length numbers) (length bits) → RowsThere numbers bits channels
rows_are f = record { in_numbers = omega (arith, f.in_numbers); in_bits = omega (arith, f.in_bits); few = f.few }

module _ (n : ℕ) (numbers : List ℤ) (bits : List ℕ) where
  abbrev all : Bool
  all = all_in_table (givens_in n numbers bits)

  abbrev told : Layout
  told = layout_of 0 (channels_made n numbers bits)

  -- A row is outside the table.
  pub measured_out : None ≡ measured n numbers bits → all ≡ false
  unfolding measured
  measured_out e = by all refl e
    where
      by : (t : Bool) → all ≡ t → None ≡ pick t (Some told) None → all ≡ false
      by false q e = q
      by true q e = let z : ◌≡◌ {A = ℕ} 0 1 = cc in let w : ⊥ = omega arith in absurd w

  -- All are in the table, and their layout is told.
  pub measured_in : (l : Layout) → Some l ≡ measured n numbers bits → (all ≡ true) × (l ≡ told)
  unfolding measured
  measured_in l e = by all refl e
    where
      by : (t : Bool) → all ≡ t → Some l ≡ pick t (Some told) None → (all ≡ true) × (l ≡ told)
      by true q e = (q, cc)
      by false q e = let z : ◌≡◌ {A = ℕ} 0 1 = cc in let w : ⊥ = omega arith in absurd w

-- Every setting is in the table, and l is the channels' layout.
pub record Found (m : Making) (l : Layout) : Type 0 where
  pub fit : settings_fit m ≡ true
  pub own : FrameFits m.start m.sequences m.channels (length m.numbers) (length m.bits)
  pub rows : RowsFit m.numbers m.bits m.channels
  pub layout : l ≡ layout_of 0 (channels_in m)

pub found : (m : Making) (l : Layout) → own_fit m ≡ true → Some l ≡ measured m.channels m.numbers m.bits → Found m l
found m l e g =
    let k = measured_in m.channels m.numbers m.bits l g in
    let f = frame_split _ _ _ _ _ e in
    record { fit = all-inside m e k.0; own = f; rows = record { there = rows_are f; fit = k.0 }; layout = k.1 }

module _ {m : Making} {l : Layout} (p : Found m l) where
  octets_are : l.octets ≡ sequence_octets (channels_in m)
  unfolding layout_of
  octets_are = ap (λ (x : Layout). x.octets) p.layout

  groups_are : l.groups ≡ groups_size 0 (channels_in m)
  unfolding layout_of
  groups_are = ap (λ (x : Layout). x.groups) p.layout

  pub product_small : m.sequences * l.octets < 2 ^ 64
  product_small =
      let few = channels.octets-few m.channels (given_at m.numbers m.bits) p.rows.fit in
      let most : l.octets ≤ 2 ^ 31 = omega (arith, octets_are, p.own.few) in
      let product : m.sequences * l.octets ≤ last_sequences * 2 ^ 31 = mul-le-mul p.own.most most in
      omega arith

  pub groups-small : l.groups < 2 ^ 32
  groups-small = omega (arith, groups_are, groups-few 0 (channels_in m), channels.made-long m.channels m.numbers m.bits, p.own.few)

  sampled : m.sequences * l.octets ≡ samples_octets (channels_in m) m.sequences
  sampled = ap (λ (n : ℕ). m.sequences * n) octets_are

  pub samples_other : (length m.samples ≡ m.sequences * l.octets → ⊥) → samples_fit m ≡ false
  unfolding samples_fit
  samples_other n = ne_eqb (length m.samples) (samples_octets (channels_in m) m.sequences) (λ e. n (e ∙ sym sampled))

  module _ (e : length m.samples ≡ m.sequences * l.octets) where
    pub samples-same : samples_fit m ≡ true
    unfolding samples_fit
    samples-same = eq-eqb (length m.samples) (samples_octets (channels_in m) m.sequences) (e ∙ sampled)

    -- The frame's length.
    pub size_is : {size : ℕ} → size ≡ frame_size m.sequences l.groups (length m.samples) → length (octets m) ≡ size
    size_is q = made-size m p.fit samples-same ∙ sym (q ∙ ap (λ (n : ℕ). frame_size m.sequences n (length m.samples)) groups_are)

    -- The samples alone are longer than a file may be.
    pub samples_long_out : (room : ℕ) → octets_limit < length m.samples → room_fits (length (octets m)) room ≡ false
    unfolding frame_size
    samples_long_out room h = room_limit (length (octets m)) room (omega (arith, made-size m p.fit samples-same))

-- What is asked of `store_frame`.
abbrev pub StoreAsked : Making → ℕ → Type 0
StoreAsked m room =
    RowsFit m.numbers m.bits m.channels
    × ((length m.samples ≤ octets_limit) × (frame_size m.sequences (groups_size 0 (channels_in m)) (length m.samples) ≤ room))

pub store_asked : {m : Making} {l : Layout} {size : ℕ} → Found m l → length m.samples ≤ octets_limit
    → size ≡ frame_size m.sequences l.groups (length m.samples) → (room : ℕ) → size ≤ room → StoreAsked m room
store_asked {m} p k q room h = (p.rows, (k, rw (← groups_are p) (rw q at h)))

-- ---- the calls

module _ {m : Making} {d : List ℕ} (o : Octets m.samples) where
  made_as : (x : Answer (List ℕ)) → made_in (length d) m ≡ x → Made m d (map_answer length x) (left_by x d)
  made_as x e = record { octets = o; answers = ap (map_answer length) (sym e); leaves = ap (λ (y : Answer (List ℕ)). left_by y d) (sym e) }

  -- A refusal.
  pub made-refused : {a : Answer ℕ} {fault : Fault} → a ≡ refused_as fault 0 → made_in (length d) m ≡ refused_as fault 0 → Made m d a d
  unfolding left_by
  made-refused {fault = fault} ea e = rw ea (made_as (refused_as fault 0) e)

  -- A frame that is stored.
  pub made-whole : {l : Layout} {size r : ℕ} {z : ℤ} {left : List ℕ} → Found m l → length m.samples ≡ m.sequences * l.octets
      → size ≡ frame_size m.sequences l.groups (length m.samples) → order_octets + size ≤ octets_limit → size ≤ length d → z ≡ m.start
      → Put d 0 (frame_parts z m.sequences (channels_in m) m.samples) r left → Made m d (answered r) left
  unfolding left_by
  made-whole {r = r} {left = left} p e q k h ez w =
      let s = samples-same p e in
      let long = size_is p e q in
      let put = put_as (ap (λ (x : ℤ). frame_parts x m.sequences (channels_in m) m.samples) ez ∙ made_parts m p.fit s o) w in
      let made = made-answered m (length d) p.fit s (room_yes (length (octets m)) (length d) (omega arith) (omega arith)) in
      let front = sets_front (octets m) d (omega arith) in
      let nr : r ≡ length (octets m) = put.next ∙ zero-add (length (octets m)) in
      rw (nr, put.stored ∙ front) (made_as (answered (octets m)) made)
