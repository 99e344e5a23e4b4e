-- One octet of a waveform more.
--     settings-is    what stands for a channel of the frame
--     given_is       the sample whose last octet has come is the one that the file up to the waveform's end has there
--     wave_on        what is known of the waveform then
-- Assumes nothing.
use Prim.Native.Nat.{ℕ, suc, ◌+◌, ◌-◌, ◌*◌, ◌≤◌, ◌<◌}
use mathlib.Core.Path.{◌≡◌, refl, sym, ◌∙◌, ap, subst}
use mathlib.Core.List.{List, [], ◌∷◌, ◌++◌, append-nil, append_assoc}
use mathlib.Core.Bool.{Bool, true, false}
use native.Mathlib.Omega.{arith}
use borrow.Author.Tests.{ltb-true, ltb-false, le-leb}
use lib.Dec.{ltb}
use lib.ListN.{length, get_or, take, drop, length-append, length-take, length-map}
use lib.Seq.{get_or-take, drop-drop, drop-append-le, take-append-le}
use Rattle.octets.specs.Pick.{pick}
use Rattle.octets.specs.Number.{number_of}
use Rattle.octets.proofs.Laws.{part_of}
use Rattle.heads.specs.declared.Fault.TheVariants.{PastEnd}
use Rattle.items.specs.declared.Within.TheVariants.{Root}
use Rattle.items.specs.Walk.{refusal, cursor}
use Rattle.values.specs.Sample.{value_of}
use Rattle.settings.specs.declared.Settings.{Settings}
use Rattle.settings.specs.Settings.{zero_settings}
use Rattle.dated.specs.declared.Dated.{Dated}
use Rattle.dated.specs.Dated.{zero_dated, held}
use Rattle.dated.proofs.Refreshed.{held_at}
use Rattle.layout.specs.Frame.{Frame, width_in, channel_in, offset_of, place_of}
use Rattle.laid.specs.Laid.{sample_bits}
use Rattle.there.specs.There.{is_there}
use Rattle.verdict.specs.Verdict.{refused, unlimited}
use Rattle.reader.specs.Answer.{found_sample, sample_in}
use Rattle.walk.specs.declared.Waveform.{Waveform}
use Rattle.walk.specs.Advance.{Stand}
use Rattle.walk.specs.Joined.{frame_by}
use Rattle.walk.proofs.Joins.{Stands, Counts}
use Rattle.link.specs.Link.{Coming, coming, Given, Phase, waveform, Link, link, settings_in, next_coming, sample_on, in_sequences, given_as, sample_by, gives_in}
use Rattle.link.specs.Order.{sample_given, samples_given, frames_given}
use Rattle.link.proofs.Grown.{grown, grown_long, to_grown, of_grown}
use Rattle.link.proofs.Rest.{rest, rest-next}
use Rattle.link.proofs.Arrives.{ArrivesAt, number_at, width_at, lies, lies-is, next_at, octets_now_lem, arrives_on, complete, arrives_next}
use Rattle.link.proofs.Follows.{channels_by, InWave}

-- What stands for a channel of the frame, as its record has it.
pub settings-is : (m : ℕ) (records : List Dated) (c : ℕ) → c < length (take m (held records)) → (get_or records c zero_dated).settings ≡ channel_in c (take m (held records))
unfolding held
settings-is m records c h =
    let k = length-take m (held records) in
    let n = length-map records (λ (x : Dated). x.settings) in
    sym (held_at c records zero_dated zero_settings (omega arith)) ∙ sym (get_or-take m (held records) c zero_settings (omega arith))

module _ (s : List ℕ) (b : ℕ) (n : ℕ) (y : Stand) (around : ℕ) (v : Waveform) (ph : Phase) (gs : List Given) (left : ℕ) (t : Coming) (some : 0 < left) (p : InWave s n y around v gs left t) where
  abbrev now : List ℕ
  now = grown s b

  abbrev cs : List Settings
  cs = channels_by v y

  abbrev S : ℕ
  S = v.sequences

  -- As many octets have come as the link has counted.
  abbrev l : Link
  l = link (n + 1) y around v ph

  abbrev octets : List ℕ
  octets = t.octets ++ (b ∷ [])

  long_now : length now ≡ suc (length s)
  long_now = grown_long s b

  -- What is known whatever the octet does to the samples.
  goes_on : (gs' here' : List Given) (t' : Coming) → gs' ≡ frames_given p.met ++ here' → (t'.sequence < S → ArrivesAt now cs v.place t')
      → ((u : List ℕ) → length now + (left - 1) ≤ length (now ++ u) → samples_given (frame_by (now ++ u) v y) ≡ here' ++ rest (sample_given (frame_by (now ++ u) v y)) cs S t')
      → InWave now (n + 1) y around v gs' (left - 1) t'
  goes_on gs' here' t' out arrives coming =
      record {
        met = p.met;
        here = here';
        out = out;
        counts = omega (arith, p.counts, long_now);
        many = p.many;
        begun = omega (arith, p.begun, long_now);
        ends = omega (arith, p.ends, long_now);
        near = omega (arith, p.near, long_now);
        stands = λ u h. to_grown s b (λ (z : List ℕ). Stands z (p.met ++ (frame_by z v y ∷ [])) y × Counts v (frame_by z v y)) u
            (p.stands (b ∷ u) (of_grown s b (λ (z : List ℕ). length s + left ≤ length z) u (omega (arith, long_now))));
        cuts = λ u h. to_grown s b (λ (z : List ℕ). unlimited z ≡ refused (refusal PastEnd around)) u (p.cuts (b ∷ u) (of_grown s b (λ (z : List ℕ). length z < length s + left) u (omega (arith, long_now))));
        behind = let e : length s + left ≡ length now + (left - 1) = omega (arith, long_now) in p.behind ∙ ap (λ (k : ℕ). cursor k Root) e;
        many-channels = p.many-channels;
        good = p.good;
        arrives = arrives;
        coming = coming;
      }

  -- What was to come before the octet.
  coming_before : (u : List ℕ) → length now + (left - 1) ≤ length (now ++ u) → samples_given (frame_by (now ++ u) v y) ≡ p.here ++ rest (sample_given (frame_by (now ++ u) v y)) cs S t
  coming_before u h =
      to_grown s b (λ (z : List ℕ). samples_given (frame_by z v y) ≡ p.here ++ rest (sample_given (frame_by z v y)) cs S t) u
      (p.coming (b ∷ u) (of_grown s b (λ (z : List ℕ). length s + left ≤ length z) u (omega (arith, long_now))))

  -- The octet is surplus.
  past-on : S ≤ t.sequence → InWave now (n + 1) y around v (gs ++ []) (left - 1) t
  past-on h = goes_on (gs ++ []) p.here t (append-nil gs ∙ p.out) (λ k. let z : ⊥ = omega arith in absurd z) coming_before

  module _ (q : t.sequence < S) where
    abbrev a : ArrivesAt s cs v.place t
    a = p.arrives q

    channel_in_lem : t.channel < length cs
    channel_in_lem = a.among.channel

    stands_for : settings_in l t.channel ≡ channel_in t.channel cs
    stands_for = settings-is v.channels y.records t.channel channel_in_lem

    -- More of the sample is to come.
    rest-same : (f : Frame) → rest (sample_given f) cs S (coming t.sequence t.channel t.index octets) ≡ rest (sample_given f) cs S t
    unfolding rest
    rest-same f = refl

    part_on : length octets < width_at cs t → InWave now (n + 1) y around v (gs ++ []) (left - 1) (coming t.sequence t.channel t.index octets)
    part_on h =
        goes_on (gs ++ []) p.here (coming t.sequence t.channel t.index octets) (append-nil gs ∙ p.out) (λ _. arrives_on s b cs v.place p.good t a h)
        (λ u k. coming_before u k ∙ ap (λ (r : List Given). p.here ++ r) (sym (rest-same (frame_by (now ++ u) v y))))

    -- The sample is complete.
    module _ (h : width_at cs t ≤ length octets) where
      ends-here : v.place + lies cs t + width_at cs t ≡ length now
      ends-here = complete s b cs v.place p.good t a h

      width_is : length octets ≡ width_at cs t
      width_is = omega (arith, a.come, length-append t.octets (b ∷ []))

      module _ (u : List ℕ) (k : length now + (left - 1) ≤ length (now ++ u)) where
        abbrev f : Frame
        f = frame_by (now ++ u) v y

        abbrev c : ℕ
        c = t.channel

        abbrev m : ℕ
        m = number_at cs t

        offset : offset_of cs c m ≡ lies cs t
        offset = lies-is cs t a.among

        counted : Counts v f
        counted =
            to_grown s b (λ (z : List ℕ). Counts v (frame_by z v y)) u
            (p.stands (b ∷ u) (of_grown s b (λ (z : List ℕ). length s + left ≤ length z) u (omega (arith, long_now)))).1

        inside : lies cs t + width_at cs t ≤ v.len
        inside = omega (arith, ends-here, p.ends, long_now)

        there : is_there cs (length f.waveform) c m ≡ true
        unfolding is_there
        there = le-leb (offset_of cs c m + width_in (channel_in c cs)) (length f.waveform) (omega (arith, offset, counted.long, inside))

        place_is : place_of c m f ≡ n + 1 - length octets
        unfolding place_of
        place_is = omega (arith, offset, ends-here, width_is, p.counts, long_now)

        bits_is : sample_bits f c m ≡ number_of v.little (take (width_at cs t) octets)
        unfolding sample_bits
        bits_is =
            let w = width_at cs t in
            ap (number_of v.little)
            (ap (λ (o : ℕ). take w (drop o f.waveform)) offset
            ∙ part_of w (lies cs t) v.len (drop v.place (now ++ u)) inside
            ∙ ap (take w) (drop-drop (lies cs t) v.place (now ++ u) ∙ drop-append-le (v.place + lies cs t) now u (omega (arith, ends-here)))
            ∙ ap (λ (x : List ℕ). take w (x ++ u)) (sym (octets_now_lem s b cs v.place p.good t a))
            ∙ take-append-le w octets u h)

        -- The sample whose last octet has come is the one that the file has there.
        given_is : sample_given f c m ≡ given_as l t octets ∷ []
        unfolding sample_given sample_in
        given_is =
            simp there
            (λ i. record {
              channel = c;
              number = t.sequence * (sym stands_for i).block + t.index;
              sample = found_sample (place_is i) (given-bits i) (value_of (sym stands_for i).datatype (sym stands_for i).null (given-bits i));
            } ∷ [])
          where
            given-bits : sample_bits f c m ≡ number_of v.little (take (width_in (settings_in l c)) octets)
            given-bits = bits_is ∙ ap (λ (x : Settings). number_of v.little (take (width_in x) octets)) (sym stands_for)

      whole-on : InWave now (n + 1) y around v (gs ++ (given_as l t octets ∷ [])) (left - 1) (next_at cs t)
      whole-on =
          let g = given_as l t octets ∷ [] in
          goes_on (gs ++ g) (p.here ++ g) (next_at cs t) (ap (λ (x : List Given). x ++ g) p.out ∙ append_assoc (frames_given p.met) p.here g) (λ _. arrives_next s b cs v.place p.good t a h)
          (λ u k.
          let f = frame_by (now ++ u) v y in
          coming_before u k
          ∙ ap (λ (r : List Given). p.here ++ r)
          (rest-next (sample_given f) cs S t p.good.some q channel_in_lem a.among.index ∙ ap (λ (x : List Given). x ++ rest (sample_given f) cs S (next_at cs t)) (given_is u k))
          ∙ sym (append_assoc p.here g (rest (sample_given f) cs S (next_at cs t))))

  -- What the octet gives out, and the sample that is coming then.
  abbrev Goes : List Given → Coming → Type 0
  Goes g t' = InWave now (n + 1) y around v (gs ++ g) (left - 1) t'

  in_sequence : t.sequence < S → Goes (sample_by l t octets) (sample_on l t octets)
  unfolding sample_by sample_on
  in_sequence q = by (ltb (length octets) (width_in (settings_in l t.channel))) refl
    where
      is : width_in (settings_in l t.channel) ≡ width_at cs t
      is = ap width_in (stands_for q)

      by : (x : Bool) → ltb (length octets) (width_in (settings_in l t.channel)) ≡ x
          → Goes (pick x [] (given_as l t octets ∷ [])) (pick x (coming t.sequence t.channel t.index octets) (next_coming (settings_in l t.channel).block v.channels t))
      by true e = part_on q (rw (sym is) (ltb-true (length octets) (width_in (settings_in l t.channel)) e))
      by false e =
          subst (Goes (given_as l t octets ∷ [])) (λ i. next_coming (sym (stands_for q) i).block (sym p.many-channels i) t)
          (whole-on q (rw (sym is) (ltb-false (length octets) (width_in (settings_in l t.channel)) e)))

  pub wave_on : Goes (gives_in b (waveform left t) l) (pick (in_sequences l t) (sample_on l t octets) t)
  unfolding gives_in
  wave_on = by (ltb t.sequence S) refl
    where
      by : (x : Bool) → ltb t.sequence S ≡ x → Goes (pick x (sample_by l t octets) []) (pick x (sample_on l t octets) t)
      by true e = in_sequence (ltb-true t.sequence S e)
      by false e = past-on (ltb-false t.sequence S e)
