-- Laws of the questions, over what one pass answers.
--     checked_is        the check is the pass's count or refusal
--     look_refused, look_no_frame, look_no_channel, look_found    the ways of a look-up
--     described_is    the attributes, over a look-up
--     unseen    where no channel is seen no question for a sample is answered
--     frame_in, settings_seen, count_seen_lem, place_is, little_seen    what a channel that was found says of its frame
--     view_there, there_seen_lem, test_seen    how many of its samples are there, and whether one is
--     located_lies    its samples there lie in the file
--     told_at, asked_seen_lem, placed_seen    a question for a sample, and the place of one, over what is seen
--     bits_seen_lem    the octets at a sample's place are the sample's
--     PlacedAt, LackingAt, placed_at, placed-lacking    what the answer for a place says
--     sample-at, sample-lacking, sample-none    a sample, over its place
-- Assumes nothing.
use Rattle.std.specs.Prelude.{Result, Ok, Err, Option, Some, None}
use mathlib.Core.Path.{◌≡◌, refl, sym, ap, subst, ◌∙◌}
use mathlib.Core.List.{List}
use mathlib.Core.Bool.{Bool, true, false}
use mathlib.Core.Option.{Option as Maybe, none, some}
use Prim.Native.Nat.{ℕ, ◌*◌, ◌≤◌, ◌<◌}
use native.Mathlib.Omega.{arith}
use borrow.Author.Tests.{ltb-true, lt-ltb, le-ltb}
use lib.Dec.{ltb}
use Rattle.octets.specs.Pick.{pick}
use lib.ListN.{length, get_or, take, drop}
use Rattle.heads.specs.declared.Refusal.{Refusal}
use Rattle.heads.specs.declared.Fault.TheVariants.{NoFrame, NoChannel, NoSample}
use Rattle.heads.specs.Answer.{Answer, answered, refused_as, refused_by, map_answer, answer_of}
use Rattle.octets.specs.Number.{number_of, NumberRead}
use Rattle.octets.proofs.Laws.{part_read, part_fits}
use Rattle.values.specs.Sample.{Said, width_of, value_of, low_bits}
use Rattle.values.proofs.Laws.{width_le, low-bits}
use Rattle.settings.specs.Settings.{default_settings}
use Rattle.layout.specs.Frame.{Frame, width_in, sequence_octets, octets_below, channel_in, samples_of, offset_of, place_of, block_octets}
use Rattle.reader.specs.declared.Attributes.{Attributes}
use Rattle.laid.specs.Laid.{Named, sample_bits}
use Rattle.there.specs.There.{is_there, count_there, there_of, there_in, There}
use Rattle.spread.proofs.Lying.{there-named}
use Rattle.laid.proofs.Places.{below-fits}
use Rattle.pass.specs.declared.Asked.{Asked}
use Rattle.view.specs.declared.View.{View}
use Rattle.view.specs.View.{view_of, spread_of, count_seen, there_seen, place_seen, lies_in, asked_seen, place_in}
use Rattle.view.proofs.Lying.{LiesIn, lies_seen, map_seen}
use Rattle.pass.specs.declared.Scan.{Scan}
use Rattle.verdict.specs.Verdict.{Verdict, accepted, refused, verdict, checked_as, check_of}
use Rattle.pass.specs.Scan.{zero_frame, found_in, scanned_in, scan_of}
use Rattle.reader.specs.Answer.{found_sample, no_data, if_there, FoundPlace, found_place, placed_says, asked, asked_sample, seen_of, attributes_in, attributes_of, placed_of, sample_in, sample_of, attributes_seen}
use Rattle.reader.proofs.Order.{asked-both, sample-both, asked_found, sample_found, sample-refused}
use Rattle.reader.proofs.Ordered.{Lies, accepted-lies, accepted-small}
use Rattle.reader.proofs.There.{bits-there, counts_inside, test_there}

checked_in : (q : Asked) (v : Verdict) → answer_of (scanned_in q v).checked ≡ checked_as v
unfolding scanned_in checked_as
checked_in q (accepted fs) = refl
checked_in q (refused r) = refl

pub checked_is : (q : Asked) (s : List ℕ) (r : Scan) → r ≡ scan_of q s → answer_of r.checked ≡ check_of s
unfolding scan_of check_of
checked_is q s r e = ap (λ (x : Scan). answer_of x.checked) e ∙ checked_in q (verdict s)

-- The frame that is asked for is the one that was found.
found_view : (q : Asked) (fs : List Frame) (v : View) → q.frame < length fs → found_in q fs ≡ Some v → v ≡ view_of q.channel (get_or fs q.frame zero_frame)
unfolding found_in
found_view q fs v h e =
    let f : Some (view_of q.channel (get_or fs q.frame zero_frame)) ≡ Some v = simp (lt-ltb q.frame (length fs) h) at e in
    cc

found_some : (q : Asked) (fs : List Frame) → q.frame < length fs → found_in q fs ≡ None → ⊥
unfolding found_in
found_some q fs h e =
    let f : Some (view_of q.channel (get_or fs q.frame zero_frame)) ≡ None = simp (lt-ltb q.frame (length fs) h) at e in
    let z : ◌≡◌ {A = ℕ} 0 1 = cc in
    omega arith

view_channels : (channel : ℕ) (f : Frame) → (view_of channel f).channels ≡ length f.channels
unfolding view_of
view_channels channel f = refl

-- What a look-up is to answer, by the verdict on the file.
abbrev view_asked : Asked → Verdict → Answer View
view_asked q v = asked (λ f. answered (view_of q.channel f)) q.frame q.channel v

module _ (q : Asked) where
  refused_in : (v : Verdict) (x : Refusal) → (scanned_in q v).checked ≡ Err x → refused_by x ≡ view_asked q v
  unfolding scanned_in
  refused_in (accepted fs) x e =
      let z : ◌≡◌ {A = ℕ} 0 1 = cc in
      let a : ⊥ = omega arith in
      absurd a
  refused_in (refused r) x e = let f : r ≡ x = cc in ap (λ (y : Refusal). refused_by y) (sym f)

  no_frame_in : (v : Verdict) (n : ℕ) → (scanned_in q v).checked ≡ Ok n → n ≤ q.frame → refused_as NoFrame 0 ≡ view_asked q v
  unfolding scanned_in
  no_frame_in (accepted fs) n e h =
      let f : length fs ≡ n = cc in
      let k : length fs ≤ q.frame = omega arith in
      simp (le-ltb q.frame (length fs) k)
  no_frame_in (refused r) n e h =
      let z : ◌≡◌ {A = ℕ} 0 1 = cc in
      let a : ⊥ = omega arith in
      absurd a

  -- A frame that the file has was found.
  nothing_in : (v : Verdict) (n : ℕ) → (scanned_in q v).checked ≡ Ok n → q.frame < n → (scanned_in q v).found ≡ None → ⊥
  unfolding scanned_in
  nothing_in (accepted fs) n e h g = let f : length fs ≡ n = cc in found_some q fs (omega arith) g
  nothing_in (refused r) n e h g = let z : ◌≡◌ {A = ℕ} 0 1 = cc in omega arith

  no_channel_in : (v : Verdict) (n : ℕ) (w : View) → (scanned_in q v).checked ≡ Ok n → q.frame < n → (scanned_in q v).found ≡ Some w → w.channels ≤ q.channel → refused_as NoChannel 0 ≡ view_asked q v
  unfolding scanned_in
  no_channel_in (accepted fs) n w e h g l =
      let f : length fs ≡ n = cc in
      let k : q.frame < length fs = omega arith in
      let m = ap (λ (x : View). x.channels) (found_view q fs w k g) ∙ view_channels q.channel (get_or fs q.frame zero_frame) in
      let o : length (get_or fs q.frame zero_frame).channels ≤ q.channel = omega arith in
      simp (lt-ltb q.frame (length fs) k, le-ltb q.channel _ o)
  no_channel_in (refused r) n w e h g l =
      let z : ◌≡◌ {A = ℕ} 0 1 = cc in
      let a : ⊥ = omega arith in
      absurd a

  found_in_lem : (v : Verdict) (n : ℕ) (w : View) → (scanned_in q v).checked ≡ Ok n → q.frame < n → (scanned_in q v).found ≡ Some w → q.channel < w.channels → answered w ≡ view_asked q v
  unfolding scanned_in
  found_in_lem (accepted fs) n w e h g l =
      let f : length fs ≡ n = cc in
      let k : q.frame < length fs = omega arith in
      let u = found_view q fs w k g in
      let m = ap (λ (x : View). x.channels) u ∙ view_channels q.channel (get_or fs q.frame zero_frame) in
      let o : q.channel < length (get_or fs q.frame zero_frame).channels = omega arith in
      simp (lt-ltb q.frame (length fs) k, lt-ltb q.channel _ o, u)
  found_in_lem (refused r) n w e h g l =
      let z : ◌≡◌ {A = ℕ} 0 1 = cc in
      let a : ⊥ = omega arith in
      absurd a

module _ (s : List ℕ) (frame channel : ℕ) (r : Scan) where
  abbrev question : Asked
  question = record { frame = frame; channel = channel }

  module _ (e : r ≡ scan_of question s) where
    told : r ≡ scanned_in question (verdict s)
    unfolding scan_of
    told = e

    checked_told : (scanned_in question (verdict s)).checked ≡ r.checked
    checked_told = sym (ap (λ (x : Scan). x.checked) told)

    found_told : (scanned_in question (verdict s)).found ≡ r.found
    found_told = sym (ap (λ (x : Scan). x.found) told)

    pub look_refused : (x : Refusal) → r.checked ≡ Err x → refused_by x ≡ seen_of s frame channel
    unfolding seen_of
    look_refused x a = refused_in question (verdict s) x (checked_told ∙ a)

    module _ (n : ℕ) (a : r.checked ≡ Ok n) where
      pub look_no_frame : n ≤ frame → refused_as NoFrame 0 ≡ seen_of s frame channel
      unfolding seen_of
      look_no_frame h = no_frame_in question (verdict s) n (checked_told ∙ a) h

      pub look_nothing : frame < n → r.found ≡ None → ⊥
      look_nothing h b = nothing_in question (verdict s) n (checked_told ∙ a) h (found_told ∙ b)

      pub look_no_channel : (w : View) → frame < n → r.found ≡ Some w → w.channels ≤ channel → refused_as NoChannel 0 ≡ seen_of s frame channel
      unfolding seen_of
      look_no_channel w h b l = no_channel_in question (verdict s) n w (checked_told ∙ a) h (found_told ∙ b) l

      pub look_found : (w : View) → frame < n → r.found ≡ Some w → channel < w.channels → answered w ≡ seen_of s frame channel
      unfolding seen_of
      look_found w h b l = found_in_lem question (verdict s) n w (checked_told ∙ a) h (found_told ∙ b) l

-- ---- answers over a look-up

-- The file is accepted and has the frame and the channel.
pub record Located (s : List ℕ) (frame channel : ℕ) (w : View) : Type 0 where
  pub frames : List Frame
  pub verdict_is : verdict s ≡ accepted frames
  pub frame_in : frame < length frames
  pub channel_is : channel < length (get_or frames frame zero_frame).channels
  pub view : w ≡ view_of channel (get_or frames frame zero_frame)

pub located : (s : List ℕ) (frame channel : ℕ) (w : View) {r : Result View Refusal} → answer_of r ≡ seen_of s frame channel → r ≡ Ok w → Located s frame channel w
unfolding seen_of
located s frame channel w e f =
    asked-both (λ (a b : Answer View). answered w ≡ a → Located s frame channel w)
    (λ fault place q. let z : ◌≡◌ {A = ℕ} 0 1 = cc in let a : ⊥ = omega arith in absurd a) frame channel (λ (g : Frame). answered (view_of channel g)) (λ (g : Frame). answered (view_of channel g)) (verdict s)
    (λ fs v i c q. record { frames = fs; verdict_is = v; frame_in = i; channel_is = c; view = cc q }) (ap answer_of (sym f) ∙ e)

view_attributes : (channel : ℕ) (f : Frame) → channel < length f.channels → attributes_seen (view_of channel f) ≡ attributes_in channel f
unfolding view_of attributes_in
view_attributes channel f h = simp (lt-ltb channel (length f.channels) h)

-- The attributes are those of the channel that is seen.
pub described_is : (s : List ℕ) (frame channel : ℕ) → map_answer attributes_seen (seen_of s frame channel) ≡ attributes_of s frame channel
unfolding attributes_of seen_of
described_is s frame channel =
    asked-both (λ (a : Answer View) (b : Answer Attributes). map_answer attributes_seen a ≡ b) (λ fault place. refl) frame channel (λ (g : Frame). answered (view_of channel g))
    (λ (g : Frame). answered (attributes_in channel g)) (verdict s)
    (λ fs v i c. ap answered (view_attributes channel (get_or fs frame zero_frame) c))

-- ---- the place of a sample

-- What is told of a place that is found, in the channel that is seen.
abbrev pub told_at : View → Option ℕ → Maybe FoundPlace
told_at w (Some at) = some (found_place at w)
told_at w None = none

-- Of a channel that the frame has, as many samples are seen as are there.
pub view_there : (channel : ℕ) (f : Frame) → channel < length f.channels → there_seen (view_of channel f) ≡ there_in channel f
unfolding view_of there_in there_of
view_there channel f h =
    ap (λ (b : Bool). let c = pick b (channel_in channel f.channels) default_settings in count_there f.sequences c.block (width_in c) (sequence_octets f.channels) (octets_below channel f.channels) (length f.waveform))
    (lt-ltb channel (length f.channels) h)

module _ {s : List ℕ} {frame channel : ℕ} {w : View} (p : Located s frame channel w) where
  -- The frame that was found.
  abbrev pub frame_in : Frame
  frame_in = get_or p.frames frame zero_frame

  pub settings_seen : w.settings ≡ channel_in channel frame_in.channels
  unfolding view_of
  settings_seen = ap (λ (v : View). v.settings) p.view ∙ simp (lt-ltb channel (length frame_in.channels) p.channel_is)

  pub count_seen_lem : count_seen w ≡ samples_of channel frame_in
  unfolding view_of samples_of
  count_seen_lem = λ i. ap (λ (v : View). v.sequences) p.view i * (settings_seen i).block

  pub place_is : (n : ℕ) → place_seen w n ≡ place_of channel n frame_in
  unfolding view_of place_seen place_of offset_of
  place_is n = ap (λ (v : View). place_seen v n) p.view ∙ simp (lt-ltb channel (length frame_in.channels) p.channel_is)

  pub little_seen : w.little ≡ frame_in.little
  unfolding view_of
  little_seen = ap (λ (v : View). v.little) p.view

  octets_seen : w.octets ≡ sequence_octets frame_in.channels
  unfolding view_of
  octets_seen = ap (λ (v : View). v.octets) p.view

  place_seen_lem : w.place ≡ frame_in.place
  unfolding view_of
  place_seen_lem = ap (λ (v : View). v.place) p.view

  below_seen : w.below ≡ octets_below channel frame_in.channels
  unfolding view_of
  below_seen = ap (λ (v : View). v.below) p.view

  long_seen : w.long ≡ length frame_in.waveform
  unfolding view_of
  long_seen = ap (λ (v : View). v.long) p.view

  pub there_seen_lem : there_seen w ≡ there_in channel frame_in
  there_seen_lem = ap there_seen p.view ∙ view_there channel frame_in p.channel_is

  pub frame-lies : Lies s frame_in
  frame-lies = accepted-lies s p.frames p.verdict_is frame p.frame_in

  -- The channel's samples there lie in the file.
  located_in : LiesIn (length s) w
  unfolding block_octets
  located_in =
      record {
        spread = record {
          small = accepted-small s p.frames p.verdict_is;
          wide = rw settings_seen (frame-lies.wide channel p.channel_is);
          block = rw (settings_seen, below_seen, octets_seen) (below-fits frame_in.channels channel p.channel_is);
          inside = rw (place_seen_lem, long_seen) frame-lies.inside;
        };
      }

  pub located_lies : lies_in (length s) w ≡ true
  located_lies = lies_seen located_in

  -- A question for a sample of the channel, over what is seen of it.
  pub asked_seen_lem : {A : Type 0} (g : Frame → A) (n : ℕ) → asked_sample g frame channel n (verdict s) ≡ asked_seen (length s) w n (g frame_in)
  asked_seen_lem g n =
      asked_found frame channel p.verdict_is p.frame_in p.channel_is (λ (f : Frame). pick (ltb n (samples_of channel f)) (answered (g f)) (refused_as NoSample 0))
      ∙ simp (located_lies, count_seen_lem)

  -- A declared sample, of which the frame says whether it is there.
  named_seen : {n : ℕ} → n < count_seen w → Named frame_in.channels frame_in.sequences channel n
  unfolding samples_of
  named_seen h = record { channel = p.channel_is; number = omega (arith, count_seen_lem) }

  pub test_seen : {n : ℕ} → n < count_seen w → ltb n (there_seen w) ≡ is_there frame_in.channels (length frame_in.waveform) channel n
  test_seen {n = n} h = ap (ltb n) there_seen_lem ∙ test_there s frame_in frame-lies (named_seen h)

  -- What is asked of a sample where it is declared may be asked knowing so.
  asked_knowing : {A : Type 0} {n : ℕ} {a b : A} → (n < count_seen w → a ≡ b) → asked_seen (length s) w n a ≡ asked_seen (length s) w n b
  asked_knowing {A} {n} {a} {b} f = by (ltb n (count_seen w)) refl
    where
      by : (t : Bool) → ltb n (count_seen w) ≡ t
          → ◌≡◌ {A = Answer A} (pick t (pick (lies_in (length s) w) (answered a) (refused_as NoFrame 0)) (refused_as NoSample 0)) (pick t (pick (lies_in (length s) w) (answered b) (refused_as NoFrame 0)) (refused_as NoSample 0))
      by true e = ap (λ (x : A). pick (lies_in (length s) w) (answered x) (refused_as NoFrame 0)) (f (ltb-true n (count_seen w) e))
      by false e = refl

  -- The place of a sample is the one that is found of what is seen.
  pub placed_seen : (n : ℕ) → map_answer (told_at w) (place_in (length s) w n) ≡ placed_of s frame channel n
  unfolding placed_of
  placed_seen n =
      map_seen (told_at w) (length s) w n (pick (ltb n (there_seen w)) (Some (place_seen w n)) None)
      ∙ asked_knowing (λ h. same (test_seen h))
      ∙ sym (asked_seen_lem (λ f. if_there channel n f (some (found_place (place_of channel n f) (view_of channel f))) none) n)
    where
      same : {t : Bool} → ltb n (there_seen w) ≡ t → told_at w (pick (ltb n (there_seen w)) (Some (place_seen w n)) None) ≡ pick t (some (found_place (place_of channel n frame_in) (view_of channel frame_in))) none
      same {t} e = ap (λ (u : Bool). told_at w (pick u (Some (place_seen w n)) None)) e ∙ by t
        where
          by : (u : Bool) → told_at w (pick u (Some (place_seen w n)) None) ≡ pick u (some (found_place (place_of channel n frame_in) (view_of channel frame_in))) none
          by true = λ i. some (found_place (place_is n i) (p.view i))
          by false = refl

  module _ {n : ℕ} (h : n < there_seen w) where
    pub is-there : There frame_in.channels frame_in.sequences (length frame_in.waveform) channel n
    is-there =
        let named = named_seen (there-named (spread_of w) n h) in
        record { named = named; inside = (counts_inside s frame_in frame-lies named).1 (omega (arith, there_seen_lem)) }

    -- The octets there are the sample's.
    pub bits_seen_lem : number_of w.little (take (width_of w.settings.datatype) (drop (place_seen w n) s)) ≡ sample_bits frame_in channel n
    bits_seen_lem =
        let o = little_seen in
        let c = settings_seen in
        let q = place_is n in
        (λ j. number_of (o j) (take (width_of (c j).datatype) (drop (q j) s))) ∙ bits-there s frame_in frame-lies is-there

-- Where no channel is seen no question for a sample is answered.
pub unseen : {A : Type 0} (g : Frame → A) (s : List ℕ) (frame channel n : ℕ) (x : Refusal) {r : Result View Refusal} → answer_of r ≡ seen_of s frame channel → r ≡ Err x → refused_by x ≡ asked_sample g frame channel n (verdict s)
unfolding seen_of
unseen {A} g s frame channel n x e f =
    asked-both (λ (a : Answer View) (b : Answer A). refused_by x ≡ a → refused_by x ≡ b) (λ m p q. cc) frame channel (λ (f : Frame). answered (view_of channel f))
    (λ (f : Frame). pick (ltb n (samples_of channel f)) (answered (g f)) (refused_as NoSample 0)) (verdict s)
    (λ fs v i c q. let z : ◌≡◌ {A = ℕ} 0 1 = cc q in let a : ⊥ = omega arith in absurd a) (ap answer_of (sym f) ∙ e)

-- ---- a sample, over its place

-- The file is accepted and has the frame, the channel and the sample, which is there and lies at p.
pub record PlacedAt (s : List ℕ) (frame channel n p : ℕ) (v : View) : Type 0 where
  pub channel_at : Located s frame channel v
  pub number : n < there_seen v
  pub place : p ≡ place_seen v n

-- It is declared and not there.
pub record LackingAt (s : List ℕ) (frame channel n : ℕ) : Type 0 where
  pub seen : View
  pub channel_at : Located s frame channel seen
  pub number : n < count_seen seen
  pub past : is_there (frame_in channel_at).channels (length (frame_in channel_at).waveform) channel n ≡ false

module _ (s : List ℕ) (frame channel n : ℕ) where
  -- What is told of the place in a frame.
  abbrev place_told : Frame → Maybe FoundPlace
  place_told f = if_there channel n f (some (found_place (place_of channel n f) (view_of channel f))) none

  -- What the answer for a place says, by whether the sample is there.
  abbrev Says : Maybe FoundPlace → Type 0
  Says (some x) = PlacedAt s frame channel n x.place x.channel
  Says none = LackingAt s frame channel n

  says : (fs : List Frame) → verdict s ≡ accepted fs → frame < length fs → channel < length (get_or fs frame zero_frame).channels → n < samples_of channel (get_or fs frame zero_frame)
      → let f = get_or fs frame zero_frame in (t : Bool) → is_there f.channels (length f.waveform) channel n ≡ t → Says (pick t (some (found_place (place_of channel n f) (view_of channel f))) none)
  says fs a i c h true t =
      let f = get_or fs frame zero_frame in
      let l : Located s frame channel (view_of channel f) = record { frames = fs; verdict_is = a; frame_in = i; channel_is = c; view = refl } in
      record { channel_at = l; number = ltb-true n _ (test_seen l (omega (arith, count_seen_lem l)) ∙ t); place = sym (place_is l n) }
  says fs a i c h false t =
      let f = get_or fs frame zero_frame in
      let l : Located s frame channel (view_of channel f) = record { frames = fs; verdict_is = a; frame_in = i; channel_is = c; view = refl } in
      record { seen = view_of channel f; channel_at = l; number = omega (arith, count_seen_lem l); past = t }

  answer_says : {o : Maybe FoundPlace} → answered o ≡ placed_of s frame channel n → Says o
  unfolding placed_of
  answer_says {o} =
      sample-both (λ (a b : Answer (Maybe FoundPlace)). answered o ≡ a → Says o)
      (λ fault place q. let z : ◌≡◌ {A = ℕ} 0 1 = cc in let a : ⊥ = omega arith in absurd a) frame channel place_told place_told n (verdict s)
      (λ fs a i c h q. let e : o ≡ place_told (get_or fs frame zero_frame) = cc q in subst Says (sym e) (says fs a i c h _ refl))

  pub placed_at : {p : ℕ} {v : View} {r : Result (Option (ℕ × View)) Refusal} → placed_says r ≡ placed_of s frame channel n → r ≡ Ok (Some (p, v)) → PlacedAt s frame channel n p v
  placed_at e f = answer_says (ap placed_says (sym f) ∙ e)

  pub placed-lacking : {r : Result (Option (ℕ × View)) Refusal} → placed_says r ≡ placed_of s frame channel n → r ≡ Ok None → LackingAt s frame channel n
  placed-lacking e f = answer_says (ap placed_says (sym f) ∙ e)

-- The sample that lies at the place that was found, of the octets x there.
pub sample-at : (s : List ℕ) (frame channel n : ℕ) {p width bits : ℕ} {w : View} {x : List ℕ} {value : Said} {r : Result (Option (ℕ × View)) Refusal} → placed_says r ≡ placed_of s frame channel n → r ≡ Ok (Some (p, w))
    → width ≡ width_of w.settings.datatype → x ≡ take width (drop p s) → NumberRead w.little (take 8 x) bits → value ≡ value_of w.settings.datatype w.settings.null (low_bits w.settings.datatype bits)
    → answered (found_sample p bits value) ≡ sample_of s frame channel n
unfolding sample_of sample_in
sample-at s frame channel n {p} {width} {bits} {w} {x} e f ew ex er ev =
    let m = placed_at s frame channel n e f in
    let l = m.channel_at in
    let place : p ≡ place_of channel n (frame_in l) = m.place ∙ place_is l n in
    let c = settings_seen l in
    let read = part_read w.little (width_of w.settings.datatype) (drop p s) x (width_le w.settings.datatype) (rw ew at ex) er in
    let all = low-bits w.settings.datatype bits (part_fits w.little (width_of w.settings.datatype) (drop p s) x (width_le w.settings.datatype) (rw ew at ex) er) in
    let named = there-named (spread_of w) n m.number in
    let there : true ≡ is_there (frame_in l).channels (length (frame_in l).waveform) channel n = sym (lt-ltb n (there_seen w) m.number) ∙ test_seen l named in
    let b : bits ≡ sample_bits (frame_in l) channel n = read ∙ ap (λ (k : ℕ). number_of w.little (take (width_of w.settings.datatype) (drop k s))) m.place ∙ bits_seen_lem l m.number in
    let v = ev ∙ ap (value_of w.settings.datatype w.settings.null) all ∙ (λ j. value_of (c j).datatype (c j).null (b j)) in
    (λ j. answered (pick (there j) (found_sample (place j) (b j) (v j)) no_data))
    ∙ sym (sample_found frame channel l.verdict_is l.frame_in l.channel_is (sample_in channel n) (omega (arith, count_seen_lem l)))

-- A sample that is not there.
pub sample-lacking : (s : List ℕ) (frame channel n : ℕ) {r : Result (Option (ℕ × View)) Refusal} → placed_says r ≡ placed_of s frame channel n → r ≡ Ok None → answered no_data ≡ sample_of s frame channel n
unfolding sample_of sample_in
sample-lacking s frame channel n e f =
    let m = placed-lacking s frame channel n e f in
    let l = m.channel_at in
    sym (sample_found frame channel l.verdict_is l.frame_in l.channel_is (sample_in channel n) (omega (arith, count_seen_lem l, m.number)) ∙ simp m.past)

pub sample-none : (s : List ℕ) (frame channel n : ℕ) (x : Refusal) {r : Result (Option (ℕ × View)) Refusal} → placed_says r ≡ placed_of s frame channel n → r ≡ Err x → refused_by x ≡ sample_of s frame channel n
unfolding placed_of sample_of
sample-none s frame channel n x e f =
    sample-refused (λ (f : Frame). if_there channel n f (some (found_place (place_of channel n f) (view_of channel f))) none) (sample_in channel n)
    frame channel n (verdict s) (ap placed_says (sym f) ∙ e)
