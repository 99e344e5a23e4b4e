-- The recording is what a reader is told.
--     RecordingTold, recording_told    on an accepted file the check and the questions answer what its recording says
--     ToldSame, told_same     two accepted files hold equal recordings exactly when a reader is told the same of both
-- Assumes nothing.
use Prim.Native.Nat.{ℕ, ◌≤◌, ◌<◌}
use mathlib.Core.Path.{◌≡◌, refl, sym, ap, ◌∙◌}
use mathlib.Core.Logic.{◌↔◌}
use mathlib.Core.List.{List, []}
use mathlib.Core.Option.{Option, none, some}
use mathlib.Core.Bool.{Bool, true, false}
use native.Mathlib.Omega.{arith}
use native.Mathlib.Decide.{dec_lt}
use borrow.Author.Tests.{ltb-true, lt-ltb, le-ltb, ne_eqb}
use lib.Dec.{ltb}
use lib.ListN.{length, get_or, length-map}
use lib.Seq.{ext_get_or}
use Rattle.octets.specs.Pick.{pick}
use Rattle.values.specs.Sample.{no_data_said, value_of}
use Rattle.values.proofs.Exact.{value-some}
use Rattle.heads.specs.declared.Fault.TheVariants.{NoFrame, NoChannel, NoSample}
use Rattle.heads.specs.Answer.{Answer, answered, refused_as, map_answer}
use Rattle.settings.specs.Settings.{zero_settings}
use Rattle.layout.specs.Frame.{Frame, channel_in, samples_of, place_of, reported}
use Rattle.there.specs.There.{is_there, there_in}
use Rattle.there.proofs.Places.{there-few}
use Rattle.laid.specs.Laid.{sample_bits}
use Rattle.verdict.specs.Verdict.{Verdict, accepted, verdict, checked_as, check_of}
use Rattle.reader.specs.declared.Attributes.{Attributes}
use Rattle.reader.specs.Answer.{found_sample, no_data, asked, asked_sample, attributes_in, attributes_of, sample_in, sample_of}
use Rattle.reader.proofs.Ordered.{Lies, accepted-lies}
use Rattle.reader.proofs.There.{test_there}
use Rattle.canonical.specs.Recording.{Recorded, tabulate, recorded_frame, recording}
use Rattle.canonical.specs.Write.{recording_of}
use Rattle.canonical.proofs.Accepted.{tabulate-length, tabulate-at, map_at}
use Rattle.theorems.specs.Told.{zero_recorded, frame_recorded, attributes_recorded, samples_recorded, declared_recorded, bits_said, said, channel_said, channel_told, attributes_told, bits_found, bits_told}
use Rattle.theorems.proofs.Questions.{frame_number}
use Rattle.theorems.proofs.Canonical.{recording-is, recording-long}

-- The check and the questions answer what the recording of the file says, refusals too.
pub record RecordingTold (s : List ℕ) : Type 0 where
  pub count : check_of s ≡ answered (length (recording_of s))
  pub attributes : (i c : ℕ) → attributes_of s i c ≡ attributes_told (recording_of s) i c
  pub bits : (i c n : ℕ) → map_answer bits_found (sample_of s i c n) ≡ bits_told (recording_of s) i c n

-- ---- an entry

-- Two answers that agree where a test is met.
under : {A : Type 0} (b : Bool) (x y z : A) → (b ≡ true → x ≡ y) → pick b x z ≡ pick b y z
under true x y z h = h refl
under false x y z h = refl

-- The same answer, taken on under a test.
map-pick : {A B : Type 0} (g : A → B) (b : Bool) (x y : Answer A) → map_answer g (pick b x y) ≡ pick b (map_answer g x) (map_answer g y)
map-pick g true x y = refl
map-pick g false x y = refl

module _ (f : Frame) where
  channels-recorded : length (recorded_frame f).channels ≡ length f.channels
  unfolding recorded_frame
  channels-recorded = length-map f.channels reported

  -- What is asked of a channel of the frame and of its entry, where the answers agree.
  channel-recorded : {A : Type 0} (c : ℕ) (x : Answer A) (g : Recorded → Answer A) → (c < length f.channels → x ≡ g (recorded_frame f))
      → pick (ltb c (length f.channels)) x (refused_as NoChannel 0) ≡ channel_said g (recorded_frame f) c
  channel-recorded c x g h =
      under (ltb c (length f.channels)) x (g (recorded_frame f)) _ (λ u. h (ltb-true c _ u))
      ∙ ap (λ (k : ℕ). pick (ltb c k) (g (recorded_frame f)) (refused_as NoChannel 0)) (sym channels-recorded)

  module _ (c : ℕ) (h : c < length f.channels) where
    -- The attributes and the samples of a channel.
    attributes-recorded : attributes_in c f ≡ attributes_recorded c (recorded_frame f)
    unfolding attributes_in recorded_frame
    attributes-recorded = rw (length-map, map_at reported f.channels c zero_settings zero_settings h)

    samples-recorded : samples_recorded c (recorded_frame f) ≡ tabulate (there_in c f) (sample_bits f c)
    unfolding recorded_frame
    samples-recorded = tabulate-at (length f.channels) (λ k. tabulate (there_in k f) (sample_bits f k)) c [] h

    declared_recorded_lem : declared_recorded c (recorded_frame f) ≡ samples_of c f
    unfolding recorded_frame samples_of reported
    declared_recorded_lem = rw (map_at reported f.channels c zero_settings zero_settings h)

    -- What is answered of a declared sample is what its entry says.
    module _ (s : List ℕ) (l : Lies s f) (n : ℕ) (k : n < samples_of c f) where
      there : is_there f.channels (length f.waveform) c n ≡ ltb n (there_in c f)
      unfolding samples_of
      there = sym (test_there s f l (record { channel = h; number = k }))

      bits-recorded : bits_found (sample_in c n f) ≡ bits_said (samples_recorded c (recorded_frame f)) n
      unfolding sample_in
      bits-recorded = rw (there, samples-recorded, tabulate-length) (by (ltb n (there_in c f)) refl)
        where
          by : (t : Bool) → ltb n (there_in c f) ≡ t
              → let x = channel_in c f.channels in bits_found (pick t (found_sample (place_of c n f) (sample_bits f c n) (value_of x.datatype x.null (sample_bits f c n))) no_data) ≡ pick t (some (get_or (tabulate (there_in c f) (sample_bits f c)) n 0)) none
          by true e =
              let x = channel_in c f.channels in
              let z : (value_of x.datatype x.null (sample_bits f c n)).kind ≡ no_data_said.kind → ⊥ = λ q. omega (arith, value-some x.datatype x.null (sample_bits f c n)) in
              rw (ne_eqb _ _ z) (ap some (sym (tabulate-at (there_in c f) (sample_bits f c) n 0 (ltb-true n (there_in c f) e))))
          by false e = refl

-- An entry with a channel, and with samples for each channel, no more than are declared.
record Shaped (r : Recorded) : Type 0 where
  first : 0 < length r.channels
  counted : length r.samples ≡ length r.channels
  few : (c : ℕ) → c < length r.channels → length (samples_recorded c r) ≤ declared_recorded c r

-- Its lists are as many as its channels, and no sample is there that is not declared.
counted_in : (f : Frame) → length (recorded_frame f).samples ≡ length f.channels
unfolding recorded_frame
counted_in f = tabulate-length (length f.channels) _

least : (f : Frame) (c : ℕ) → there_in c f ≤ samples_of c f
unfolding there_in samples_of
least f c = there-few f.channels f.sequences (length f.waveform) c

frame_shaped : (f : Frame) → 0 < length f.channels → Shaped (recorded_frame f)
frame_shaped f h =
    record {
      first = omega (arith, channels-recorded f);
      counted = counted_in f ∙ sym (channels-recorded f);
      few = λ c k.
          let l : c < length f.channels = omega (arith, channels-recorded f) in
          rw (samples-recorded f c l, tabulate-length, declared_recorded_lem f c l) (least f c);
    }

-- ---- an accepted file

module _ (s : List ℕ) (fs : List Frame) (e : verdict s ≡ accepted fs) where
  as_long : length (recording_of s) ≡ length fs
  as_long = ap length (recording-is s fs e) ∙ recording-long fs

  -- The entry of a frame.
  entry-is : (i : ℕ) → i < length fs → frame_recorded (recording_of s) i ≡ recorded_frame (frame_number fs i)
  unfolding recording
  entry-is i h = ap (λ (rs : List Recorded). frame_recorded rs i) (recording-is s fs e) ∙ map_at recorded_frame fs i _ _ h

  -- What is asked of a channel of the file and of its recording, where the answers agree.
  frame_told : {A : Type 0} (i c : ℕ) (x : Answer A) (g : Recorded → Answer A)
      → (i < length fs → c < length (frame_number fs i).channels → x ≡ g (recorded_frame (frame_number fs i)))
      → pick (ltb i (length fs)) (pick (ltb c (length (frame_number fs i).channels)) x (refused_as NoChannel 0)) (refused_as NoFrame 0) ≡ channel_told g (recording_of s) i c
  frame_told i c x g h =
      rw as_long (under (ltb i (length fs)) _ _ _ (λ t. rw (entry-is i (ltb-true i (length fs) t)) (channel-recorded (frame_number fs i) c x g (h (ltb-true i (length fs) t)))))

  attributes_told_lem : (i c : ℕ) → attributes_of s i c ≡ attributes_told (recording_of s) i c
  unfolding attributes_of attributes_told
  attributes_told_lem i c =
      ap (asked (λ f. answered (attributes_in c f)) i c) e
      ∙ frame_told i c _ (λ r. answered (attributes_recorded c r)) (λ k h. ap answered (attributes-recorded (frame_number fs i) c h))

  bits_told_lem : (i c n : ℕ) → map_answer bits_found (sample_of s i c n) ≡ bits_told (recording_of s) i c n
  unfolding sample_of bits_told
  bits_told_lem i c n =
      let f = frame_number fs i in
      ap (λ (v : Verdict). map_answer bits_found (asked_sample (sample_in c n) i c n v)) e
      ∙ simp map-pick
      (frame_told i c _ (λ r. said (declared_recorded c r) (samples_recorded c r) n) (λ k h.
      rw (declared_recorded_lem f c h)
      (under (ltb n (samples_of c f)) _ _ _ (λ w. ap answered (bits-recorded f c h s (accepted-lies s fs e i k) n (ltb-true n _ w))))))

  count_told : check_of s ≡ answered (length (recording_of s))
  unfolding check_of checked_as
  count_told = ap checked_as e ∙ ap answered (sym as_long)

  pub recording_told : RecordingTold s
  recording_told = record { count = count_told; attributes = attributes_told_lem; bits = bits_told_lem }

  -- Each entry has a channel, and samples for each channel.
  shaped : (i : ℕ) → i < length (recording_of s) → Shaped (frame_recorded (recording_of s) i)
  shaped i h =
      let k : i < length fs = omega (arith, as_long) in
      rw (entry-is i k) (frame_shaped (frame_number fs i) (accepted-lies s fs e i k).some)

-- ---- equal recordings

-- What samples say where they are there, and past the last of them.
said-there : (d : ℕ) (a : List ℕ) (n : ℕ) → n < length a → length a ≤ d → said d a n ≡ answered (some (get_or a n 0))
said-there d a n h k = rw (lt-ltb n d (omega arith), lt-ltb n (length a) h)

-- Samples that say the same are as many,
no_longer : (d g : ℕ) (a b : List ℕ) → length b ≤ g → ((n : ℕ) → said d a n ≡ said g b n) → length a < length b → ⊥
no_longer d g a b k same h = by (ltb (length a) d) (sym (rw (le-ltb (length a) (length a) (omega arith)) at (same (length a))) ∙ refl) (said-there g b (length a) h k)
  where
    by : (t : Bool) → said g b (length a) ≡ pick t (answered none) (refused_as NoSample 0) → said g b (length a) ≡ answered (some (get_or b (length a) 0)) → ⊥
    by true p q = let z : ◌≡◌ {A = ℕ} 0 1 = cc in omega arith
    by false p q = let z : ◌≡◌ {A = ℕ} 0 1 = cc in omega arith

-- and equal.
said_same : (d g : ℕ) (a b : List ℕ) → length a ≤ d → length b ≤ g → ((n : ℕ) → said d a n ≡ said g b n) → a ≡ b
said_same d g a b k l same = by (dec_lt (length a) (length b)) (dec_lt (length b) (length a))
  where
    by : Dec (length a < length b) → Dec (length b < length a) → a ≡ b
    by (yes h) m = absurd (no_longer d g a b l same h)
    by (no h) (yes m) = absurd (no_longer g d b a k (λ n. sym (same n)) m)
    by (no h) (no m) =
        ext_get_or 0 a b (omega arith)
        (λ n j.
        let x = said-there d a n j k in
        let y = said-there g b n (omega arith) l in
        let z : answered (some (get_or a n 0)) ≡ answered (some (get_or b n 0)) = cc (same n) in
        cc)

module _ (r q : Recorded) (x : Shaped r) (y : Shaped q)
    (attributes : (c : ℕ) → channel_said (λ z. answered (attributes_recorded c z)) r c ≡ channel_said (λ z. answered (attributes_recorded c z)) q c)
    (bits : (c n : ℕ) → channel_said (λ z. said (declared_recorded c z) (samples_recorded c z) n) r c ≡ channel_said (λ z. said (declared_recorded c z) (samples_recorded c z) n) q c) where
  asked-there : {A : Type 0} (g : Recorded → Answer A) (z : Recorded) (c : ℕ) → c < length z.channels → channel_said g z c ≡ g z
  asked-there g z c h = rw (lt-ltb c (length z.channels) h)

  same-attributes : (c : ℕ) → c < length r.channels → c < length q.channels → attributes_recorded c r ≡ attributes_recorded c q
  same-attributes c h k =
      let a = asked-there (λ z. answered (attributes_recorded c z)) r c h in
      let b = asked-there (λ z. answered (attributes_recorded c z)) q c k in
      let e : answered (attributes_recorded c r) ≡ answered (attributes_recorded c q) = sym a ∙ attributes c ∙ b in
      cc

  same_count : length r.channels ≡ length q.channels
  same_count = ap (λ (a : Attributes). a.channels) (same-attributes 0 x.first y.first)

  same-settings : r.channels ≡ q.channels
  same-settings = ext_get_or zero_settings r.channels q.channels same_count (λ c h. ap (λ (a : Attributes). a.settings) (same-attributes c h (omega (arith, same_count))))

  same-samples : r.samples ≡ q.samples
  same-samples =
      ext_get_or [] r.samples q.samples (omega (arith, same_count, x.counted, y.counted))
      (λ c h.
      let i : c < length r.channels = omega (arith, x.counted) in
      let j : c < length q.channels = omega (arith, same_count, x.counted) in
      let g : ℕ → Recorded → Answer (Option ℕ) = λ n z. said (declared_recorded c z) (samples_recorded c z) n in
      said_same (declared_recorded c r) (declared_recorded c q) (samples_recorded c r) (samples_recorded c q) (x.few c i) (y.few c j)
      (λ n. sym (asked-there (g n) r c i) ∙ bits c n ∙ asked-there (g n) q c j))

  entry-same : r ≡ q
  entry-same =
      let a = same-attributes 0 x.first y.first in
      λ i. record { start = (a i).start; sequences = (a i).sequences; channels = same-settings i; samples = same-samples i }

module _ (rs qs : List Recorded) (long : length rs ≡ length qs)
    (x : (i : ℕ) → i < length rs → Shaped (frame_recorded rs i)) (y : (i : ℕ) → i < length qs → Shaped (frame_recorded qs i))
    (attributes : (i c : ℕ) → attributes_told rs i c ≡ attributes_told qs i c) (bits : (i c n : ℕ) → bits_told rs i c n ≡ bits_told qs i c n) where
  found : {A : Type 0} (g : Recorded → Answer A) (zs : List Recorded) (i c : ℕ) → i < length zs → channel_told g zs i c ≡ channel_said g (frame_recorded zs i) c
  found g zs i c h = rw (lt-ltb i (length zs) h)

  recordings_same : rs ≡ qs
  unfolding attributes_told bits_told
  recordings_same =
      ext_get_or zero_recorded rs qs long
      (λ i h.
      let k : i < length qs = omega arith in
      entry-same (frame_recorded rs i) (frame_recorded qs i) (x i h) (y i k)
      (λ c. let g : Recorded → Answer Attributes = λ z. answered (attributes_recorded c z) in sym (found g rs i c h) ∙ attributes i c ∙ found g qs i c k)
      (λ c n. let g : Recorded → Answer (Option ℕ) = λ z. said (declared_recorded c z) (samples_recorded c z) n in sym (found g rs i c h) ∙ bits i c n ∙ found g qs i c k))

-- A reader is told the same of the files s and t: as many frames, the attributes of each channel in each frame, which samples are there, and the bits of each.
pub record ToldSame (s t : List ℕ) : Type 0 where
  pub count : check_of s ≡ check_of t
  pub attributes : (i c : ℕ) → attributes_of s i c ≡ attributes_of t i c
  pub bits : (i c n : ℕ) → map_answer bits_found (sample_of s i c n) ≡ map_answer bits_found (sample_of t i c n)

pub told_same : (s t : List ℕ) (fs gs : List Frame) → verdict s ≡ accepted fs → verdict t ≡ accepted gs → (recording_of s ≡ recording_of t) ↔ ToldSame s t
told_same s t fs gs e g = (λ q. said_alike q, λ h. alike h)
  where
    x : RecordingTold s
    x = recording_told s fs e

    y : RecordingTold t
    y = recording_told t gs g

    said_alike : recording_of s ≡ recording_of t → ToldSame s t
    said_alike q =
        record {
          count = x.count ∙ ap (λ (rs : List Recorded). answered (length rs)) q ∙ sym y.count;
          attributes = λ i c. x.attributes i c ∙ ap (λ (rs : List Recorded). attributes_told rs i c) q ∙ sym (y.attributes i c);
          bits = λ i c n. x.bits i c n ∙ ap (λ (rs : List Recorded). bits_told rs i c n) q ∙ sym (y.bits i c n);
        }

    alike : ToldSame s t → recording_of s ≡ recording_of t
    alike h =
        let long : answered (length (recording_of s)) ≡ answered (length (recording_of t)) = sym x.count ∙ h.count ∙ y.count in
        recordings_same (recording_of s) (recording_of t) (cc) (shaped s fs e) (shaped t gs g)
        (λ i c. sym (x.attributes i c) ∙ h.attributes i c ∙ y.attributes i c) (λ i c n. sym (x.bits i c n) ∙ h.bits i c n ∙ y.bits i c n)
