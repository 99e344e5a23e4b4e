-- Where the samples of an accepted file lie.
--     Name, Declared, Exists, NamedSample, Belongs    a sample's name, and a sample there that the reader answers
--     sample_exists    the name of a sample that is there is answered
--     sample-lacking   that of one that is declared and not there is answered as no data, and no other is
--     sample-inside    a sample that is answered, no data aside, is one of the file's, and its octets lie in its own frame's waveform
--     samples-apart    two samples with different names share no octet
--     octet_owned      each octet of a waveform is one sample's, or surplus, and never both
-- Assumes nothing.
use Prim.Native.Nat.{ℕ, ◌+◌, ◌≤◌, ◌<◌}
use mathlib.Core.Path.{◌≡◌, refl, sym, ap, ◌∙◌}
use mathlib.Core.Logic.{◌↔◌, ◌⊎◌, inl, inr}
use mathlib.Core.List.{List}
use native.Mathlib.Decide.{dec_lt, ℕ_discrete}
use native.Mathlib.Omega.{arith}
use lib.ListN.{length, take, drop}
use Rattle.octets.specs.Number.{number_of}
use borrow.Author.Tests.{le-leb, lt-leb}
use Rattle.values.specs.Sample.{Said, no_data_said, value_of}
use Rattle.values.proofs.Exact.{value-some}
use Rattle.settings.specs.declared.Settings.{Settings}
use Rattle.layout.specs.Frame.{Frame, width_in, channel_in, samples_of, place_of}
use Rattle.laid.specs.Laid.{Named, sample_octets, sample_bits}
use Rattle.laid.proofs.Places.{offset-apart}
use Rattle.there.specs.There.{end_of, is_there, octets_there, There, Held}
use Rattle.there.proofs.Places.{there-ends, octet_held}
use Rattle.heads.specs.Answer.{Answer, answered}
use Rattle.verdict.specs.Verdict.{accepted, verdict}
use Rattle.reader.specs.Answer.{FoundSample, found_sample, no_data, sample_in, sample_of}
use Rattle.reader.proofs.Ordered.{waveform_end, accepted-lies, accepted_ordered}
use Rattle.reader.proofs.There.{octets-there}
use Rattle.theorems.proofs.Questions.{frame_number, sample-answered}

-- ---- names

-- A sample's name.
pub record Name : Type 0 where
  pub frame : ℕ
  pub channel : ℕ
  pub number : ℕ

-- The frame of a name, and the settings of its channel there.
abbrev pub named_frame : List Frame → Name → Frame
named_frame fs x = frame_number fs x.frame

abbrev pub named_settings : List Frame → Name → Settings
named_settings fs x = channel_in x.channel (named_frame fs x).channels

-- Octets of a sample of this name.
abbrev pub named_width : List Frame → Name → ℕ
named_width fs x = width_in (named_settings fs x)

-- The octets of a sample of this name in its frame's waveform.
abbrev pub named_octets : List Frame → Name → List ℕ
named_octets fs x = sample_octets (named_frame fs x).channels (named_frame fs x).waveform x.channel x.number

-- The frames declare a sample of this name.
pub record Declared (fs : List Frame) (x : Name) : Type 0 where
  pub frame : x.frame < length fs
  pub sample : Named (named_frame fs x).channels (named_frame fs x).sequences x.channel x.number

-- Its octets are all inside its own frame's waveform.
abbrev pub Whole : List Frame → Name → Type 0
Whole fs x = end_of (named_frame fs x).channels x.channel x.number ≤ length (named_frame fs x).waveform

-- The frames have a sample of this name, and it is there.
pub record Exists (fs : List Frame) (x : Name) : Type 0 where
  pub declared : Declared fs x
  pub whole : Whole fs x

-- A named sample of a file that is there: the reader answers its place, its bits and its value, which is not no data.
pub record NamedSample (s : List ℕ) : Type 0 where
  pub name : Name
  pub place : ℕ
  pub bits : ℕ
  pub value : Said
  pub answer : sample_of s name.frame name.channel name.number ≡ answered (found_sample place bits value)
  pub whole : value.kind ≡ no_data_said.kind → ⊥

-- Octet p of the file is one of the sample's.
pub record Belongs (s : List ℕ) (fs : List Frame) (a : NamedSample s) (p : ℕ) : Type 0 where
  pub index : ℕ
  pub inside : index < named_width fs a.name
  pub place : a.place + index ≡ p

-- The sample is one of its frame's; its octets lie in that frame's waveform, from the place on; its bits and its value are theirs.
pub record InWaveform (s : List ℕ) (fs : List Frame) (a : NamedSample s) : Type 0 where
  pub exists : Exists fs a.name
  pub placed : a.place ≡ place_of a.name.channel a.name.number (named_frame fs a.name)
  pub low : (named_frame fs a.name).place ≤ a.place
  pub high : a.place + named_width fs a.name ≤ waveform_end (named_frame fs a.name)
  pub octets : take (named_width fs a.name) (drop a.place s) ≡ named_octets fs a.name
  pub bits : a.bits ≡ number_of (named_frame fs a.name).little (named_octets fs a.name)
  pub value : a.value ≡ value_of (named_settings fs a.name).datatype (named_settings fs a.name).null a.bits

-- Octet p of the file is one of a sample's, and of no other's.
pub record OneSample (s : List ℕ) (fs : List Frame) (p : ℕ) : Type 0 where
  pub sample : NamedSample s
  pub belongs : Belongs s fs sample p
  pub only : (b : NamedSample s) → Belongs s fs b p → b.name ≡ sample.name

-- Octet o of a frame's waveform is before the surplus and one sample's, or in the surplus and no sample's.
abbrev pub Owned : List ℕ → List Frame → Frame → ℕ → Type 0
Owned s fs f o =
    ((o < octets_there f) × OneSample s fs (f.place + o))
    ⊎ ((octets_there f ≤ o) × ((b : NamedSample s) → Belongs s fs b (f.place + o) → ⊥))

-- ---- names and parts

name_same : (x y : Name) → x.frame ≡ y.frame → x.channel ≡ y.channel → x.number ≡ y.number → x ≡ y
name_same x y f c n = λ i. record { frame = f i; channel = c i; number = n i }

name_decided : (x y : Name) → Dec (x ≡ y)
name_decided x y = by (ℕ_discrete x.frame y.frame) (ℕ_discrete x.channel y.channel) (ℕ_discrete x.number y.number)
  where
    by : Dec (x.frame ≡ y.frame) → Dec (x.channel ≡ y.channel) → Dec (x.number ≡ y.number) → Dec (x ≡ y)
    by (yes f) (yes c) (yes n) = yes (name_same x y f c n)
    by (yes f) (yes c) (no n) = no (λ e. n (ap (λ (z : Name). z.number) e))
    by (yes f) (no c) n = no (λ e. c (ap (λ (z : Name). z.channel) e))
    by (no f) c n = no (λ e. f (ap (λ (z : Name). z.frame) e))

-- Two samples of one frame share no octet.
apart_in : (f : Frame) (c n d m i j p : ℕ) → Named f.channels f.sequences c n → Named f.channels f.sequences d m
    → ((c ≡ d) × (n ≡ m) → ⊥) → i < width_in (channel_in c f.channels) → j < width_in (channel_in d f.channels) → place_of c n f + i ≡ p → place_of d m f + j ≡ p → ⊥
unfolding place_of
apart_in f c n d m i j p g h differ k l q r = offset-apart g h differ i j k l (omega arith)

-- ---- one sample

-- The question for a sample, by whether it is there.
module _ (f : Frame) (c n : ℕ) where
  abbrev answer_there : FoundSample
  answer_there =
      let s = channel_in c f.channels in found_sample (place_of c n f) (sample_bits f c n) (value_of s.datatype s.null (sample_bits f c n))

  sample-whole : end_of f.channels c n ≤ length f.waveform → sample_in c n f ≡ answer_there
  unfolding sample_in is_there
  sample-whole h = rw (le-leb _ _ h)

  sample_cut : length f.waveform < end_of f.channels c n → sample_in c n f ≡ no_data
  unfolding sample_in is_there
  sample_cut h = rw (lt-leb _ _ h)

module _ (s : List ℕ) (fs : List Frame) (e : verdict s ≡ accepted fs) where
  abbrev asked : Name → Answer FoundSample
  asked x = sample_of s x.frame x.channel x.number

  -- What a declared name is answered, and that only a declared one is answered.
  declared_answered : (x : Name) → Declared fs x → asked x ≡ answered (sample_in x.channel x.number (named_frame fs x))
  unfolding samples_of
  declared_answered x h = ((sample-answered s fs e x.frame x.channel x.number).there _).1 (h.frame, h.sample.channel, h.sample.number, refl)

  answered_declared : (x : Name) {y : FoundSample} → asked x ≡ answered y → Declared fs x × (sample_in x.channel x.number (named_frame fs x) ≡ y)
  unfolding samples_of
  answered_declared x q =
      let r = ((sample-answered s fs e x.frame x.channel x.number).there _).0 q in
      (record { frame = r.0; sample = record { channel = r.1; number = r.2 } }, r.3)

  -- The name of a sample that is there is answered.
  pub sample_exists : (x : Name) → Exists fs x → (a : NamedSample s) × (a.name ≡ x)
  sample_exists x h =
      let c = named_settings fs x in
      let r = declared_answered x h.declared ∙ ap answered (sample-whole (named_frame fs x) x.channel x.number h.whole) in
      (record { name = x; place = _; bits = _; value = _; answer = r; whole = λ k. omega (arith, value-some c.datatype c.null (sample_bits (named_frame fs x) x.channel x.number)) }, refl)

  -- An answer is that of a sample that is there, or no data where it is not.
  by_whole : (x : Name) {y : FoundSample} → asked x ≡ answered y → (Exists fs x × (answer_there (named_frame fs x) x.channel x.number ≡ y)) ⊎ (Declared fs x × (Whole fs x → ⊥) × (no_data ≡ y))
  by_whole x q =
      let f = named_frame fs x in
      let d = answered_declared x q in
      by d.0 d.1 (dec_lt (length f.waveform) (end_of f.channels x.channel x.number))
    where
      by : {y : FoundSample} → Declared fs x → sample_in x.channel x.number (named_frame fs x) ≡ y
          → Dec (length (named_frame fs x).waveform < end_of (named_frame fs x).channels x.channel x.number)
          → (Exists fs x × (answer_there (named_frame fs x) x.channel x.number ≡ y)) ⊎ (Declared fs x × (Whole fs x → ⊥) × (no_data ≡ y))
      by d r (yes l) = inr (d, (λ h. omega arith), sym (sample_cut (named_frame fs x) x.channel x.number l) ∙ r)
      by d r (no l) =
          let h : Whole fs x = omega arith in
          inl (record { declared = d; whole = h }, sym (sample-whole (named_frame fs x) x.channel x.number h) ∙ r)

  -- A name is answered as no data exactly where its sample is declared and not there.
  pub sample-lacking : (x : Name) → (asked x ≡ answered no_data) ↔ (Declared fs x × (Whole fs x → ⊥))
  sample-lacking x = (λ q. to (by_whole x q), λ h. declared_answered x h.0 ∙ ap answered (sample_cut (named_frame fs x) x.channel x.number (past h.1)))
    where
      to : (Exists fs x × (answer_there (named_frame fs x) x.channel x.number ≡ no_data)) ⊎ (Declared fs x × (Whole fs x → ⊥) × (no_data ≡ no_data)) → Declared fs x × (Whole fs x → ⊥)
      to (inl h) =
          let c = named_settings fs x in
          let z : ⊥ = omega (arith, value-some c.datatype c.null (sample_bits (named_frame fs x) x.channel x.number), ap (λ (y : FoundSample). y.value.kind) h.1) in
          absurd z
      to (inr h) = (h.0, h.1)

      past : (Whole fs x → ⊥) → length (named_frame fs x).waveform < end_of (named_frame fs x).channels x.channel x.number
      past g = by (dec_lt (length (named_frame fs x).waveform) (end_of (named_frame fs x).channels x.channel x.number))
        where
          by : Dec (length (named_frame fs x).waveform < end_of (named_frame fs x).channels x.channel x.number) → length (named_frame fs x).waveform < end_of (named_frame fs x).channels x.channel x.number
          by (yes l) = l
          by (no l) = let z : ⊥ = g (omega arith) in absurd z

  -- No other answer is of the seventh kind.
  pub no_data_only : (x : Name) (y : FoundSample) → asked x ≡ answered y → y.value.kind ≡ no_data_said.kind → y ≡ no_data
  no_data_only x y q k = by (by_whole x q)
    where
      by : (Exists fs x × (answer_there (named_frame fs x) x.channel x.number ≡ y)) ⊎ (Declared fs x × (Whole fs x → ⊥) × (no_data ≡ y)) → y ≡ no_data
      by (inl h) =
          let c = named_settings fs x in
          let z : ⊥ = omega (arith, value-some c.datatype c.null (sample_bits (named_frame fs x) x.channel x.number), ap (λ (v : FoundSample). v.value.kind) h.1) in
          absurd z
      by (inr h) = sym h.2

  pub sample-inside : (a : NamedSample s) → InWaveform s fs a
  unfolding sample_bits place_of
  sample-inside a = by (by_whole a.name a.answer)
    where
      x : Name
      x = a.name

      by : (Exists fs x × (answer_there (named_frame fs x) x.channel x.number ≡ found_sample a.place a.bits a.value)) ⊎ (Declared fs x × (Whole fs x → ⊥) × (no_data ≡ found_sample a.place a.bits a.value)) → InWaveform s fs a
      by (inr h) = absurd (a.whole (sym (ap (λ (y : FoundSample). y.value.kind) h.2)))
      by (inl h) =
          let f = named_frame fs x in
          let c = named_settings fs x in
          let l = accepted-lies s fs e x.frame h.0.declared.frame in
          let there : There f.channels f.sequences (length f.waveform) x.channel x.number = record { named = h.0.declared.sample; inside = h.0.whole } in
          let p : a.place ≡ place_of x.channel x.number f = sym (ap (λ (y : FoundSample). y.place) h.1) in
          let b : a.bits ≡ sample_bits f x.channel x.number = sym (ap (λ (y : FoundSample). y.bits) h.1) in
          record {
            exists = h.0;
            placed = p;
            low = omega arith;
            high = omega (arith, h.0.whole);
            octets = rw p (octets-there s f l there);
            bits = b;
            value = sym (ap (λ (y : FoundSample). y.value) h.1) ∙ ap (value_of c.datatype c.null) (sym b);
          }

  -- ---- two samples

  -- A sample with octet p, where p is in the waveform of frame i, is one of that frame.
  frame_same : (a : NamedSample s) (i p : ℕ) → i < length fs → Belongs s fs a p → (frame_number fs i).place ≤ p → p < waveform_end (frame_number fs i) → a.name.frame ≡ i
  frame_same a i p h b low high = by (dec_lt a.name.frame i) (dec_lt i a.name.frame)
    where
      by : Dec (a.name.frame < i) → Dec (i < a.name.frame) → a.name.frame ≡ i
      by (yes l) m = let k = sample-inside a in let z : ⊥ = omega (arith, accepted_ordered s fs e a.name.frame i l h) in absurd z
      by (no l) (yes m) = let k = sample-inside a in let z : ⊥ = omega (arith, accepted_ordered s fs e i a.name.frame m k.exists.declared.frame) in absurd z
      by (no l) (no m) = omega arith

  pub samples-apart : (a b : NamedSample s) → (a.name ≡ b.name → ⊥) → (p : ℕ) → Belongs s fs a p → Belongs s fs b p → ⊥
  samples-apart a b differ p k l =
      let x = sample-inside a in
      let y = sample-inside b in
      let f : a.name.frame ≡ b.name.frame = frame_same a b.name.frame p y.exists.declared.frame k (omega arith) (omega arith) in
      apart_in (named_frame fs b.name) _ _ _ _ k.index l.index p (rw f at x.exists.declared.sample) y.exists.declared.sample
      (λ q. differ (name_same a.name b.name f q.0 q.1)) (rw f at k.inside) l.inside
      (ap (λ (z : ℕ). z + k.index) (sym (rw f at x.placed)) ∙ k.place) (ap (λ (z : ℕ). z + l.index) (sym y.placed) ∙ l.place)

  -- ---- every octet

  -- The sample there that has an octet of a frame's waveform.
  held : (i o : ℕ) → i < length fs → Held (frame_number fs i).channels (frame_number fs i).sequences (length (frame_number fs i).waveform) o → (a : NamedSample s) × Belongs s fs a ((frame_number fs i).place + o)
  unfolding place_of
  held i o h c =
      let x : Name = record { frame = i; channel = c.channel; number = c.n } in
      let b = sample_exists x (record { declared = record { frame = h; sample = c.there.named }; whole = c.there.inside }) in
      let placed = rw b.1 at (sample-inside b.0).placed in
      (b.0, record { index = c.i; inside = rw b.1 c.inside; place = omega (arith, placed, c.place) })

  -- The octets of a sample that is there are ahead of the surplus of its frame.
  before_surplus : (a : NamedSample s) (p : ℕ) → Belongs s fs a p → p < (named_frame fs a.name).place + octets_there (named_frame fs a.name)
  unfolding place_of octets_there
  before_surplus a p b =
      let x = a.name in
      let f = named_frame fs x in
      let k = sample-inside a in
      omega (arith, (there-ends f.channels f.sequences (length f.waveform) x.channel x.number k.exists.declared.sample).0 k.exists.whole)

  module _ (i o : ℕ) (h : i < length fs) (l : o < length (frame_number fs i).waveform) where
    -- The sample of an octet ahead of the surplus, and no other.
    one_sample : o < octets_there (frame_number fs i) → OneSample s fs ((frame_number fs i).place + o)
    unfolding octets_there
    one_sample k =
        let c = held i o h (octet_held o k) in
        record { sample = c.0; belongs = c.1; only = λ b m. by b m c.0 c.1 (name_decided b.name c.0.name) }
      where
        by : (b : NamedSample s) → Belongs s fs b ((frame_number fs i).place + o) → (a : NamedSample s) → Belongs s fs a ((frame_number fs i).place + o) → Dec (b.name ≡ a.name) → b.name ≡ a.name
        by b m a n (yes q) = q
        by b m a n (no q) = absurd (samples-apart b a q ((frame_number fs i).place + o) m n)

    -- No sample has an octet of the surplus.
    no_sample : octets_there (frame_number fs i) ≤ o → (b : NamedSample s) → Belongs s fs b ((frame_number fs i).place + o) → ⊥
    no_sample k b m =
        let f = frame_same b i ((frame_number fs i).place + o) h m (omega arith) (omega arith) in
        omega (arith, rw f at (before_surplus b ((frame_number fs i).place + o) m))

    pub octet_owned : Owned s fs (frame_number fs i) o
    octet_owned = by (dec_lt o (octets_there (frame_number fs i)))
      where
        by : Dec (o < octets_there (frame_number fs i)) → Owned s fs (frame_number fs i) o
        by (yes k) = inl (k, one_sample k)
        by (no k) = inr (omega arith, no_sample (omega arith))
