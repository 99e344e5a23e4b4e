-- What the check and the questions answer, and exactly when.
--     tested             three tests met in order: the first that fails decides
--     accepted_or_refused    every file is one or the other
--     limit_exactly, limit_place_lem    15 comes first
--     ByChannel, by_channel    on an accepted file a question that names a channel answers 20, 21, or what is asked for
--     BySample, by_sample      one that names a sample answers 20, 21, 22, or what is asked for
--     attributes-answered, channel-answered, there-answered, sample-answered, place-answered, samples-answered, values-answered    so each question
--     same_place_lem         the questions for a place and for a sample answer the same place
-- Assumes nothing.
use Rattle.heads.specs.Faults.{number_of}
use Rattle.heads.specs.declared.Fault.{Fault}
use Prim.Native.Nat.{ℕ, ◌-◌, ◌≤◌, ◌<◌, min}
use mathlib.Core.Path.{◌≡◌, refl, ap, ◌∙◌}
use mathlib.Core.Logic.{◌↔◌, ◌⊎◌, inl, inr}
use mathlib.Core.List.{List}
use mathlib.Core.Option.{Option, none, some}
use mathlib.Core.Bool.{Bool, true, false}
use native.Mathlib.Omega.{arith}
use borrow.Author.Tests.{ltb-true, ltb-false, lt-ltb, le-ltb}
use lib.Dec.{ltb}
use lib.ListN.{length, get_or}
use Rattle.octets.specs.Pick.{pick}
use Rattle.heads.specs.declared.Refusal.{Refusal}
use Rattle.heads.specs.declared.Fault.TheVariants.{LongFile, NoFrame, NoChannel, NoSample}
use Rattle.heads.specs.Answer.{Answer, answered, refused_as, map_answer}
use Rattle.items.specs.Walk.{refusal}
use Rattle.layout.specs.Frame.{Frame, channel_in, samples_of, place_of}
use Rattle.standing.specs.Standing.{octets_limit}
use Rattle.verdict.specs.Verdict.{Verdict, accepted, refused, verdict, check_of}
use Rattle.reader.proofs.Never.{only_limit}
use Rattle.reader.proofs.Checks.{check-refused}
use Rattle.reader.proofs.Order.{sample-both}
use Rattle.pass.specs.Scan.{zero_frame}
use Rattle.view.specs.declared.View.{View}
use Rattle.view.specs.View.{view_of}
use Rattle.reader.specs.Answer.{FoundSample, found_sample, no_data, FoundPlace, found_place, if_there, asked, asked_sample, attributes_in, attributes_of, sample_in, sample_of, seen_of, placed_of}
use Rattle.values.specs.Sample.{Said, value_of}
use Rattle.there.specs.There.{is_there, there_in}
use Rattle.strides.specs.Laying.{bits_from}
use Rattle.bulk.specs.Samples.{there_at, read_of, values_by, values_of}
use Rattle.laid.specs.Laid.{sample_bits}

-- ---- three tests

-- An answer y by the tests i < j, k < l and m < n, met in order: p, q or r where one fails, and x where none does.
record Tested {A : Type 0} (number : A → ℕ) (y x p q r : A) (i j k l m n : ℕ) : Type 0 where
  first : (y ≡ p) ↔ (j ≤ i)
  second : (y ≡ q) ↔ ((i < j) × (l ≤ k))
  third : (y ≡ r) ↔ ((i < j) × (k < l) × (n ≤ m))
  there : (z : A) → number z ≡ 0 → (y ≡ z) ↔ ((i < j) × (k < l) × (m < n) × (x ≡ z))
  one : (y ≡ x) ⊎ ((y ≡ p) ⊎ ((y ≡ q) ⊎ (y ≡ r)))

-- The answers' numbers tell them apart.
record Numbered {A : Type 0} (number : A → ℕ) (x p q r : A) : Type 0 where
  there : number x ≡ 0
  first : number p ≡ number_of NoFrame
  second : number q ≡ number_of NoChannel
  third : number r ≡ number_of NoSample

module _ {A : Type 0} (number : A → ℕ) (x p q r : A) (numbered : Numbered number x p q r) (i j k l m n : ℕ) where
  -- The answer, by what the tests say.
  abbrev by : Bool → Bool → Bool → A
  by a b c = pick a (pick b (pick c x r) q) p

  by_first : (a b c : Bool) → ltb i j ≡ a → by a b c ≡ p → j ≤ i
  by_first false b c t e = ltb-false i j t
  by_first true false c t e = let z : ⊥ = omega (arith, ap number e) in absurd z
  by_first true true false t e = let z : ⊥ = omega (arith, ap number e) in absurd z
  by_first true true true t e = let z : ⊥ = omega (arith, ap number e) in absurd z

  by_second : (a b c : Bool) → ltb i j ≡ a → ltb k l ≡ b → by a b c ≡ q → (i < j) × (l ≤ k)
  by_second false b c t u e = let z : ⊥ = omega (arith, ap number e) in absurd z
  by_second true false c t u e = (ltb-true i j t, ltb-false k l u)
  by_second true true false t u e = let z : ⊥ = omega (arith, ap number e) in absurd z
  by_second true true true t u e = let z : ⊥ = omega (arith, ap number e) in absurd z

  by_third : (a b c : Bool) → ltb i j ≡ a → ltb k l ≡ b → ltb m n ≡ c → by a b c ≡ r → (i < j) × (k < l) × (n ≤ m)
  by_third false b c t u v e = let z : ⊥ = omega (arith, ap number e) in absurd z
  by_third true false c t u v e = let z : ⊥ = omega (arith, ap number e) in absurd z
  by_third true true false t u v e = (ltb-true i j t, ltb-true k l u, ltb-false m n v)
  by_third true true true t u v e = let z : ⊥ = omega (arith, ap number e) in absurd z

  by_none : (a b c : Bool) → ltb i j ≡ a → ltb k l ≡ b → ltb m n ≡ c → (y : A) → number y ≡ 0 → by a b c ≡ y → (i < j) × (k < l) × (m < n) × (x ≡ y)
  by_none false b c t u v y o e = let z : ⊥ = omega (arith, ap number e) in absurd z
  by_none true false c t u v y o e = let z : ⊥ = omega (arith, ap number e) in absurd z
  by_none true true false t u v y o e = let z : ⊥ = omega (arith, ap number e) in absurd z
  by_none true true true t u v y o e = (ltb-true i j t, ltb-true k l u, ltb-true m n v, e)

  by_one : (a b c : Bool) → (by a b c ≡ x) ⊎ ((by a b c ≡ p) ⊎ ((by a b c ≡ q) ⊎ (by a b c ≡ r)))
  by_one false b c = inr (inl refl)
  by_one true false c = inr (inr (inl refl))
  by_one true true false = inr (inr (inr refl))
  by_one true true true = inl refl

  tested : Tested number (by (ltb i j) (ltb k l) (ltb m n)) x p q r i j k l m n
  tested =
      record {
        first = (by_first (ltb i j) (ltb k l) (ltb m n) refl, λ h. simp (le-ltb i j h));
        second = (by_second (ltb i j) (ltb k l) (ltb m n) refl refl, λ h. simp (lt-ltb i j h.0, le-ltb k l h.1));
        third = (by_third (ltb i j) (ltb k l) (ltb m n) refl refl refl, λ h. simp (lt-ltb i j h.0, lt-ltb k l h.1, le-ltb m n h.2));
        there = λ y o. (by_none (ltb i j) (ltb k l) (ltb m n) refl refl refl y o, λ h. simp (lt-ltb i j h.0, lt-ltb k l h.1, lt-ltb m n h.2) h.3);
        one = by_one (ltb i j) (ltb k l) (ltb m n);
      }

-- ---- the check

pub accepted_or_refused : (s : List ℕ) → ((fs : List Frame) × (verdict s ≡ accepted fs)) ⊎ ((r : Refusal) × (verdict s ≡ refused r))
accepted_or_refused s = by (verdict s) refl
  where
    by : (v : Verdict) → verdict s ≡ v → ((fs : List Frame) × (verdict s ≡ accepted fs)) ⊎ ((r : Refusal) × (verdict s ≡ refused r))
    by (accepted fs) e = inl (fs, e)
    by (refused r) e = inr (r, e)

-- 15 comes first, and the items are looked at only behind it.
limit_first : (s : List ℕ) → octets_limit < length s → verdict s ≡ refused (refusal LongFile 0)
unfolding verdict
limit_first s h = rw (lt-ltb octets_limit (length s) h)

pub limit_exactly : (s : List ℕ) → (check_of s ≡ refused_as LongFile 0) ↔ (octets_limit < length s)
limit_exactly s =
    (λ q. only_limit s (refusal LongFile 0) ((check-refused s LongFile 0).0 q) refl, λ h. (check-refused s LongFile 0).1 (limit_first s h))

pub limit_place_lem : (s : List ℕ) (place : ℕ) → check_of s ≡ refused_as LongFile place → place ≡ 0
limit_place_lem s place q = let a = (limit_exactly s).1 (only_limit s (refusal LongFile place) ((check-refused s LongFile place).0 q) refl) in cc

-- ---- a question on an accepted file

-- The number of an answer's refusal, and 0 for any other answer.
abbrev number_in : {A : Type 0} → Answer A → ℕ
number_in (answered a) = 0
number_in (refused_as fault place) = number_of fault

-- Frame i.
abbrev pub frame_number : List Frame → ℕ → Frame
frame_number fs i = get_or fs i zero_frame

-- A question that names frame i and channel c answers y: what g says of the frame, or the first of 20 and 21 that holds, at place 0.
pub record ByChannel {A : Type 0} (y : Answer A) (g : Frame → A) (fs : List Frame) (i c : ℕ) : Type 0 where
  pub frame : (y ≡ refused_as NoFrame 0) ↔ (length fs ≤ i)
  pub channel : (y ≡ refused_as NoChannel 0) ↔ ((i < length fs) × (length (frame_number fs i).channels ≤ c))
  pub there : (a : A) → (y ≡ answered a) ↔ ((i < length fs) × (c < length (frame_number fs i).channels) × (g (frame_number fs i) ≡ a))
  pub late : (fault : Fault) (place : ℕ) → y ≡ refused_as fault place → (place ≡ 0) × ((fault ≡ NoFrame) ⊎ (fault ≡ NoChannel))

-- Where it names sample n too, 22 comes after them.
pub record BySample {A : Type 0} (y : Answer A) (g : Frame → A) (fs : List Frame) (i c n : ℕ) : Type 0 where
  pub frame : (y ≡ refused_as NoFrame 0) ↔ (length fs ≤ i)
  pub channel : (y ≡ refused_as NoChannel 0) ↔ ((i < length fs) × (length (frame_number fs i).channels ≤ c))
  pub sample : (y ≡ refused_as NoSample 0) ↔ ((i < length fs) × (c < length (frame_number fs i).channels) × (samples_of c (frame_number fs i) ≤ n))
  pub there : (a : A) → (y ≡ answered a) ↔ ((i < length fs) × (c < length (frame_number fs i).channels) × (n < samples_of c (frame_number fs i)) × (g (frame_number fs i) ≡ a))
  pub late : (fault : Fault) (place : ℕ) → y ≡ refused_as fault place → (place ≡ 0) × ((fault ≡ NoFrame) ⊎ ((fault ≡ NoChannel) ⊎ (fault ≡ NoSample)))

module _ {A : Type 0} (g : Frame → A) (v : Verdict) (fs : List Frame) (e : v ≡ accepted fs) (i c : ℕ) where
  -- The three tests of a question that names sample m, where the channel has n.
  abbrev TestedBy : Answer A → ℕ → ℕ → Type 0
  TestedBy y m n =
      Tested number_in y (answered (g (frame_number fs i))) (refused_as NoFrame 0) (refused_as NoChannel 0) (refused_as NoSample 0)
      i (length fs) c (length (frame_number fs i).channels) m n

  -- What the answer is one of.
  abbrev OneOfFour : Answer A → Type 0
  OneOfFour y = (y ≡ answered (g (frame_number fs i))) ⊎ ((y ≡ refused_as NoFrame 0) ⊎ ((y ≡ refused_as NoChannel 0) ⊎ (y ≡ refused_as NoSample 0)))

  late_by : (y : Answer A) (fault : Fault) (place : ℕ) → y ≡ refused_as fault place → OneOfFour y → (place ≡ 0) × ((fault ≡ NoFrame) ⊎ ((fault ≡ NoChannel) ⊎ (fault ≡ NoSample)))
  late_by y fault place q (inl h) = let z : ◌≡◌ {A = ℕ} 0 1 = cc in let w : ⊥ = omega arith in absurd w
  late_by y fault place q (inr (inl h)) = (cc, inl cc)
  late_by y fault place q (inr (inr (inl h))) = (cc, inr (inl cc))
  late_by y fault place q (inr (inr (inr h))) = (cc, inr (inr cc))

  channel_tested : TestedBy (asked (λ f. answered (g f)) i c v) 0 1
  channel_tested = rw e (tested number_in _ _ _ _ (omega arith) i (length fs) c (length (frame_number fs i).channels) 0 1)

  channel_late : (fault : Fault) (place : ℕ) → asked (λ f. answered (g f)) i c v ≡ refused_as fault place → (place ≡ 0) × ((fault ≡ NoFrame) ⊎ (fault ≡ NoChannel))
  channel_late fault place q = by (late_by _ fault place q channel_tested.one)
    where
      by : (place ≡ 0) × ((fault ≡ NoFrame) ⊎ ((fault ≡ NoChannel) ⊎ (fault ≡ NoSample))) → (place ≡ 0) × ((fault ≡ NoFrame) ⊎ (fault ≡ NoChannel))
      by (z, inl h) = (z, inl h)
      by (z, inr (inl h)) = (z, inr h)
      by (z, inr (inr h)) = let w : ⊥ = omega (arith, channel_tested.third.0 (q ∙ (λ j. refused_as (h j) (z j)))) in absurd w

  pub by_channel : ByChannel (asked (λ f. answered (g f)) i c v) g fs i c
  by_channel =
      let t = channel_tested in
      record {
        frame = t.first;
        channel = t.second;
        there = λ a. (λ h. let k = (t.there (answered a) refl).0 h in (k.0, k.1, cc), λ h. (t.there (answered a) refl).1 (h.0, h.1, omega arith, ap answered h.2));
        late = channel_late;
      }

  module _ (n : ℕ) where
    sample_tested : TestedBy (asked_sample g i c n v) n (samples_of c (frame_number fs i))
    sample_tested =
        rw e (tested number_in _ _ _ _ (omega arith) i (length fs) c (length (frame_number fs i).channels) n (samples_of c (frame_number fs i)))

    pub by_sample : BySample (asked_sample g i c n v) g fs i c n
    by_sample =
        let t = sample_tested in
        record {
          frame = t.first;
          channel = t.second;
          sample = t.third;
          there = λ a. (λ h. let k = (t.there (answered a) refl).0 h in (k.0, k.1, k.2, cc), λ h. (t.there (answered a) refl).1 (h.0, h.1, h.2, ap answered h.3));
          late = λ fault place q. late_by _ fault place q t.one;
        }

-- ---- the questions

-- The bits of samples n and on of channel c of a frame, as many as there is room for or are there.
abbrev pub bits_read : ℕ → ℕ → ℕ → Frame → List ℕ
bits_read c n room f = bits_from (sample_bits f c) n (min room (there_in c f - n))

-- Their values.
abbrev pub values_read : ℕ → ℕ → ℕ → Frame → List Said
values_read c n room f = values_by (channel_in c f.channels) (bits_read c n room f)

-- The place of sample n of channel c of a frame, with its channel; none where it is not there.
abbrev pub place_read : ℕ → ℕ → Frame → Option FoundPlace
place_read c n f = if_there c n f (some (found_place (place_of c n f) (view_of c f))) none

module _ (s : List ℕ) (fs : List Frame) (e : verdict s ≡ accepted fs) (i c : ℕ) where
  pub attributes-answered : ByChannel (attributes_of s i c) (attributes_in c) fs i c
  unfolding attributes_of
  attributes-answered = by_channel (attributes_in c) (verdict s) fs e i c

  pub channel-answered : ByChannel (seen_of s i c) (view_of c) fs i c
  unfolding seen_of
  channel-answered = by_channel (view_of c) (verdict s) fs e i c

  pub there-answered : ByChannel (there_at s i c) (there_in c) fs i c
  unfolding there_at
  there-answered = by_channel (there_in c) (verdict s) fs e i c

  module _ (n : ℕ) where
    pub sample-answered : BySample (sample_of s i c n) (sample_in c n) fs i c n
    unfolding sample_of
    sample-answered = by_sample (sample_in c n) (verdict s) fs e i c n

    pub place-answered : BySample (placed_of s i c n) (place_read c n) fs i c n
    unfolding placed_of
    place-answered = by_sample (place_read c n) (verdict s) fs e i c n

    pub samples-answered : (room : ℕ) → BySample (read_of s i c n room) (bits_read c n room) fs i c n
    unfolding read_of
    samples-answered room = by_sample (bits_read c n room) (verdict s) fs e i c n

    pub values-answered : (room : ℕ) → BySample (values_of s i c n room) (values_read c n room) fs i c n
    unfolding values_of
    values-answered room = by_sample (values_read c n room) (verdict s) fs e i c n

-- The place that is told of a sample: 0 where it is not there.
abbrev pub place_told : Option FoundPlace → ℕ
place_told (some x) = x.place
place_told none = 0

-- The questions for a place and for a sample answer the same place, or the same refusal.
pub same_place_lem : (s : List ℕ) (i c n : ℕ) → map_answer place_told (placed_of s i c n) ≡ map_answer (λ x. x.place) (sample_of s i c n)
unfolding placed_of sample_of sample_in
same_place_lem s i c n =
    sample-both (λ x y. map_answer place_told x ≡ map_answer (λ (z : FoundSample). z.place) y) (λ fault place. refl) i c (place_read c n) (sample_in c n) n (verdict s)
    (λ fs e h k l.
    let f = frame_number fs i in
    let x = channel_in c f.channels in
    ap answered (by (is_there f.channels (length f.waveform) c n) (place_of c n f) (sample_bits f c n) (view_of c f) (value_of x.datatype x.null (sample_bits f c n))))
  where
    by : (t : Bool) (p b : ℕ) (v : View) (x : Said) → place_told (pick t (some (found_place p v)) none) ≡ (pick t (found_sample p b x) no_data).place
    by true p b v x = refl
    by false p b v x = refl
