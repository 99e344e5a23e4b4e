-- What reading many samples answers, over how many of them are read.
--     there-is    how many samples are there of a channel that is looked up
--     none-asked, laid-asked, unlaid_asked    a question for a sample, by the two tests
--     read_located, values_located    the answers for a frame of the file
--     read_refused, read_asked, read-many, read_bits, read_count, read_left    the answer for a channel that is seen
-- Assumes nothing.
use Rattle.std.specs.Prelude.{Result, Ok, Err}
use mathlib.Core.Path.{◌≡◌, refl, sym, ap, ◌∙◌}
use mathlib.Core.Bool.{Bool, true, false}
use mathlib.Core.List.{List}
use Prim.Native.Nat.{ℕ, ◌-◌, ◌≤◌, ◌<◌, min}
use native.Mathlib.Decide.{dec_lt}
use native.Mathlib.Omega.{arith}
use borrow.Author.Tests.{ltb-true, lt-ltb, le-ltb}
use lib.Dec.{ltb}
use lib.ListN.{length, get_or}
use lib.Seq.{sets}
use Rattle.octets.specs.Pick.{pick}
use Rattle.octets.proofs.Pick.{pick_cases}
use Rattle.heads.specs.declared.Refusal.{Refusal}
use Rattle.heads.specs.declared.Fault.TheVariants.{NoFrame, NoSample}
use Rattle.heads.specs.Answer.{Answer, answered, refused_as, refused_by, map_answer, left_by, answer_of}
use Rattle.layout.specs.Frame.{Frame, channel_in}
use Rattle.laid.specs.Laid.{sample_bits}
use Rattle.there.specs.There.{there_in}
use Rattle.spread.specs.Spread.{bits_spread}
use Rattle.strides.specs.Laying.{bits_from, lays_in}
use Rattle.strides.specs.Walked.{Layable}
use Rattle.strides.proofs.Walks.{length-bits, bits-same}
use Rattle.strides.proofs.Laying.{in_lays, no_bits}
use Rattle.strides.proofs.Channels.{filled}
use Rattle.view.specs.declared.View.{View}
use Rattle.view.specs.View.{view_of, spread_of, count_seen, there_seen, place_seen, lies_in, asked_seen}
use Rattle.view.proofs.Lying.{AskedIn, seen_lies, map_seen}
use Rattle.verdict.specs.Verdict.{verdict}
use Rattle.pass.specs.Scan.{zero_frame}
use Rattle.reader.specs.Answer.{seen_of}
use Rattle.reader.proofs.Order.{asked-both}
use Rattle.reader.proofs.Answers.{Located, frame_in, settings_seen, view_there, there_seen_lem, bits_seen_lem, asked_seen_lem}
use Rattle.bulk.specs.Samples.{there_at, bits_seen, read_of, read_seen, values_by, values_of, values_seen}

-- ---- how many are there

pub there-is : (s : List ℕ) (frame channel : ℕ) → map_answer there_seen (seen_of s frame channel) ≡ there_at s frame channel
unfolding there_at seen_of
there-is s frame channel =
    asked-both (λ (a : Answer View) (b : Answer ℕ). map_answer there_seen a ≡ b) (λ fault place. refl) frame channel (λ (f : Frame). answered (view_of channel f))
    (λ (f : Frame). answered (there_in channel f)) (verdict s)
    (λ fs v i c. ap answered (view_there channel (get_or fs frame zero_frame) c))

-- ---- a question for a sample

-- The answer where no such sample is declared, and where the samples do not lie in the file.
module _ {A : Type 0} (size : ℕ) (v : View) (first : ℕ) (a : A) where
  pub none-asked : count_seen v ≤ first → refused_as NoSample 0 ≡ asked_seen size v first a
  none-asked h = simp (le-ltb _ _ h)

  pub laid-asked : first < count_seen v → lies_in size v ≡ true → answered a ≡ asked_seen size v first a
  laid-asked h e = simp (lt-ltb _ _ h, e)

  pub unlaid_asked : first < count_seen v → lies_in size v ≡ false → refused_as NoFrame 0 ≡ asked_seen size v first a
  unlaid_asked h e = simp (lt-ltb _ _ h, e)

  -- An answer is one for a sample that is declared, of a view that lies in the file.
  asked_is : {b : A} → answered b ≡ asked_seen size v first a → AskedIn size v first × (b ≡ a)
  asked_is {b} = by (ltb first (count_seen v)) (lies_in size v) refl refl
    where
      by : (s t : Bool) → ltb first (count_seen v) ≡ s → lies_in size v ≡ t → answered b ≡ pick s (pick t (answered a) (refused_as NoFrame 0)) (refused_as NoSample 0) → AskedIn size v first × (b ≡ a)
      by true true x y q = (record { lies = seen_lies y; number = ltb-true first (count_seen v) x }, (cc))
      by true false x y q = let z : ◌≡◌ {A = ℕ} 0 1 = cc in let w : ⊥ = omega arith in absurd w
      by false t x y q = let z : ◌≡◌ {A = ℕ} 0 1 = cc in let w : ⊥ = omega arith in absurd w

-- ---- the answer for a frame of the file

-- Its channel lies in the file, and what is seen of it are its samples.
module _ {s : List ℕ} {frame channel : ℕ} {v : View} (l : Located s frame channel v) (first room : ℕ) where
  same_bits : bits_from (bits_seen s v) first (min room (there_seen v - first)) ≡ bits_from (sample_bits (frame_in l) channel) first (min room (there_in channel (frame_in l) - first))
  unfolding bits_seen place_seen
  same_bits =
      bits-same (bits_seen s v) (sample_bits (frame_in l) channel) first first (min room (there_seen v - first)) (λ j k. bits_seen_lem l (omega arith))
      ∙ ap (λ (k : ℕ). bits_from (sample_bits (frame_in l) channel) first (min room (k - first))) (there_seen_lem l)

  pub read_located : read_seen s v first room ≡ read_of s frame channel first room
  unfolding read_seen read_of
  read_located =
      ap (asked_seen (length s) v first) same_bits
      ∙ sym (asked_seen_lem l (λ f. bits_from (sample_bits f channel) first (min room (there_in channel f - first))) first)

  pub values_located : values_seen s v first room ≡ values_of s frame channel first room
  unfolding values_seen read_seen values_of
  values_located =
      map_seen (values_by v.settings) (length s) v first (bits_from (bits_seen s v) first (min room (there_seen v - first)))
      ∙ (λ i. asked_seen (length s) v first (values_by (settings_seen l i) (same_bits i)))
      ∙ sym (asked_seen_lem l (λ f. values_by (channel_in channel f.channels) (bits_from (sample_bits f channel) first (min room (there_in channel f - first)))) first)

-- ---- the answer for a channel that is seen

-- Over how many samples are read.
module _ (s : List ℕ) (v : View) (first room : ℕ) {r : Result ℕ Refusal} (e : answer_of r ≡ asked_seen (length s) v first (min room (there_seen v - first))) where
  read_is : {y : Result ℕ Refusal} → r ≡ y → map_answer (bits_from (bits_seen s v) first) (answer_of y) ≡ read_seen s v first room
  unfolding read_seen
  read_is f =
      ap (λ (x : Result ℕ Refusal). map_answer (bits_from (bits_seen s v) first) (answer_of x)) (sym f)
      ∙ ap (map_answer (bits_from (bits_seen s v) first)) e
      ∙ map_seen (bits_from (bits_seen s v) first) (length s) v first (min room (there_seen v - first))

  pub read_refused : {x : Refusal} → r ≡ Err x → refused_by x ≡ read_seen s v first room
  read_refused f = read_is f

  module _ {n : ℕ} (f : r ≡ Ok n) where
    pub read_asked : AskedIn (length s) v first × (n ≡ min room (there_seen v - first))
    read_asked = asked_is (length s) v first (min room (there_seen v - first)) (ap answer_of (sym f) ∙ e)

    pub read_bits : answered (bits_from (bits_seen s v) first n) ≡ read_seen s v first room
    read_bits = read_is f

    pub read_count : answered n ≡ map_answer length (read_seen s v first room)
    read_count = ap answered (sym (length-bits (bits_seen s v) first n)) ∙ ap (map_answer length) read_bits

-- Laid at the front of the buffer; where none is read, the buffer stays as it is.
module _ (s : List ℕ) (v : View) (first : ℕ) (out : List ℕ) {r : Result ℕ Refusal} (e : answer_of r ≡ asked_seen (length s) v first (min (length out) (there_seen v - first))) {n : ℕ} (f : r ≡ Ok n) where
  abbrev bits : List ℕ
  bits = bits_from (bits_spread s (spread_of v)) first n

  laid : {new : List ℕ} → new ≡ pick (lays_in (length s) (length out) (spread_of v) first n 0) (sets out 0 bits) out → new ≡ sets out 0 bits
  laid {new} g = by (dec_lt 0 n)
    where
      a : AskedIn (length s) v first × (n ≡ min (length out) (there_seen v - first))
      a = read_asked s v first (length out) e f

      by : Dec (0 < n) → new ≡ sets out 0 bits
      by (yes h) =
          let m = a.1 in
          let k : Layable (length s) (length out) (spread_of v) first n 0 = record { fits = omega arith; there = omega arith; lies = a.0.lies.spread } in
          rw (in_lays k) at g
      by (no h) = g ∙ pick_cases (λ (x : List ℕ). x ≡ sets out 0 bits) (lays_in (length s) (length out) (spread_of v) first n 0) (λ q. refl) (λ q. no_bits _ first n 0 (omega arith))

  pub read_left : {new : List ℕ} → new ≡ pick (lays_in (length s) (length out) (spread_of v) first n 0) (sets out 0 bits) out → new ≡ left_by (read_seen s v first (length out)) out
  unfolding bits_seen
  read_left g =
      let m = (read_asked s v first (length out) e f).1 in
      filled out (read_bits s v first (length out) e f) (omega (arith, length-bits (bits_seen s v) first n)) (laid g)
