-- The questions (document 01, "Frames and samples" and "What comes back when it is no"; document 02, request 2): the attributes of a channel in a frame, and
-- the place, bits and value of a sample.
use Rattle.heads.specs.declared.Refusal.{Refusal}
use Rattle.reader.specs.declared.Reading.{Reading}
use Rattle.std.specs.Prelude.{List, ℕ, ltb, ℤ, length, get_or, Result, Ok, Err, Option, Some, None}
use Rattle.std.proofs.Math.Option.{Option as Maybe, none, some}
use Rattle.octets.specs.Pick.{pick}
use Rattle.values.specs.Sample.{Said, no_data_said, value_says, value_of}
use Rattle.heads.specs.declared.Fault.TheVariants.{NoFrame, NoChannel, NoSample}
use Rattle.heads.specs.Answer.{Answer, answered, refused_as, refused_by}
use Rattle.settings.specs.declared.Settings.{Settings}
use Rattle.layout.specs.Frame.{Frame, reported, channel_in, samples_of, place_of}
use Rattle.laid.specs.Laid.{sample_bits}
use Rattle.there.specs.There.{is_there}
use Rattle.view.specs.declared.View.{View}
use Rattle.view.specs.View.{view_of}
use Rattle.reader.specs.declared.Attributes.{Attributes}
use Rattle.verdict.specs.Verdict.{Verdict, accepted, refused, verdict}
use Rattle.pass.specs.Scan.{zero_frame}

-- ---- what the answers say

-- A sample: its place, its bits, and what its value says.
pub record FoundSample : Type 0 where
  pub place : ℕ
  pub bits : ℕ
  pub value : Said

abbrev pub found_sample : ℕ → ℕ → Said → FoundSample
found_sample place bits value = record { place = place; bits = bits; value = value }

abbrev pub sampled_says : Result Reading Refusal → Answer FoundSample
sampled_says (Ok x) = answered (found_sample x.place x.bits (value_says x.value))
sampled_says (Err r) = refused_by r

-- The place of a sample, with its channel as the pass keeps it.
pub record FoundPlace : Type 0 where
  pub place : ℕ
  pub channel : View

abbrev pub found_place : ℕ → View → FoundPlace
found_place place v = record { place = place; channel = v }

abbrev pub placed_says : Result (Option (ℕ × View)) Refusal → Answer (Maybe FoundPlace)
placed_says (Ok (Some (place, v))) = answered (some (found_place place v))
placed_says (Ok None) = answered none
placed_says (Err r) = refused_by r

-- ---- the order of the refusals

-- A question on a refused file answers that file's refusal; then 20, 21 in that order; and else what is asked of the frame.
abbrev pub asked : {A : Type 0} → (Frame → Answer A) → ℕ → ℕ → Verdict → Answer A
asked answer frame channel (refused r) = refused_by r
asked answer frame channel (accepted fs) =
    let f = get_or fs frame zero_frame in
    pick (ltb frame (length fs))
    (pick (ltb channel (length f.channels)) (answer f) (refused_as NoChannel 0))
    (refused_as NoFrame 0)

-- Where a question names a sample too, 22 comes after them: no such sample is declared.
abbrev pub asked_sample : {A : Type 0} → (Frame → A) → ℕ → ℕ → ℕ → Verdict → Answer A
asked_sample answer frame channel n v =
    asked (λ f. pick (ltb n (samples_of channel f)) (answered (answer f)) (refused_as NoSample 0)) frame channel v

-- ---- attributes

-- Start pointer, channels and sequences of a frame, and the settings of one of its channels.
abbrev pub attributes_with : ℤ → ℕ → ℕ → Settings → Attributes
attributes_with start channels sequences c = record { start = start; channels = channels; sequences = sequences; settings = c }

-- The attributes of a channel that is seen.
abbrev pub attributes_seen : View → Attributes
attributes_seen v = attributes_with v.start v.channels v.sequences (reported v.settings)

-- The attributes of a channel in a frame: its settings as they are reported.
unfoldable pub attributes_in : ℕ → Frame → Attributes
attributes_in channel f = attributes_with f.start (length f.channels) f.sequences (reported (channel_in channel f.channels))

-- The attributes of a channel in a frame of a file.
unfoldable pub attributes_of : List ℕ → ℕ → ℕ → Answer Attributes
attributes_of s frame channel = asked (λ f. answered (attributes_in channel f)) frame channel (verdict s)

-- ---- samples

-- What is asked of a sample that is there, or what is answered of one that is not.
abbrev pub if_there : {A : Type 0} → ℕ → ℕ → Frame → A → A → A
if_there channel n f answer lacking = pick (is_there f.channels (length f.waveform) channel n) answer lacking

-- "It answers a seventh kind, no data, at place 0."
abbrev pub no_data : FoundSample
no_data = found_sample 0 0 no_data_said

-- The place, bits and value of a sample of a frame: no data comes before null.
unfoldable pub sample_in : ℕ → ℕ → Frame → FoundSample
sample_in channel n f =
    let c = channel_in channel f.channels in
    let bits = sample_bits f channel n in
    if_there channel n f (found_sample (place_of channel n f) bits (value_of c.datatype c.null bits)) no_data

-- A sample of a file, by frame, channel and number.
unfoldable pub sample_of : List ℕ → ℕ → ℕ → ℕ → Answer FoundSample
sample_of s frame channel n = asked_sample (sample_in channel n) frame channel n (verdict s)

-- ---- what the answers are made of

-- The channel that a question names, as the pass keeps it.
unfoldable pub seen_of : List ℕ → ℕ → ℕ → Answer View
seen_of s frame channel = asked (λ f. answered (view_of channel f)) frame channel (verdict s)

-- The place of the sample that a question names, with its channel as the pass keeps it; none where it is not there.
unfoldable pub placed_of : List ℕ → ℕ → ℕ → ℕ → Answer (Maybe FoundPlace)
placed_of s frame channel n =
    asked_sample (λ f. if_there channel n f (some (found_place (place_of channel n f) (view_of channel f))) none) frame channel n (verdict s)
