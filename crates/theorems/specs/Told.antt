-- What a recording says to the questions (document 01, "A recording is the list of frames"; document 02, request 2, "The recording says which samples are there").
use Rattle.std.specs.Prelude.{List, [], ℕ, ◌*◌, ltb, eqb, pos, length, get_or}
use Rattle.std.proofs.Math.Option.{Option, none, some}
use Rattle.octets.specs.Pick.{pick}
use Rattle.values.specs.Sample.{no_data_said}
use Rattle.heads.specs.declared.Fault.TheVariants.{NoFrame, NoChannel, NoSample}
use Rattle.heads.specs.Answer.{Answer, answered, refused_as}
use Rattle.layout.specs.Frame.{channel_in}
use Rattle.reader.specs.declared.Attributes.{Attributes}
use Rattle.reader.specs.Answer.{FoundSample, attributes_with}
use Rattle.canonical.specs.Recording.{Recorded}

-- What is read past a recording's last frame; no answer depends on it.
abbrev pub zero_recorded : Recorded
zero_recorded = record { start = pos 0; sequences = 0; channels = []; samples = [] }

-- Frame i of a recording.
abbrev pub frame_recorded : List Recorded → ℕ → Recorded
frame_recorded rs i = get_or rs i zero_recorded

-- The attributes of a channel: start pointer, channel count, sequences, and the channel's own.
abbrev pub attributes_recorded : ℕ → Recorded → Attributes
attributes_recorded c r = attributes_with r.start (length r.channels) r.sequences (channel_in c r.channels)

-- The bits of a channel's samples there, and how many are declared.
abbrev pub samples_recorded : ℕ → Recorded → List ℕ
samples_recorded c r = get_or r.samples c []

abbrev pub declared_recorded : ℕ → Recorded → ℕ
declared_recorded c r = r.sequences * (channel_in c r.channels).block

-- What samples there say of number n: its bits, or none where it is not there.
abbrev pub bits_said : List ℕ → ℕ → Option ℕ
bits_said a n = pick (ltb n (length a)) (some (get_or a n 0)) none

-- The same where so many are declared: 22 past them.
abbrev pub said : ℕ → List ℕ → ℕ → Answer (Option ℕ)
said declared a n = pick (ltb n declared) (answered (bits_said a n)) (refused_as NoSample 0)

-- What is asked of channel c of an entry: 21, or its answer.
abbrev pub channel_said : {A : Type 0} → (Recorded → Answer A) → Recorded → ℕ → Answer A
channel_said g r c = pick (ltb c (length r.channels)) (g r) (refused_as NoChannel 0)

-- What is asked of channel c of frame i: 20, 21, or the answer of the entry.
abbrev pub channel_told : {A : Type 0} → (Recorded → Answer A) → List Recorded → ℕ → ℕ → Answer A
channel_told g rs i c = pick (ltb i (length rs)) (channel_said g (frame_recorded rs i) c) (refused_as NoFrame 0)

-- The answer to the question for attributes.
unfoldable pub attributes_told : List Recorded → ℕ → ℕ → Answer Attributes
attributes_told rs i c = channel_told (λ r. answered (attributes_recorded c r)) rs i c

-- The bits in the answer to the question for a sample; none where it is no data.
abbrev pub bits_found : FoundSample → Option ℕ
bits_found x = pick (eqb x.value.kind no_data_said.kind) none (some x.bits)

-- What the recording says of them.
unfoldable pub bits_told : List Recorded → ℕ → ℕ → ℕ → Answer (Option ℕ)
bits_told rs i c n = channel_told (λ r. said (declared_recorded c r) (samples_recorded c r) n) rs i c
