-- All samples there of the frame that a walk stands behind, channel after channel.
use Rattle.std.specs.Prelude.{Bool, List, ℕ, ltb, leb, drop}
use Rattle.octets.specs.Pick.{pick, both}
use Rattle.heads.specs.declared.Fault.TheVariants.{NoFrame}
use Rattle.heads.specs.Answer.{Answer, refused_as}
use Rattle.words.specs.Words.{records_held}
use Rattle.spread.specs.declared.Spread.{Spread}
use Rattle.spread.specs.declared.Sequences.{Sequences}
use Rattle.strides.specs.Channels.{spreads_from, swept_of}
use Rattle.walk.specs.declared.Waveform.{Waveform}
use Rattle.kept.specs.Words.{head_words, holds_head, waveform_in}

-- Words hold a frame with a record for each of its channels.
unfoldable pub holds_frame : List ℕ → Bool
holds_frame u = both (holds_head u) (both (ltb 0 (waveform_in u).channels) (leb (waveform_in u).channels (records_held (drop head_words u))))

-- The sequences of a frame.
abbrev pub sequences_by : Waveform → Sequences
sequences_by v = record { count = v.sequences; little = v.little; place = v.place; long = v.len; octets = v.octets }

-- Where the samples of the channels of the frame lie that the last step told of.
abbrev pub spreads_in : List ℕ → List Spread
spreads_in u = spreads_from (drop head_words u) (sequences_by (waveform_in u)) 0 (waveform_in u).channels

-- All its samples there, as many as there is room for: 20 where it told of none, and where the samples of a channel do not lie in the file.
unfoldable pub sweep_in : List ℕ → List ℕ → ℕ → Answer (List ℕ)
sweep_in s u room = pick (holds_frame u) (swept_of s room (spreads_in u)) (refused_as NoFrame 0)
