-- The channels of the frame that the last step told of, as words hold them.
use Rattle.std.specs.Prelude.{List, ℕ, ltb, get_or, drop}
use Rattle.octets.specs.Pick.{pick, both}
use Rattle.heads.specs.declared.Fault.TheVariants.{NoFrame, NoChannel}
use Rattle.heads.specs.Answer.{Answer, answered, refused_as}
use Rattle.settings.specs.declared.Settings.{Settings}
use Rattle.dated.specs.Dated.{zero_dated}
use Rattle.view.specs.declared.View.{View}
use Rattle.words.specs.Words.{records_in, below_in}
use Rattle.walk.specs.declared.Waveform.{Waveform}
use Rattle.kept.specs.Words.{head_words, holds_head, waveform_in}

-- A channel of a frame, with the octets of a sequence below it and its settings.
abbrev pub view_by : Waveform → ℕ → Settings → View
view_by v below c =
    record {
      start = v.start;
      channels = v.channels;
      sequences = v.sequences;
      little = v.little;
      place = v.place;
      long = v.len;
      octets = v.octets;
      below = below;
      settings = c;
    }

-- The same by the words of the channels' records: what is kept with the channel's.
abbrev pub view_at : List ℕ → Waveform → ℕ → View
view_at t v channel = view_by v (below_in t channel) (get_or (records_in t) channel zero_dated).settings

-- The same of the words that hold the frame.
abbrev pub view_kept : List ℕ → ℕ → View
view_kept u channel = view_at (drop head_words u) (waveform_in u) channel

-- A channel of the frame that the last step told of: 20 where it told of none, then 21 where the frame has no such channel.
unfoldable pub view_in : List ℕ → ℕ → Answer View
view_in u channel =
    pick (both (holds_head u) (ltb 0 (waveform_in u).channels))
    (pick (ltb channel (waveform_in u).channels) (answered (view_kept u channel)) (refused_as NoChannel 0))
    (refused_as NoFrame 0)
