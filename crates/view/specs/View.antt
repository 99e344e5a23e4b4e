-- A channel of a frame as it is kept for reading its samples (document 01, "Frames and samples"; document 02, request 2): how many are declared and how many of
-- these are there, where they lie, and whether they lie in a file.
use Rattle.std.specs.Prelude.{Bool, ℕ, ltb, length, Option, Some, None}
use Rattle.octets.specs.Pick.{pick}
use Rattle.heads.specs.declared.Fault.TheVariants.{NoFrame, NoSample}
use Rattle.heads.specs.Answer.{Answer, answered, refused_as}
use Rattle.settings.specs.Settings.{default_settings}
use Rattle.layout.specs.Frame.{Frame, sequence_octets, octets_below, channel_in}
use Rattle.spread.specs.declared.Spread.{Spread}
use Rattle.spread.specs.Spread.{count_spread, there_spread, place_spread, lies_spread}
use Rattle.view.specs.declared.View.{View}

-- What is kept of a frame and one of its channels, the default settings where the frame lacks it.
unfoldable pub view_of : ℕ → Frame → View
view_of channel f =
    let c = pick (ltb channel (length f.channels)) (channel_in channel f.channels) default_settings in
    record {
      start = f.start;
      channels = length f.channels;
      sequences = f.sequences;
      little = f.little;
      place = f.place;
      long = length f.waveform;
      octets = sequence_octets f.channels;
      below = octets_below channel f.channels;
      settings = c;
    }

-- Where its samples lie.
abbrev pub spread_of : View → Spread
spread_of v =
    record {
      sequences = v.sequences;
      little = v.little;
      place = v.place;
      long = v.long;
      octets = v.octets;
      below = v.below;
      block = v.settings.block;
      datatype = v.settings.datatype;
    }

-- How many samples of the channel are declared, and how many of these are there.
abbrev pub count_seen : View → ℕ
count_seen v = count_spread (spread_of v)

abbrev pub there_seen : View → ℕ
there_seen v = there_spread (spread_of v)

-- The place of a sample of the channel.
unfoldable pub place_seen : View → ℕ → ℕ
place_seen v n = place_spread (spread_of v) n

-- The samples there lie in a file of `size` octets.
unfoldable pub lies_in : ℕ → View → Bool
lies_in size v = lies_spread size (spread_of v)

-- A question for a sample of the channel in a file of `size` octets answers 22 where no such sample is declared, then 20 where the samples there
-- do not lie in the file, which then has no such frame; and else what is asked.
abbrev pub asked_seen : {A : Type 0} → ℕ → View → ℕ → A → Answer A
asked_seen size v n answer =
    pick (ltb n (count_seen v)) (pick (lies_in size v) (answered answer) (refused_as NoFrame 0)) (refused_as NoSample 0)

-- The place of a sample of the channel in a file of `size` octets, none where it is declared and not there.
abbrev pub place_in : ℕ → View → ℕ → Answer (Option ℕ)
place_in size v n = asked_seen size v n (pick (ltb n (there_seen v)) (Some (place_seen v n)) None)
