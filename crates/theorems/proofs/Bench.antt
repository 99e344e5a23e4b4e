-- Document 01's files on the bench, P1 to P11, as one table. The definitions are computed on each file, so that `refl` proves it.
use mathlib.Core.Path.{◌≡◌, refl}
use mathlib.Core.List.{List, [], ◌∷◌, map}
use Prim.Native.Nat.{ℕ}
use Prim.Native.String.{String}
use lib.IntN.{ℤ, pos, negsuc}
use lib.ListN.{length}
use Rattle.octets.specs.Number.{big_from, little_of, number_of, twos, signed_of}
use Rattle.values.specs.Sample.{whole_said, width_of, plain_of, is_null, value_of}
use Rattle.items.specs.declared.Item.{Item}
use Rattle.heads.specs.declared.Fault.{Fault}
use Rattle.heads.specs.declared.Fault.TheVariants.{LengthOctet, ChannelNumber, UnendedGroup, SampleWidth, NoSample}
use Rattle.heads.specs.Answer.{Answer, answered, refused_as}
use Rattle.heads.specs.Head.{channel_of, length_of, unknown_context, root_only, primitive_form, group_length, group_form, form_of, head_by, head_of}
use Rattle.items.specs.Walk.{Items, item, finished, fault, item_of, next_in, next_of, follow, walk, items_from, items_of}
use Rattle.definitions.specs.Define.{tagged, scale_of, defined}
use Rattle.settings.specs.declared.Settings.{Settings}
use Rattle.settings.specs.Settings.{all_applied}
use Rattle.layout.specs.Frame.{channel_in, offset_bits, block_octets, sequence_octets, octets_below, width_agrees, channel_agrees, all_agree, samples_of, offset_of, place_of, reported}
use Rattle.stores.specs.Number.{be}
use Rattle.stores.specs.Length.{holding, shortest}
use Rattle.laid.specs.Laid.{block, sequence, laid_from, laid, sample_bits}
use Rattle.reader.specs.declared.Attributes.{Attributes}
use Rattle.framing.specs.Framing.{channels_of, sequences_of, pointer_fits, pointer_after, framed_as}
use Rattle.effects.specs.Effects.{order_effect, count_effect, sequences_effect, start_effect, compressed_effect, all_effect, one_effect, root_effect, plain_effect, member_effect, group_effect, effect_of}
use Rattle.verdict.specs.Verdict.{State, first_state, Outcome, goes, refuses, one_changed, with_frame, carried, place_at, after_item, interpret, verdict, checked_as, check_of}
use Rattle.there.specs.There.{is_there, count_there, there_of, there_in}
use Rattle.reader.specs.Answer.{FoundSample, found_sample, no_data, attributes_in, attributes_of, sample_in, sample_of}
use Rattle.groups.specs.Item.{item_octets, number_item, unsigned_of}
use Rattle.groups.specs.Head.{sequences_item, head_items}
use Rattle.groups.specs.Group.{channel_octets, scale_item, null_item, group_items, group_octets, groups_octets}
use Rattle.canonical.specs.Recording.{tabulate, recorded_frame, recording}
use Rattle.canonical.specs.Canonical.{octets_in, longest, waveform_of, frame_octets, frames_octets, canonical}
use Rattle.canonical.specs.Write.{frames_in, canonical_of}
use Rattle.line.specs.Line.{decimal_in, decimal_of, ascii, line_of}

-- ---- what is said of a file

-- The channel numbers of a file's groups.
unfoldable pub named : Items → List ℕ
named (item (Item.Plain place tag start len) more) = named more
named (item (Item.Group place channel) more) = channel ∷ named more
named (item (Item.Member place channel tag start len) more) = named more
named (item (Item.Mark place) more) = named more
named finished = []
named (fault r) = []

-- What an item leads to; a refused one changes nothing.
abbrev pub led_to : State → Outcome → State
led_to x (goes y) = y
led_to x (refuses why) = x

-- What stands after items that are carried out one after another.
unfoldable pub stands_after : List ℕ → State → Items → State
stands_after s x (item i more) = stands_after s (led_to x (carried s x (effect_of s x.standing i))) more
stands_after s x finished = x
stands_after s x (fault r) = x

-- A channel's record at the end of a file.
abbrev pub record_at_end : List ℕ → ℕ → Settings
record_at_end s channel = channel_in channel (stands_after s first_state (items_of s)).channels

-- A question and its answer: the channels that groups name; a channel's record at the file's end; the attributes by frame and channel; a
-- sample by frame, channel and number; the canonical file, its length first.
pub data Fact : Type 0 where
  groups : List ℕ → Fact
  settings : ℕ → Settings → Fact
  attributes : ℕ → ℕ → Answer Attributes → Fact
  sample : ℕ → ℕ → ℕ → Answer FoundSample → Fact
  rewritten : ℕ → List ℕ → Fact

-- A file, the answer of the check, the line that the program writes, and what else is said of it.
pub record Case : Type 0 where
  pub input : List ℕ
  pub checked : Answer ℕ
  pub line : List ℕ
  pub facts : List Fact

-- The question with the answer that the definitions give for the file s.
abbrev pub fact_of : List ℕ → Fact → Fact
fact_of s (groups x) = groups (named (items_of s))
fact_of s (settings channel x) = settings channel (record_at_end s channel)
fact_of s (attributes frame channel x) = attributes frame channel (attributes_of s frame channel)
fact_of s (sample frame channel n x) = sample frame channel n (sample_of s frame channel n)
fact_of s (rewritten n x) = rewritten (length (canonical_of s)) (canonical_of s)

-- The file with the answers that the definitions give.
abbrev pub case_of : Case → Case
case_of c =
    record {
      input = c.input;
      checked = check_of c.input;
      line = line_of (check_of c.input);
      facts = map (fact_of c.input) c.facts;
    }

-- A table with the answers that the definitions give; it unfolds all of them.
unfoldable pub computed : List Case → List Case
unfolding big_from little_of number_of twos signed_of width_of plain_of is_null value_of
    channel_of length_of unknown_context root_only primitive_form group_length group_form form_of head_by head_of item_of next_in next_of follow walk items_from items_of
    tagged scale_of defined all_applied
    block_octets sequence_octets octets_below width_agrees channel_agrees all_agree samples_of offset_of place_of
    order_effect count_effect sequences_effect start_effect compressed_effect root_effect
    all_effect one_effect plain_effect member_effect group_effect effect_of
    channels_of sequences_of pointer_fits pointer_after framed_as
    one_changed with_frame carried place_at after_item interpret verdict checked_as check_of
    is_there count_there there_of there_in offset_bits attributes_in attributes_of sample_in sample_of
    reported sample_bits tabulate recorded_frame recording
    be holding shortest block sequence laid_from laid
    item_octets number_item unsigned_of channel_octets scale_item null_item group_items group_octets groups_octets
    sequences_item head_items octets_in longest waveform_of frame_octets frames_octets canonical
    named stands_after frames_in canonical_of decimal_in decimal_of line_of
computed cs = map case_of cs

-- ---- the files

-- A refused file: the fault and the place of the refusal, and the line.
abbrev refused_at : List ℕ → Fault → ℕ → String → Case
refused_at s why place line = record { input = s; checked = refused_as why place; line = ascii line; facts = [] }

-- The settings of a channel by its data type and the width of its offset; all else is as by default.
abbrev settings_by : ℕ → ℕ → Settings
settings_by datatype width =
    record {
      block = 1;
      class = 0;
      lead = 0;
      datatype = datatype;
      interval = record { unit = 0; exponent = pos 0; mantissa = pos 1000 };
      resolution = record { unit = 0; exponent = negsuc 5; mantissa = pos 1 };
      offset = record { width = width; bits = 0 };
      null = record { width = 0; bits = 0 };
    }

-- The attributes of a channel by the frame's channels and sequences and by its data type and sample width; all else is as by default.
abbrev typed : ℕ → ℕ → ℕ → ℕ → Answer Attributes
typed channels sequences datatype width =
    answered (record { start = pos 0; channels = channels; sequences = sequences; settings = settings_by datatype width })

-- A whole number at a place, with its bits.
abbrev whole_at : ℕ → ℕ → ℤ → Answer FoundSample
whole_at place bits z = answered (found_sample place bits (whole_said z))

-- P2's canonical file, 113 octets.
abbrev pub canonical2 : List ℕ
canonical2 =
    0x01 ∷ 0x01 ∷ 0x00
    ∷ 0x05 ∷ 0x04 ∷ 0x00 ∷ 0x00 ∷ 0x00 ∷ 0x02 ∷ 0x06 ∷ 0x04 ∷ 0x00 ∷ 0x00 ∷ 0x00 ∷ 0x01 ∷ 0x07 ∷ 0x04 ∷ 0x00 ∷ 0x00 ∷ 0x00 ∷ 0x00
    ∷ 0x3F ∷ 0x00 ∷ 0x27
    ∷ 0x04 ∷ 0x04 ∷ 0x00 ∷ 0x00 ∷ 0x00 ∷ 0x02 ∷ 0x08 ∷ 0x02 ∷ 0x00 ∷ 0x00 ∷ 0x09 ∷ 0x02 ∷ 0x00 ∷ 0x00 ∷ 0x0A ∷ 0x01 ∷ 0x00
    ∷ 0x0B ∷ 0x06 ∷ 0x00 ∷ 0x00 ∷ 0x00 ∷ 0x00 ∷ 0x03 ∷ 0xE8 ∷ 0x0C ∷ 0x06 ∷ 0x00 ∷ 0xFA ∷ 0x00 ∷ 0x00 ∷ 0x00 ∷ 0x01
    ∷ 0x0D ∷ 0x02 ∷ 0x00 ∷ 0x00 ∷ 0x12 ∷ 0x00
    ∷ 0x3F ∷ 0x01 ∷ 0x27
    ∷ 0x04 ∷ 0x04 ∷ 0x00 ∷ 0x00 ∷ 0x00 ∷ 0x01 ∷ 0x08 ∷ 0x02 ∷ 0x00 ∷ 0x00 ∷ 0x09 ∷ 0x02 ∷ 0x00 ∷ 0x00 ∷ 0x0A ∷ 0x01 ∷ 0x00
    ∷ 0x0B ∷ 0x06 ∷ 0x00 ∷ 0x00 ∷ 0x00 ∷ 0x00 ∷ 0x03 ∷ 0xE8 ∷ 0x0C ∷ 0x06 ∷ 0x00 ∷ 0xFA ∷ 0x00 ∷ 0x00 ∷ 0x00 ∷ 0x01
    ∷ 0x0D ∷ 0x02 ∷ 0x00 ∷ 0x00 ∷ 0x12 ∷ 0x00
    ∷ 0x1E ∷ 0x06 ∷ 0x00 ∷ 0x01 ∷ 0x00 ∷ 0x02 ∷ 0xFF ∷ 0xFF
    ∷ []

-- P9's canonical file, 67 octets: two sequences are declared, and one sample is there.
abbrev pub canonical9 : List ℕ
canonical9 =
    0x01 ∷ 0x01 ∷ 0x00
    ∷ 0x05 ∷ 0x04 ∷ 0x00 ∷ 0x00 ∷ 0x00 ∷ 0x01 ∷ 0x06 ∷ 0x04 ∷ 0x00 ∷ 0x00 ∷ 0x00 ∷ 0x02 ∷ 0x07 ∷ 0x04 ∷ 0x00 ∷ 0x00 ∷ 0x00 ∷ 0x00
    ∷ 0x3F ∷ 0x00 ∷ 0x27
    ∷ 0x04 ∷ 0x04 ∷ 0x00 ∷ 0x00 ∷ 0x00 ∷ 0x01 ∷ 0x08 ∷ 0x02 ∷ 0x00 ∷ 0x00 ∷ 0x09 ∷ 0x02 ∷ 0x00 ∷ 0x00 ∷ 0x0A ∷ 0x01 ∷ 0x00
    ∷ 0x0B ∷ 0x06 ∷ 0x00 ∷ 0x00 ∷ 0x00 ∷ 0x00 ∷ 0x03 ∷ 0xE8 ∷ 0x0C ∷ 0x06 ∷ 0x00 ∷ 0xFA ∷ 0x00 ∷ 0x00 ∷ 0x00 ∷ 0x01
    ∷ 0x0D ∷ 0x02 ∷ 0x00 ∷ 0x00 ∷ 0x12 ∷ 0x00
    ∷ 0x1E ∷ 0x02 ∷ 0x00 ∷ 0x05
    ∷ []

-- The files P1 to P11 and what document 01 says of each.
abbrev pub cases : List Case
cases =
    -- P1
    record {
      input = [];
      checked = answered 0;
      line = ascii "frames 0\n";
      facts = rewritten 0 [] ∷ [];
    }
    -- P2
    ∷ record {
      input =
          0x01 ∷ 0x01 ∷ 0x01 ∷ 0x04 ∷ 0x01 ∷ 0x02 ∷ 0x05 ∷ 0x01 ∷ 0x02 ∷ 0x3F ∷ 0x01 ∷ 0x03 ∷ 0x04 ∷ 0x01 ∷ 0x01
          ∷ 0x1E ∷ 0x06 ∷ 0x01 ∷ 0x00 ∷ 0x02 ∷ 0x00 ∷ 0xFF ∷ 0xFF ∷ [];
      checked = answered 1;
      line = ascii "frames 1\n";
      facts =
          sample 0 0 0 (whole_at 17 1 (pos 1))
          ∷ sample 0 0 1 (whole_at 19 2 (pos 2))
          ∷ sample 0 1 0 (whole_at 21 0xFFFF (negsuc 0))
          ∷ rewritten 113 canonical2
          ∷ [];
    }
    -- P3
    ∷ record {
      input = 0x1E ∷ 0x00 ∷ [];
      checked = answered 1;
      line = ascii "frames 1\n";
      facts = attributes 0 0 (typed 1 0 0 2) ∷ [];
    }
    -- P4
    ∷ record {
      input = 0x05 ∷ 0x01 ∷ 0x02 ∷ 0x3F ∷ 0x00 ∷ 0x03 ∷ 0x0A ∷ 0x01 ∷ 0x03 ∷ 0x0A ∷ 0x01 ∷ 0x05 ∷ 0x1E ∷ 0x02 ∷ 0x07 ∷ 0x08 ∷ [];
      checked = answered 1;
      line = ascii "frames 1\n";
      facts =
          attributes 0 0 (typed 2 1 5 1)
          ∷ attributes 0 1 (typed 2 1 5 1)
          ∷ sample 0 0 0 (whole_at 14 7 (pos 7))
          ∷ sample 0 1 0 (whole_at 15 8 (pos 8))
          ∷ [];
    }
    -- P5
    ∷ record {
      input = 0x3F ∷ 0x00 ∷ 0x03 ∷ 0x0A ∷ 0x01 ∷ 0x03 ∷ 0x1E ∷ 0x02 ∷ 0x00 ∷ 0x09 ∷ [];
      checked = answered 1;
      line = ascii "frames 1\n";
      facts =
          attributes 0 0 (typed 1 1 0 2)
          ∷ sample 0 0 0 (whole_at 8 9 (pos 9))
          ∷ sample 0 0 1 (refused_as NoSample 0)
          ∷ [];
    }
    -- P6
    ∷ refused_at (0x05 ∷ 0x01 ∷ 0x02 ∷ 0x3F ∷ 0x02 ∷ 0x00 ∷ []) ChannelNumber 3 "refused 8 at 3\n"
    -- P7
    ∷ refused_at (0x0A ∷ 0x80 ∷ []) LengthOctet 0 "refused 2 at 0\n"
    -- P8
    ∷ refused_at (0x3F ∷ 0x00 ∷ 0x80 ∷ []) UnendedGroup 0 "refused 10 at 0\n"
    -- P9, which request 2 of document 02 makes one frame with 5 and then no data
    ∷ record {
      input = 0x06 ∷ 0x01 ∷ 0x02 ∷ 0x1E ∷ 0x02 ∷ 0x00 ∷ 0x05 ∷ [];
      checked = answered 1;
      line = ascii "frames 1\n";
      facts =
          attributes 0 0 (typed 1 2 0 2)
          ∷ sample 0 0 0 (whole_at 5 5 (pos 5))
          ∷ sample 0 0 1 (answered no_data)
          ∷ sample 0 0 2 (refused_as NoSample 0)
          ∷ rewritten 67 canonical9
          ∷ [];
    }
    -- P10
    ∷ refused_at (0x0D ∷ 0x01 ∷ 0x01 ∷ 0x1E ∷ 0x02 ∷ 0x00 ∷ 0x05 ∷ []) SampleWidth 3 "refused 12 at 3\n"
    -- P11
    ∷ record {
      input = 0x05 ∷ 0x02 ∷ 0x01 ∷ 0x00 ∷ 0x3F ∷ 0x81 ∷ 0x7F ∷ 0x03 ∷ 0x0A ∷ 0x01 ∷ 0x03 ∷ [];
      checked = answered 0;
      line = ascii "frames 0\n";
      facts = groups (255 ∷ []) ∷ settings 255 (settings_by 3 0) ∷ [];
    }
    ∷ []

-- The definitions give all the answers of the table.
pub bench_files : computed cases ≡ cases
unfolding computed
bench_files = refl

-- P2's canonical file, rewritten, gives the same octets; so does P9's.
pub rewrites_itself : canonical_of canonical2 ≡ canonical2
unfolding computed
rewrites_itself = refl

pub rewrites_cut : canonical_of canonical9 ≡ canonical9
unfolding computed
rewrites_cut = refl
