-- Worked examples: at which octet an answer comes, and what a small file gives out, computed by the definitions.
--     answers_come    the octets up to the answer, with what was known one octet before
--     given-here      a cut-off frame of two channels, octet by octet
-- Assumes nothing.
use Prim.Native.Nat.{ℕ, ◌-◌}
use mathlib.Core.Path.{◌≡◌, refl}
use mathlib.Core.Bool.{Bool, true, false}
use mathlib.Core.List.{List, [], ◌∷◌, map}
use lib.ListN.{length, take}
use Rattle.octets.specs.Number.{big_from, little_of, number_of, twos}
use Rattle.heads.specs.declared.Fault.{Fault}
use Rattle.heads.specs.declared.Fault.TheVariants.{ContextTag, LengthOctet, PastEnd, LongChannel, BarredTag, UnfitLength, UnfitValue, ChannelNumber, Compressed, UnendedGroup, SampleWidth}
use Rattle.heads.specs.Answer.{Answer, answered, refused_as}
use Rattle.heads.specs.Head.{channel_of, length_of, unknown_context, root_only, primitive_form, group_length, group_form, form_of}
use Rattle.values.specs.Sample.{width_of, is_null, plain_of, value_of}
use Rattle.dated.specs.Dated.{settled_at, settled_in, refreshed}
use Rattle.definitions.specs.Define.{tagged, defined}
use Rattle.layout.specs.Frame.{block_octets, sequence_octets, width_agrees, channel_agrees, all_agree}
use Rattle.framing.specs.Framing.{channels_of, sequences_of, pointer_fits, pointer_after, framed_as}
use Rattle.framing.specs.AnyNumbers.{framed_by}
use Rattle.effects.specs.Effects.{order_effect, count_effect, sequences_effect, start_effect, compressed_effect, root_effect, plain_effect, member_effect, all_effect, one_effect, group_effect, effect_of}
use Rattle.reader.specs.Answer.{found_sample}
use Rattle.walk.specs.Advance.{framed_turn, effect_turn}
use Rattle.link.specs.Link.{Given, waiting, condemned, waved, stopped_at, turned_by, item_at, within_after, valued, primitive_begins, confined, seen_in, headed, next_coming, sample_on, taken_in, is_decided, stepped, fed_with, first_link, sample_by, gives_in, gives, given_by, ended_in, end_in, end_answer}

-- The octets of a file up to the one with which its answer comes: whether there was one before the last of them, and what an end means before and after it.
pub record Coming : Type 0 where
  pub octets : List ℕ
  pub early : Bool
  pub before : Answer ℕ
  pub late : Bool
  pub after : Answer ℕ

-- The same with the answers that the definitions give; it unfolds all of them.
unfoldable pub computed : List Coming → List Coming
unfolding big_from number_of channel_of length_of unknown_context root_only primitive_form group_length group_form form_of
    width_of tagged defined block_octets sequence_octets width_agrees channel_agrees all_agree settled_at settled_in refreshed
    order_effect count_effect sequences_effect start_effect compressed_effect root_effect plain_effect member_effect all_effect one_effect group_effect effect_of
    channels_of sequences_of pointer_fits pointer_after framed_as framed_by framed_turn effect_turn
    waiting condemned waved stopped_at turned_by item_at within_after valued primitive_begins confined seen_in headed taken_in stepped fed_with ended_in end_in
computed cs =
    map
    (λ (c : Coming).
    let before = fed_with first_link (take (length c.octets - 1) c.octets) in
    let after = fed_with first_link c.octets in
    record { octets = c.octets; early = is_decided before.phase; before = end_answer before; late = is_decided after.phase; after = end_answer after })
    cs

-- A refusal that comes with the last octet; before it the end is 3 at a place.
abbrev pub comes : List ℕ → ℕ → Fault → ℕ → Coming
comes s cut fault place = record { octets = s; early = false; before = refused_as PastEnd cut; late = true; after = refused_as fault place }

-- Refusals as document 02 and its readings say when each comes.
abbrev pub table : List Coming
table =
    -- 1, 2, 4 and 5 outside definite groups come at their octet. A file may end before a tag, and in an open group that is 10.
    record { octets = 0x21 ∷ []; early = false; before = answered 0; late = true; after = refused_as ContextTag 0 }
    ∷ comes (0x0A ∷ 0x80 ∷ []) 0 LengthOctet 0
    ∷ comes (0x3F ∷ 0x80 ∷ 0x80 ∷ 0x80 ∷ 0x80 ∷ []) 0 LongChannel 0
    ∷ record { octets = 0x3F ∷ 0 ∷ 0x80 ∷ 0x05 ∷ []; early = false; before = refused_as UnendedGroup 0; late = true; after = refused_as BarredTag 3 }
    -- 6, 7 and 9 come with the value's last octet.
    ∷ comes (0x01 ∷ 2 ∷ 0 ∷ 0 ∷ []) 0 UnfitLength 0
    ∷ comes (0x01 ∷ 1 ∷ 2 ∷ []) 0 UnfitValue 0
    ∷ comes (0x0E ∷ 2 ∷ 0 ∷ 0 ∷ []) 0 Compressed 0
    -- 8 comes at the 80 of an open group, and of a definite one at its last octet.
    ∷ comes (0x05 ∷ 1 ∷ 2 ∷ 0x3F ∷ 5 ∷ 0x80 ∷ []) 3 ChannelNumber 3
    ∷ comes (0x05 ∷ 1 ∷ 2 ∷ 0x3F ∷ 5 ∷ 2 ∷ 0 ∷ 0 ∷ []) 3 ChannelNumber 3
    -- In a definite group every verdict waits for the group's last octet, 3 too; till then it is 3 at the group.
    ∷ comes (0x3F ∷ 0 ∷ 3 ∷ 0x21 ∷ 0 ∷ 0 ∷ []) 0 ContextTag 3
    ∷ comes (0x3F ∷ 0 ∷ 4 ∷ 0x04 ∷ 9 ∷ 0 ∷ 0 ∷ []) 0 PastEnd 3
    ∷ comes (0x3F ∷ 0 ∷ 3 ∷ 0x00 ∷ 0 ∷ 0x04 ∷ []) 0 PastEnd 5
    -- 12 comes with the waveform's last octet.
    ∷ comes (0x0D ∷ 1 ∷ 0 ∷ 0x1E ∷ 2 ∷ 0 ∷ 0 ∷ []) 3 SampleWidth 3
    ∷ []

pub answers_come : computed table ≡ table
unfolding computed
answers_come = refl

-- ---- what a file gives out

-- Two channels of two octets, little-endian; three sequences are declared, and the waveform ends within the second, one octet into its second sample.
abbrev pub cut_off : List ℕ
cut_off = 0x01 ∷ 1 ∷ 1 ∷ 0x05 ∷ 1 ∷ 2 ∷ 0x06 ∷ 1 ∷ 3 ∷ 0x1E ∷ 7 ∷ 5 ∷ 0 ∷ 0xFF ∷ 0xFF ∷ 1 ∷ 2 ∷ 9 ∷ []

abbrev pub given_at : ℕ → ℕ → ℕ → ℕ → Given
given_at channel number place bits = record { channel = channel; number = number; sample = found_sample place bits (value_of 0 (record { width = 0; bits = 0 }) bits) }

unfoldable pub given_up_to : ℕ → List Given
unfolding big_from little_of number_of twos channel_of length_of unknown_context root_only primitive_form group_length group_form form_of
    width_of is_null plain_of value_of tagged defined block_octets sequence_octets width_agrees channel_agrees all_agree settled_at settled_in refreshed
    order_effect count_effect sequences_effect start_effect compressed_effect root_effect plain_effect member_effect all_effect one_effect group_effect effect_of
    channels_of sequences_of pointer_fits pointer_after framed_as framed_by framed_turn effect_turn
    waiting condemned waved stopped_at turned_by item_at within_after valued primitive_begins confined seen_in headed next_coming sample_on taken_in stepped fed_with
    sample_by gives_in gives given_by
given_up_to n = given_by first_link (take n cut_off)

-- No sample before its last octet, and none that is cut off.
pub given-none : given_up_to 12 ≡ []
unfolding given_up_to
given-none = refl

pub given_first : given_up_to 13 ≡ given_at 0 0 11 5 ∷ []
unfolding given_up_to value_of is_null plain_of width_of twos
given_first = refl

pub given-whole : given_up_to 18 ≡ given_at 0 0 11 5 ∷ given_at 1 0 13 0xFFFF ∷ given_at 0 1 15 0x0201 ∷ []
unfolding given_up_to value_of is_null plain_of width_of twos
given-whole = refl
