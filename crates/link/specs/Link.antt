-- A file read as its octets arrive (document 02, request 3): what is held between two octets, and what one octet more does to it. Any numbers at all are
-- some link.
use Rattle.heads.specs.declared.Fault.{Fault}
use Rattle.effects.specs.declared.Effect.{Effect}
use Rattle.heads.specs.declared.ItemHead.{ItemHead}
use Rattle.std.specs.Prelude.{ℕ, zero, suc, ◌+◌, ◌-◌, ◌*◌, ◌≡◌, List, [], ◌∷◌, ◌++◌, map, Bool, true, false, ltb, leb, eqb, length, get_or, take, Result, Ok, Err, Option, Some, None}
use Rattle.octets.specs.Pick.{pick}
use Rattle.octets.specs.Number.{number_of}
use Rattle.heads.specs.declared.Refusal.{Refusal}
use Rattle.heads.specs.declared.Fault.TheVariants.{PastEnd, UnendedGroup, LongFile}
use Rattle.heads.specs.Answer.{Answer, answered, refused_as, refused_by}
use Rattle.heads.specs.Head.{form_of}
use Rattle.items.specs.declared.Within.{Within}
use Rattle.items.specs.declared.Within.TheVariants.{Root}
use Rattle.items.specs.declared.Cursor.{Cursor}
use Rattle.items.specs.declared.Item.{Item}
use Rattle.items.specs.declared.Item.TheVariants.{Plain, Group, Member, Mark}
use Rattle.items.specs.Walk.{refusal, cursor, stands_in, is_inside, ends_open}
use Rattle.values.specs.Sample.{value_of}
use Rattle.settings.specs.declared.Settings.{Settings}
use Rattle.settings.specs.Settings.{channel_limit}
use Rattle.dated.specs.declared.Dated.{Dated}
use Rattle.dated.specs.Dated.{dated_table, zero_dated, first_dates}
use Rattle.layout.specs.Frame.{width_in}
use Rattle.standing.specs.Standing.{octets_limit, first_standing}
use Rattle.effects.specs.Effects.{effect_of}
use Rattle.reader.specs.Answer.{FoundSample, found_sample}
use Rattle.records.specs.Records.{outdated}
use Rattle.walk.specs.declared.Waveform.{Waveform}
use Rattle.walk.specs.Advance.{Stand, stand, Turn, on, stops, effect_turn}
use Rattle.walking.specs.Steps.{no_waveform}

-- ---- what is held

-- The samples of a waveform as they come: the next one is number `index` of the block of `channel` in `sequence`, and these octets of it have come.
pub record Coming : Type 0 where
  pub sequence : ℕ
  pub channel : ℕ
  pub index : ℕ
  pub octets : List ℕ

abbrev pub coming : ℕ → ℕ → ℕ → List ℕ → Coming
coming sequence channel index octets = record { sequence = sequence; channel = channel; index = index; octets = octets }

-- Where in an item the octets have come to.
pub data Phase : Type 0 where
  -- In its head, of which these octets have come.
  head : List ℕ → Phase
  -- In the value of an item with this tag: so many octets are still to come, and the first of those that have come are kept.
  value : (tag left : ℕ) → List ℕ → Phase
  -- In the waveform of a frame: so many octets are still to come.
  waveform : (left : ℕ) → Coming → Phase
  -- A refusal is sure to come once so many octets have come; till then an end is 3.
  waits : (left : ℕ) → Refusal → Phase
  -- The answer is given.
  decided : Answer ℕ → Phase

-- How many octets have come; where the walk stands: before the item at hand, or behind the waveform at hand; the place at which an end is 3, in a definite
-- group, in a waveform and while a refusal waits; and the frame whose settings were given out, until something follows its waveform.
pub record Link : Type 0 where
  pub count : ℕ
  pub stand : Stand
  pub around : ℕ
  pub frame : Waveform
  pub phase : Phase

abbrev pub link : ℕ → Stand → ℕ → Waveform → Phase → Link
link count x around v p = record { count = count; stand = x; around = around; frame = v; phase = p }

-- Before a file's first octet, with all records sent back to the time before the first item, whatever they say.
abbrev pub fresh_link : List Dated → Link
fresh_link xs = link 0 (stand (cursor 0 Root) first_standing first_dates (map outdated xs) 0 0) 0 no_waveform (head [])

-- A link before a file's first octet that has a record for each channel that a frame may have.
pub record Fresh (l : Link) : Type 0 where
  pub records : List Dated
  pub full : length records ≡ channel_limit
  pub is : l ≡ fresh_link records

-- The same with the records at the defaults.
abbrev pub first_link : Link
first_link = fresh_link dated_table

abbrev pub in_phase : Phase → Link → Link
in_phase p l = link l.count l.stand l.around l.frame p

-- The place of the item at hand, and what is around it.
abbrev pub place_in : Link → ℕ
place_in l = l.stand.cursor.at

abbrev pub within_in : Link → Within
within_in l = stands_in (place_in l) l.stand.cursor.within

-- ---- refusals

-- Where the file ends inside an item: 3 at its tag, and in a definite group at the group's.
abbrev pub cut_at : Within → ℕ → ℕ → ℕ
cut_at Within.Root place around = place
cut_at (Within.Definite channel end) place around = around
cut_at (Within.Open channel group) place around = place

abbrev pub cut_in : Link → ℕ
cut_in l = cut_at (within_in l) (place_in l) l.around

abbrev pub refused_in : Refusal → Link → Link
refused_in r l = in_phase (decided (refused_by r)) l

-- A refusal that waits for so many octets.
unfoldable pub waiting : ℕ → Refusal → Link → Link
waiting left r l = pick (eqb left 0) (refused_in r l) (in_phase (waits left r) l)

-- "An item that is cut off outranks a fault within it, so a verdict inside a definite group waits for the group." Elsewhere it waits for what is left of the item.
abbrev pub lasts_in : Within → ℕ → ℕ → ℕ
lasts_in Within.Root count left = left
lasts_in (Within.Definite channel end) count left = end - count
lasts_in (Within.Open channel group) count left = left

unfoldable pub condemned : Within → ℕ → Refusal → Link → Link
condemned w left r l = waiting (lasts_in w l.count left) r l

-- ---- an item

-- The first sample of a waveform, of which nothing has come.
abbrev pub first_coming : Coming
first_coming = coming 0 0 0 []

-- In a waveform of which so many octets are still to come; behind its last octet the next item begins.
unfoldable pub waved : ℕ → Coming → Phase
waved zero t = head []
waved (suc left) t = waveform (suc left) t

-- The walk stands elsewhere.
abbrev pub standing : Stand → Link → Link
standing y l = link l.count y l.around l.frame l.phase

-- What an item leads to, of which `left` octets are still to come. A frame's settings are given out, unless it ends past 15's limit.
unfoldable pub stopped_at : ℕ → Result (Option Waveform) Refusal → Stand → Link → Link
stopped_at left (Ok (Some v)) y l =
    pick (ltb octets_limit (l.count + left)) (waiting left (refusal LongFile 0) (standing y l))
    (link l.count y l.around v (waved left first_coming))
stopped_at left (Ok None) y l = l
stopped_at left (Err r) y l = condemned (within_in l) left r (standing y l)

-- Between two items an end is 3 only in a definite group, at the group's place; elsewhere no place is kept.
abbrev pub group_at : Within → ℕ → ℕ
group_at Within.Root around = 0
group_at (Within.Definite channel end) around = around
group_at (Within.Open channel group) around = 0

unfoldable pub turned_by : ℕ → Turn → Link → Link
turned_by left (on y) l = link l.count y (group_at (stands_in y.cursor.at y.cursor.within) l.around) l.frame (head [])
turned_by left (stops z) l = stopped_at left z.step z.at l

-- From now on an end is 3 at this item, or at the definite group around it.
abbrev pub marked : Link → Link
marked l = link l.count l.stand (cut_in l) l.frame l.phase

-- An item with this effect, behind which the cursor c stands, as the walk takes it.
abbrev pub effected : ℕ → Cursor → Result Effect Fault → Link → Link
effected left c e l = turned_by left (effect_turn l.stand c (place_in l) e) (marked l)

-- Of a value the effect of an item looks at no more than its first 35 octets: no definition has more than 34.
abbrev pub kept_limit : ℕ
kept_limit = 35

-- The item at hand, its value told by its kept octets.
unfoldable pub item_at : Within → ℕ → ℕ → ℕ → Item
item_at Within.Root place tag len = Plain place tag 0 len
item_at (Within.Definite channel end) place tag len = Member place channel tag 0 len
item_at (Within.Open channel group) place tag len = pick (ends_open tag len) (Mark place) (Member place channel tag 0 len)

-- What is around the next one.
unfoldable pub within_after : Within → ℕ → ℕ → Within
within_after Within.Root tag len = Root
within_after (Within.Definite channel end) tag len = Within.Definite channel end
within_after (Within.Open channel group) tag len = pick (ends_open tag len) Root (Within.Open channel group)

-- The value's last octet has come.
abbrev pub done_item : ℕ → List ℕ → Link → Link
done_item tag v l =
    effected 0 (cursor l.count (within_after (within_in l) tag (length v)))
    (effect_of v l.stand.standing (item_at (within_in l) (place_in l) tag (length v))) l

unfoldable pub valued : ℕ → ℕ → List ℕ → Link → Link
valued tag left v l = pick (eqb left 0) (done_item tag v l) (in_phase (value tag left v) l)

-- The last octet of an item's head has come. A waveform, which stands in no group, is a frame or refused by its length alone.
unfoldable pub primitive_begins : ℕ → ℕ → Link → Link
primitive_begins tag len l =
    pick (eqb tag 0x1E) (effected len (cursor (l.count + len) Root) (Ok (Effect.Frame l.count len)) l) (valued tag len [] l)

abbrev pub group_begins : ℕ → ℕ → Within → Link → Link
group_begins left channel w l = effected left (cursor l.count w) (effect_of [] l.stand.standing (Group (place_in l) channel)) l

-- In a definite group of which `left` octets are still to come: 3 where the head or the value runs past it.
unfoldable pub confined : ℕ → Result (Option ItemHead) Fault → (Result (Option ItemHead) Fault)
confined left (Ok None) = pick (eqb left 0) (Err PastEnd) (Ok None)
confined left (Err fault) = Err fault
confined left (Ok (Some (ItemHead.Primitive tag start len))) = pick (ltb left len) (Err PastEnd) (Ok (Some (ItemHead.Primitive tag start len)))
confined left (Ok (Some (ItemHead.Definite channel start len))) = Ok (Some (ItemHead.Definite channel start len))
confined left (Ok (Some (ItemHead.Open channel start))) = Ok (Some (ItemHead.Open channel start))

-- What the octets of a head say, where they have come to.
unfoldable pub seen_in : Within → ℕ → Result (Option ItemHead) Fault → (Result (Option ItemHead) Fault)
seen_in Within.Root count f = f
seen_in (Within.Definite channel end) count f = confined (end - count) f
seen_in (Within.Open channel group) count f = f

unfoldable pub headed : List ℕ → Result (Option ItemHead) Fault → Link → Link
headed p (Ok None) l = in_phase (head p) l
headed p (Err fault) l = condemned (within_in l) 0 (refusal fault (place_in l)) (marked l)
headed p (Ok (Some (ItemHead.Primitive tag start len))) l = primitive_begins tag len l
headed p (Ok (Some (ItemHead.Definite channel start len))) l = group_begins len channel (Within.Definite channel (l.count + len)) l
headed p (Ok (Some (ItemHead.Open channel start))) l = group_begins 0 channel (Within.Open channel (place_in l)) l

-- ---- a waveform's samples

-- What stands for a channel of the frame at hand: its record is up to date.
abbrev pub settings_in : Link → ℕ → Settings
settings_in l channel = (get_or l.stand.records channel zero_dated).settings

-- Sample by sample of a block, channel by channel, sequence by sequence.
unfoldable pub next_coming : ℕ → ℕ → Coming → Coming
next_coming block channels t =
    pick (ltb (t.index + 1) block) (coming t.sequence t.channel (t.index + 1) [])
    (pick (ltb (t.channel + 1) channels) (coming t.sequence (t.channel + 1) 0 [])
    (coming (t.sequence + 1) 0 0 []))

-- Octets of the sample that is coming, the last ones new: it is complete, or more of it is to come.
unfoldable pub sample_on : Link → Coming → List ℕ → Coming
sample_on l t octets =
    let c = settings_in l t.channel in
    pick (ltb (length octets) (width_in c)) (coming t.sequence t.channel t.index octets) (next_coming c.block l.frame.channels t)

-- Behind the frame's sequences the waveform's octets are surplus.
abbrev pub in_sequences : Link → Coming → Bool
in_sequences l t = ltb t.sequence l.frame.sequences

-- ---- one octet more

abbrev pub counted : Link → Link
counted l = link (l.count + 1) l.stand l.around l.frame l.phase

-- An octet of an item's head follows what was before: no frame is told any more.
abbrev pub untold : Link → Link
untold l = link l.count l.stand l.around no_waveform l.phase

unfoldable pub taken_in : ℕ → Phase → Link → Link
taken_in b (head p) l =
    let now = p ++ (b ∷ []) in
    headed now (seen_in (within_in l) l.count (form_of (is_inside (within_in l)) now)) (untold l)
taken_in b (value tag left kept) l = valued tag (left - 1) (take kept_limit (kept ++ (b ∷ []))) l
taken_in b (waveform left t) l =
    in_phase (waved (left - 1) (pick (in_sequences l t) (sample_on l t (t.octets ++ (b ∷ []))) t)) l
taken_in b (waits left r) l = waiting (left - 1) r l
taken_in b (decided a) l = l

abbrev pub is_decided : Phase → Bool
is_decided (head p) = false
is_decided (value tag left kept) = false
is_decided (waveform left t) = false
is_decided (waits left r) = false
is_decided (decided a) = true

-- "After the end or a refusal, further feeding repeats that answer." "15 comes at the octet that passes the limit, if nothing was refused before."
unfoldable pub stepped : Link → ℕ → Link
stepped l b =
    pick (is_decided l.phase) l
    (pick (leb octets_limit l.count) (refused_in (refusal LongFile 0) l)
    (taken_in b l.phase (counted l)))

-- Octets, one after the other.
unfoldable pub fed_with : Link → List ℕ → Link
fed_with l [] = l
fed_with l (b ∷ s) = fed_with (stepped l b) s

-- ---- what is given out

-- A sample of the frame at hand: its name, its place in the file, its bits and its value.
pub record Given : Type 0 where
  pub channel : ℕ
  pub number : ℕ
  pub sample : FoundSample

-- The sample whose last octet is the last that has come, by its octets.
abbrev pub given_as : Link → Coming → List ℕ → Given
given_as l t octets =
    let c = settings_in l t.channel in
    let bits = number_of l.frame.little (take (width_in c) octets) in
    record {
      channel = t.channel;
      number = t.sequence * c.block + t.index;
      sample = found_sample (l.count - length octets) bits (value_of c.datatype c.null bits);
    }

unfoldable pub sample_by : Link → Coming → List ℕ → List Given
sample_by l t octets = pick (ltb (length octets) (width_in (settings_in l t.channel))) [] (given_as l t octets ∷ [])

unfoldable pub gives_in : ℕ → Phase → Link → List Given
gives_in b (head p) l = []
gives_in b (value tag left kept) l = []
gives_in b (waveform left t) l = pick (in_sequences l t) (sample_by l t (t.octets ++ (b ∷ []))) []
gives_in b (waits left r) l = []
gives_in b (decided a) l = []

-- What one octet gives out: nothing after an answer or past the limit.
unfoldable pub gives : Link → ℕ → List Given
gives l b = pick (leb octets_limit l.count) [] (gives_in b l.phase (counted l))

-- What octets give out, one after the other.
unfoldable pub given_by : Link → List ℕ → List Given
given_by l [] = []
given_by l (b ∷ s) = gives l b ++ given_by (stepped l b) s

-- ---- the caller says the end

-- Between two items: the frames; 3 at a definite group; 10 at an open one.
unfoldable pub ended_in : Within → ℕ → ℕ → Answer ℕ
ended_in Within.Root around frames = answered frames
ended_in (Within.Definite channel end) around frames = refused_as PastEnd around
ended_in (Within.Open channel group) around frames = refused_as UnendedGroup group

unfoldable pub end_in : Phase → Link → Answer ℕ
end_in (head []) l = ended_in (within_in l) l.around l.stand.frames
end_in (head (b ∷ p)) l = refused_as PastEnd (cut_in l)
end_in (value tag left kept) l = refused_as PastEnd (cut_in l)
end_in (waveform left t) l = refused_as PastEnd l.around
end_in (waits left r) l = refused_as PastEnd l.around
end_in (decided a) l = a

abbrev pub end_answer : Link → Answer ℕ
end_answer l = end_in l.phase l

-- The end repeats itself.
abbrev pub ended_by : Link → Link
ended_by l = in_phase (decided (end_answer l)) l
