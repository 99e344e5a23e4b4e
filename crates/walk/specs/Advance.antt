-- One walk from frame to frame: where it stands, and where it goes from there. Total: any numbers at all stand for some place.
use Rattle.heads.specs.declared.Fault.{Fault}
use Rattle.effects.specs.declared.Effect.{Effect}
use Rattle.heads.specs.declared.Refusal.{Refusal}
use Rattle.items.specs.declared.Item.{Item}
use Rattle.std.specs.Prelude.{◌≡◌, ℕ, zero, suc, ◌+◌, ◌-◌, ◌%◌, ◌^◌, ◌<◌, min, List, length, take, slice_index_or, slice_set, Result, Ok, Err, Option, Some, None}
use Rattle.items.specs.declared.Cursor.{Cursor}
use Rattle.items.specs.declared.Within.TheVariants.{Root}
use Rattle.items.specs.Walk.{next_of, cursor, refusal}
use Rattle.settings.specs.declared.Settings.{Settings}
use Rattle.settings.specs.Settings.{channel_limit, applied}
use Rattle.dated.specs.declared.Dated.{Dated}
use Rattle.dated.specs.declared.Dates.{Dates}
use Rattle.dated.specs.Dated.{noted, dated_table, zero_dated, first_dates, root_defined, all_cleared, settled_at, settled_in, refreshed}
use Rattle.layout.specs.Frame.{sequence_octets, octets_below, all_agree}
use Rattle.standing.specs.declared.Standing.{Standing}
use Rattle.standing.specs.Standing.{first_standing}
use Rattle.effects.specs.Effects.{effect_of, standing_after}
use Rattle.framing.specs.Framing.{channels_of}
use Rattle.framing.specs.AnyNumbers.{framed_by}
use Rattle.verdict.specs.Verdict.{place_at}
use Rattle.words.specs.Words.{records_in, held_in, below_in}
use Rattle.records.specs.Records.{PastKept}
use Rattle.walk.specs.declared.Waveform.{Waveform}
use Rattle.walk.specs.declared.Head.{Head}
use Rattle.walk.specs.declared.Moved.{Moved}

-- Where a walk stands: before the item at a cursor, with what stands there, the times of the root's definitions, the channels' records, and how
-- many items were read and frames met.
pub record Stand : Type 0 where
  pub cursor : Cursor
  pub standing : Standing
  pub dates : Dates
  pub records : List Dated
  pub items : ℕ
  pub frames : ℕ

abbrev pub stand : Cursor → Standing → Dates → List Dated → ℕ → ℕ → Stand
stand c st d t items frames = record { cursor = c; standing = st; dates = d; records = t; items = items; frames = frames }

-- Before the first item.
abbrev pub first_stand : Stand
first_stand = stand (cursor 0 Root) first_standing first_dates dated_table 0 0

-- What stands for all channels.
abbrev pub stands_for : Stand → List Settings
stands_for x = settled_in x.standing.root x.dates x.records

-- The channels of a frame that came now.
abbrev pub channels_at : Stand → List Settings
channels_at x = take (min (channels_of x.standing.counted) channel_limit) (stands_for x)

-- The records, with those of its channels brought up to date.
abbrev pub records_at : Stand → List Dated
records_at x = refreshed (min (channels_of x.standing.counted) channel_limit) x.standing.root x.dates x.records

-- The same stand with these records.
abbrev pub refreshed_at : Stand → Stand
refreshed_at x = stand x.cursor x.standing x.dates (records_at x) x.items x.frames

-- What a walk comes to, and where it then stands: behind a frame, or before what ends it.
pub record Stop : Type 0 where
  pub step : Result (Option Waveform) Refusal
  pub at : Stand

abbrev pub stop : Result (Option Waveform) Refusal → Stand → Stop
stop k x = record { step = k; at = x }

-- An item leads on, or the walk stops at it.
pub data Turn : Type 0 where
  on : Stand → Turn
  stops : Stop → Turn

-- One item more is read. The count starts again at 0 behind 2^64 - 1, which no file leads to.
abbrev pub behind : Stand → Cursor → Standing → Dates → List Dated → ℕ → Stand
behind x c st d t frames = stand c st d t ((x.items + 1) % 2 ^ 64) frames

-- What a frame is told by, besides its channels' records.
abbrev pub waveform_by : Standing → ℕ → ℕ → ℕ → ℕ → ℕ → Waveform
waveform_by st channels sequences start len octets =
    record { start = st.start; channels = channels; sequences = sequences; little = st.little; place = start; len = len; octets = octets }

-- A waveform gives a frame, or is refused. Either way the records of its channels are brought up to date.
unfoldable pub framed_turn : Stand → Cursor → ℕ → ℕ → ℕ → Result (ℕ × Standing) Fault → Turn
framed_turn x c place start len (Ok (sequences, st)) =
    stops
    (stop (Ok (Some (waveform_by x.standing (length (channels_at x)) sequences start len (sequence_octets (channels_at x)))))
    (behind x c st x.dates (records_at x) (x.frames + 1)))
framed_turn x c place start len (Err fault) = stops (stop (Err (refusal fault place)) (refreshed_at x))

-- An item that gives no frame: what stands after it, the times, and the records.
abbrev pub goes_on : Stand → Cursor → Result Effect Fault → Dates → List Dated → Turn
goes_on x c e d t = on (behind x c (standing_after x.standing e) d t x.frames)

-- A definition in a group: the record of one channel, brought up to date and changed.
abbrev pub one_noted : Stand → ℕ → (Settings → Settings) → List Dated
one_noted x channel f =
    slice_set x.records channel (noted x.dates.now (f (settled_at x.standing.root x.dates (slice_index_or x.records channel zero_dated))))

-- What an effect does. A root definition and tag 05 note a time.
unfoldable pub effect_turn : Stand → Cursor → ℕ → Result Effect Fault → Turn
effect_turn x c place (Ok Effect.Pass) = goes_on x c (Ok Effect.Pass) x.dates x.records
effect_turn x c place (Ok (Effect.Order little)) = goes_on x c (Ok (Effect.Order little)) x.dates x.records
effect_turn x c place (Ok (Effect.Count n)) = goes_on x c (Ok (Effect.Count n)) (all_cleared x.dates) x.records
effect_turn x c place (Ok (Effect.Sequences n)) = goes_on x c (Ok (Effect.Sequences n)) x.dates x.records
effect_turn x c place (Ok (Effect.Start z)) = goes_on x c (Ok (Effect.Start z)) x.dates x.records
effect_turn x c place (Ok (Effect.All ch)) = goes_on x c (Ok (Effect.All ch)) (root_defined ch x.dates) x.records
effect_turn x c place (Ok (Effect.One channel ch)) = goes_on x c (Ok (Effect.One channel ch)) x.dates (one_noted x channel (applied ch))
effect_turn x c place (Ok (Effect.Frame start len)) =
    framed_turn x c place start len (framed_by x.frames x.standing (all_agree (channels_at x)) (sequence_octets (channels_at x)) len)
effect_turn x c place (Err fault) = stops (stop (Err (refusal fault place)) x)

unfoldable pub next_turn : List ℕ → Stand → Result (Option (Item × Cursor)) Refusal → Turn
next_turn s x (Ok (Some (i, c))) = effect_turn x c (place_at i) (effect_of s x.standing i)
next_turn s x (Ok None) = stops (stop (Ok None) x)
next_turn s x (Err r) = stops (stop (Err r) x)

-- What the item at a stand does.
unfoldable pub turn_of : List ℕ → Stand → Turn
turn_of s x = next_turn s x (next_of s x.cursor)

unfoldable pub after_turn : (Stand → Stop) → Turn → Stop
after_turn more (on y) = more y
after_turn more (stops z) = z

-- Each item takes octets, so that as many turns as there are octets, and one, are enough.
unfoldable pub advance_in : ℕ → List ℕ → Stand → Stop
advance_in zero s x = stop (Ok None) x
advance_in (suc turns) s x = after_turn (advance_in turns s) (turn_of s x)

-- From a stand to the next frame, the end, or the refusal.
unfoldable pub advance_of : List ℕ → Stand → Stop
advance_of s x = advance_in (suc (length s - x.cursor.at)) s x

-- The stand of a head and of words that hold the records.
abbrev pub stand_of : Head → List ℕ → Stand
stand_of h u = stand h.cursor h.standing h.dates (records_in u) h.items h.frames

-- A walk that has come to a step.
abbrev pub moved_to : Result (Option Waveform) Refusal → Cursor → Standing → Dates → ℕ → ℕ → Moved
moved_to k c st d items frames = record { step = k; head = record { cursor = c; standing = st; dates = d; items = items; frames = frames } }

-- Before the first item.
abbrev pub first_head : Head
first_head = record { cursor = cursor 0 Root; standing = first_standing; dates = first_dates; items = 0; frames = 0 }

-- With the records of a frame's channels, words keep the octets of a sequence below each.
abbrev pub BelowKept : List ℕ → Result (Option Waveform) Refusal → Type 0
BelowKept u (Ok (Some v)) = (k : ℕ) → k < v.channels → below_in u k ≡ octets_below k (held_in u)
BelowKept u (Ok None) = Unit {0}
BelowKept u (Err r) = Unit {0}

-- What an advance answers, and how it leaves the words.
pub record Advances (s : List ℕ) (h : Head) (u : List ℕ) (r : Moved) (v : List ℕ) : Type 0 where
  pub same : stop r.step (stand_of r.head v) ≡ advance_of s (stand_of h u)
  pub long : length v ≡ length u
  pub past : PastKept u v
  pub below : BelowKept v r.step
