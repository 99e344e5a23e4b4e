-- The verdict on a file: its items interpreted in file order (document 01, "Attributes" and "What comes back when it is no").
use Rattle.heads.specs.declared.Fault.{Fault}
use Rattle.effects.specs.declared.Effect.{Effect}
use Rattle.std.specs.Prelude.{List, [], ◌∷◌, ◌++◌, ℕ, ltb, length, get_or, set, take, replicate, Result, Ok, Err}
use Rattle.octets.specs.Pick.{pick}
use Rattle.items.specs.declared.Item.{Item}
use Rattle.heads.specs.declared.Refusal.{Refusal}
use Rattle.heads.specs.declared.Fault.TheVariants.{LongFile}
use Rattle.heads.specs.Answer.{Answer, answered, refused_by}
use Rattle.items.specs.Walk.{Items, item, finished, fault, items_of, refusal}
use Rattle.settings.specs.declared.Settings.{Settings}
use Rattle.settings.specs.Settings.{channel_limit, default_table, zero_settings, applied, all_applied}
use Rattle.standing.specs.declared.Standing.{Standing}
use Rattle.standing.specs.Standing.{octets_limit, first_standing}
use Rattle.effects.specs.Effects.{value_at, effect_of, standing_after}
use Rattle.layout.specs.Frame.{Frame, sequence_octets, all_agree}
use Rattle.framing.specs.Framing.{channels_of, framed_as}

-- What stands between two items: what stands outside the channels' own records, those records, and the frames met so far.
pub record State : Type 0 where
  pub standing : Standing
  pub channels : List Settings
  pub frames : List Frame

abbrev pub state : Standing → List Settings → List Frame → State
state st table fs = record { standing = st; channels = table; frames = fs }

-- Before the first item: the defaults, and no frame.
abbrev pub first_state : State
first_state = state first_standing default_table []

-- An item leads on, or is refused.
pub data Outcome : Type 0 where
  goes : State → Outcome
  refuses : Fault → Outcome

-- A definition in a group: the record of one channel.
unfoldable pub one_changed : ℕ → (Settings → Settings) → List Settings → List Settings
one_changed channel f table = set table channel (f (get_or table channel zero_settings))

-- The channels of a frame.
abbrev pub frame_channels : State → List Settings
frame_channels x = take (channels_of x.standing.counted) x.channels

-- The frame of a waveform that starts at a place.
abbrev pub frame_at : List ℕ → State → ℕ → ℕ → ℕ → Frame
frame_at s x start len sequences =
    record {
      start = x.standing.start;
      place = start;
      little = x.standing.little;
      sequences = sequences;
      channels = frame_channels x;
      waveform = value_at s start len;
    }

-- A waveform gives a frame, or is refused. Settings last across frames.
unfoldable pub with_frame : List ℕ → State → ℕ → ℕ → Result (ℕ × Standing) Fault → Outcome
with_frame s x start len (Ok (sequences, st)) = goes (state st x.channels (x.frames ++ (frame_at s x start len sequences ∷ [])))
with_frame s x start len (Err f) = refuses f

-- An effect that gives no frame leads on to what stands after it, with these channels' records.
abbrev pub leads : State → Effect → List Settings → Outcome
leads x e table = goes (state (standing_after x.standing (Ok e)) table x.frames)

-- What an effect does. A root definition ends every channel's own setting; tag 05 sends every channel back to the root settings.
unfoldable pub carried : List ℕ → State → Result Effect Fault → Outcome
carried s x (Ok Effect.Pass) = leads x Effect.Pass x.channels
carried s x (Ok (Effect.Order little)) = leads x (Effect.Order little) x.channels
carried s x (Ok (Effect.Count counted)) = leads x (Effect.Count counted) (replicate channel_limit x.standing.root)
carried s x (Ok (Effect.Sequences sequences)) = leads x (Effect.Sequences sequences) x.channels
carried s x (Ok (Effect.Start start)) = leads x (Effect.Start start) x.channels
carried s x (Ok (Effect.All c)) = leads x (Effect.All c) (all_applied c x.channels)
carried s x (Ok (Effect.One channel c)) = leads x (Effect.One channel c) (one_changed channel (applied c) x.channels)
carried s x (Ok (Effect.Frame start len)) =
    with_frame s x start len
    (framed_as (length x.frames) x.standing (all_agree (frame_channels x)) (sequence_octets (frame_channels x)) len)
carried s x (Err f) = refuses f

-- The place of an item is the offset of its tag.
unfoldable pub place_at : Item → ℕ
place_at (Item.Plain place tag start len) = place
place_at (Item.Group place channel) = place
place_at (Item.Member place channel tag start len) = place
place_at (Item.Mark place) = place

-- A file is accepted with its frames, or refused with a fault and a place.
pub data Verdict : Type 0 where
  accepted : List Frame → Verdict
  refused : Refusal → Verdict

-- A refused item decides at its place; else what follows does.
unfoldable pub after_item : (State → Verdict) → ℕ → Outcome → Verdict
after_item more place (goes y) = more y
after_item more place (refuses f) = refused (refusal f place)

-- The first refused item in file order decides. A fault of form counts where the items before it are not refused.
unfoldable pub interpret : List ℕ → State → Items → Verdict
interpret s x (item i more) = after_item (λ y. interpret s y more) (place_at i) (carried s x (effect_of s x.standing i))
interpret s x finished = accepted x.frames
interpret s x (fault r) = refused r

-- The verdict where this state stands before the first item. 15 comes first.
abbrev pub verdict_from : State → List ℕ → Verdict
verdict_from x s = pick (ltb octets_limit (length s)) (refused (refusal LongFile 0)) (interpret s x (items_of s))

-- The verdict on a file.
unfoldable pub verdict : List ℕ → Verdict
verdict s = verdict_from first_state s

-- The same with 15 left out.
unfoldable pub unlimited : List ℕ → Verdict
unlimited s = interpret s first_state (items_of s)

-- What it is to say, by the verdict on the file.
unfoldable pub checked_as : Verdict → Answer ℕ
checked_as (accepted fs) = answered (length fs)
checked_as (refused r) = refused_by r

-- The same for a file.
unfoldable pub check_of : List ℕ → Answer ℕ
check_of s = checked_as (verdict s)
