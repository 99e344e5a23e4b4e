-- What a pass knows and asks on its way. None of it is a rule of document 01.
use Rattle.std.specs.Prelude.{◌≡◌, List, Bool, false, ℕ, ◌+◌, ◌*◌, ◌^◌, ◌≤◌, ltb, eqb, length, get_or, Ok, Some, None}
use Rattle.octets.specs.Pick.{pick}
use Rattle.items.specs.declared.Item.{Item}
use Rattle.items.specs.declared.Cursor.{Cursor}
use Rattle.items.specs.Walk.{is_inside}
use Rattle.settings.specs.declared.Settings.{Settings}
use Rattle.settings.specs.Settings.{channel_limit, default_settings}
use Rattle.layout.specs.declared.Layout.{Layout}
use Rattle.layout.specs.Frame.{Frame}
use Rattle.sizes.specs.Size.{frame_size}
use Rattle.standing.specs.declared.Standing.{Standing}
use Rattle.standing.specs.Standing.{octets_limit, frames_limit}
use Rattle.framing.specs.Framing.{channels_of}
use Rattle.stretch.specs.Stretch.{stepped_over}
use Rattle.pass.specs.declared.Asked.{Asked}
use Rattle.view.specs.declared.View.{View}
use Rattle.pass.specs.declared.Scan.{Scan}
use Rattle.pass.specs.declared.Met.{Met}
use Rattle.verdict.specs.Verdict.{state}
use Rattle.pass.specs.Scan.{found_in, sizes}
use Rattle.verdict.specs.Reached.{Reached}

-- What is known where a pass stands before the item at a cursor: the items before it lead there, with the frames met.
pub record Scanning (s : List ℕ) (q : Asked) (table : List Settings) (c : Cursor) (st : Standing) (m : Met) : Type 0 where
  pub long : length s ≤ octets_limit
  pub met : List Frame
  pub reached : Reached s (state st table met) c
  pub count : m.frames ≡ length met
  pub kept : m.found ≡ found_in q met
  pub sized : m.size ≡ sizes met
  pub room : m.size ≤ m.frames * 2 ^ 32

-- No frame met yet.
abbrev pub none_met : Met
none_met = record { frames = 0; found = None; size = 0 }

-- What a pass answers at the end of the file.
abbrev pub met_scan : Met → Scan
met_scan m = record { checked = Ok m.frames; found = m.found; size = m.size }

-- What is kept of a frame, where c are the settings of the channel that is asked for if the frame has it.
abbrev pub view_met : ℕ → Standing → ℕ → ℕ → ℕ → Layout → Settings → View
view_met channel st sequences start len l c =
    record {
      start = st.start;
      channels = channels_of st.counted;
      sequences = sequences;
      little = st.little;
      place = start;
      long = len;
      octets = l.octets;
      below = l.below;
      settings = pick (ltb channel (channels_of st.counted)) c default_settings;
    }

-- A frame more is counted without loss: what its groups and its samples there take is small, and so is what the frames before it take.
pub record Room (l : Layout) (there : ℕ) (m : Met) : Type 0 where
  pub few : m.frames ≤ frames_limit
  pub size : m.size ≤ m.frames * 2 ^ 32
  pub groups : l.groups ≤ channel_limit * 64
  pub waveform : there ≤ octets_limit

-- One frame more is met, whose samples there take so many octets.
abbrev pub met_with : Asked → Standing → ℕ → ℕ → ℕ → Layout → ℕ → Settings → Met → Met
met_with q st sequences start len l there c m =
    record {
      frames = m.frames + 1;
      found = pick (eqb m.frames q.frame) (Some (view_met q.channel st sequences start len l c)) m.found;
      size = m.size + frame_size sequences l.groups there;
    }

-- The channel of a group that takes effect here; for every other item the number of records, which is no channel.
unfoldable pub opened_by : ℕ → Item → ℕ
opened_by counted (Item.Plain place tag start len) = channel_limit
opened_by counted (Item.Group place channel) = pick (ltb channel counted) channel channel_limit
opened_by counted (Item.Member place channel tag start len) = channel_limit
opened_by counted (Item.Mark place) = channel_limit

-- A stretch of root definitions may begin at a cursor.
unfoldable pub begins_at : List ℕ → Cursor → Bool
begins_at s c = pick (is_inside c.within) false (pick (ltb c.at (length s)) (stepped_over (get_or s c.at 0)) false)
