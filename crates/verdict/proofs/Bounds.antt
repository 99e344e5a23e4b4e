-- What holds at every state that a file's items lead to.
--     reached_bounded     no more channels are counted and no more frames met than there may be, and each attribute of each record is in its range
--     frame-channels, octets-some    so a frame there has 1 to 256 channels, and a sequence has octets
--     root_small, channels-wide, channels-some    the root block length is small, samples have octets, and blocks have samples
-- Assumes nothing.
use mathlib.Core.Path.{◌≡◌, refl, ◌∙◌}
use mathlib.Core.List.{List, [], ◌∷◌}
use mathlib.Core.Bool.{true}
use Prim.Native.Nat.{ℕ, ◌≤◌, ◌<◌}
use native.Mathlib.Nat.{mul-pos}
use native.Mathlib.Omega.{arith}
use borrow.Author.Tests.{leb-true, eqb-false}
use lib.Dec.{leb, eqb}
use lib.ListN.{length, length-take, length-append, length-replicate, length-set, length-map}
use Rattle.octets.proofs.Pick.{pick_cases, both_split}
use Rattle.values.proofs.Laws.{width_some}
use Rattle.items.specs.declared.Item.{Item}
use Rattle.items.specs.declared.Cursor.{Cursor}
use Rattle.settings.specs.declared.Settings.{Settings}
use Rattle.settings.specs.declared.Change.{Change}
use Rattle.settings.specs.Settings.{channel_limit, block_limit, last_data_type, default_settings, zero_settings, all_applied}
use Rattle.definitions.specs.Define.{in_range}
use Rattle.layout.specs.Frame.{block_octets, sequence_octets, channel_in}
use Rattle.there.specs.There.{Wide}
use Rattle.standing.specs.Standing.{frames_limit}
use Rattle.framing.specs.Framing.{channels_of}
use Rattle.verdict.specs.Verdict.{State, first_state, one_changed, frame_channels}
use Rattle.verdict.specs.Reached.{Reached}
use Rattle.verdict.proofs.Keeps.{reached_keeps}
use Rattle.verdict.proofs.Steps.{ItemStep, passes, stands, resets, changes, sets, frames, meaning_steps}
use Rattle.verdict.proofs.Every.{Every, every_at, every_take}
use Rattle.verdict.proofs.Tables.{EachAttribute, Table, table_step, table_first}

-- ---- a record in its ranges

-- Each value is in its range; this needs nothing of the octets.
abbrev InRange : Change → Type 0
InRange c = in_range c ≡ true

default_ranged : EachAttribute InRange default_settings
default_ranged =
    record { block = refl; class = refl; lead = refl; datatype = refl; interval = refl; resolution = refl; offset = refl; null = refl }

block-octets-some : (c : Settings) → EachAttribute InRange c → 0 < block_octets c
unfolding block_octets
block-octets-some c e =
    let b = both_split (leb 1 c.block) (leb c.block block_limit) e.block in
    mul-pos (leb-true 1 c.block b.0) (width_some c.datatype (leb-true c.datatype last_data_type e.datatype))

sequence-octets-some : (cs : List Settings) → Every (EachAttribute InRange) cs → 0 < length cs → 0 < sequence_octets cs
unfolding sequence_octets
sequence-octets-some [] e h = h
sequence-octets-some (c ∷ cs) e h = omega (arith, block-octets-some c e.0)

-- ---- what every item keeps

pub record Bounded (x : State) : Type 0 where
  pub counted : x.standing.counted ≤ channel_limit
  pub full : length x.channels ≡ channel_limit
  pub few : length x.frames ≤ frames_limit
  pub ranged : Table InRange x

module _ (s : List ℕ) where
  pub bounded_first : Bounded first_state
  bounded_first =
      record {
        counted = omega arith;
        full = length-replicate channel_limit default_settings;
        few = omega arith;
        ranged = table_first InRange s default_ranged (λ a little start len g z r. r);
      }

  numbers-step : (x : State) (i : Item) (y : State) → Bounded x → ItemStep s x i y → (y.standing.counted ≤ channel_limit) × (length y.channels ≡ channel_limit) × (length y.frames ≤ frames_limit)
  unfolding all_applied one_changed
  numbers-step x i _ b passes = (b.counted, b.full, b.few)
  numbers-step x i _ b (stands y h r q) = (rw h b.counted, b.full, b.few)
  numbers-step x i _ b (resets y h r q) = (h, length-replicate channel_limit y.root, b.few)
  numbers-step x i _ b (changes ch e) = (b.counted, length-map x.channels _ ∙ b.full, b.few)
  numbers-step x i _ b (sets channel ch e) = (b.counted, length-set x.channels channel _ ∙ b.full, b.few)
  numbers-step x i _ b (frames start long n y w t) = (rw t.after b.counted, b.full, rw length-append (omega (arith, t.few)))

  pub bounded_step : (x : State) (i : Item) (y : State) → Bounded x → ItemStep s x i y → Bounded y
  bounded_step x i y b t =
      let k = numbers-step x i y b t in
      record { counted = k.0; full = k.1; few = k.2; ranged = table_step InRange s default_ranged (λ a little start len g z r. r) x i y b.ranged t }

  pub reached_bounded : {x : State} {c : Cursor} → Reached s x c → Bounded x
  reached_bounded r =
      reached_keeps s (λ x c. Bounded x) (λ x c i d y b e g. bounded_step x i y b (meaning_steps s x i y g)) bounded_first r

-- ---- a frame there

-- A frame has 1 to 256 channels.
pub channels-between : (counted : ℕ) → counted ≤ channel_limit → (0 < channels_of counted) × (channels_of counted ≤ channel_limit)
unfolding channels_of
channels-between counted h =
    pick_cases (λ n. (0 < n) × (n ≤ channel_limit)) (eqb counted 0) (λ _. omega arith)
    (λ e. let z = eqb-false counted 0 e in omega arith)

module _ (x : State) (b : Bounded x) where
  pub frame-channels : (0 < length (frame_channels x)) × (length (frame_channels x) ≤ channel_limit)
  frame-channels =
      let k = channels-between x.standing.counted b.counted in
      let e : length (frame_channels x) ≡ channels_of x.standing.counted = length-take (channels_of x.standing.counted) x.channels ∙ omega (arith, b.full) in
      (omega arith, omega arith)

  -- The root block length is in its range.
  pub root_small : x.standing.root.block ≤ block_limit
  root_small =
      let n = x.standing.root.block in
      leb-true n block_limit (both_split (leb 1 n) (leb n block_limit) b.ranged.root.block).1

  ranged_channels : Every (EachAttribute InRange) (frame_channels x)
  ranged_channels = every_take (EachAttribute InRange) (channels_of x.standing.counted) x.channels b.ranged.table

  ranged_at : (c : ℕ) → c < length (frame_channels x) → EachAttribute InRange (channel_in c (frame_channels x))
  ranged_at c h = every_at (EachAttribute InRange) (frame_channels x) ranged_channels zero_settings c h

  -- A channel's samples have octets, and its blocks have samples.
  pub channels-wide : Wide (frame_channels x)
  channels-wide c h = let n = (channel_in c (frame_channels x)).datatype in width_some n (leb-true n last_data_type (ranged_at c h).datatype)

  pub channels-some : (c : ℕ) → c < length (frame_channels x) → 0 < (channel_in c (frame_channels x)).block
  channels-some c h =
      let n = (channel_in c (frame_channels x)).block in
      leb-true 1 n (both_split (leb 1 n) (leb n block_limit) (ranged_at c h).block).0

  pub octets-some : 0 < sequence_octets (frame_channels x)
  octets-some = sequence-octets-some (frame_channels x) ranged_channels frame-channels.0
