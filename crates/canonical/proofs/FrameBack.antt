-- The octets of a recorded frame, read.
--     groups_led      the groups make the channels' records
--     frame-taken     its waveform passes the tests 11 to 13
--     waveform_led    the waveform makes the frame
--     opening_led, closing_led    what stands ahead of the groups, and what follows them
--     frame_led       the octets of a frame lead to one frame more, which is the recorded one
-- Assumes nothing.
use Prim.Native.Nat.{ℕ, suc, ◌+◌, ◌*◌, ◌≤◌, ◌<◌}
use mathlib.Core.Path.{◌≡◌, refl, sym, ◌∙◌, ap}
use mathlib.Core.List.{List, [], ◌∷◌, ◌++◌, append_assoc}
use mathlib.Core.Bool.{true, false}
use native.Mathlib.Omega.{arith}
use borrow.Author.Tests.{ne_eqb}
use lib.Dec.{eqb}
use lib.IntN.{ℤ}
use lib.ListN.{length, set, take, drop, length-set}
use lib.Seq.{sets, sets-eq, take-append_seam}
use Rattle.std.specs.Prelude.{Ok}
use Rattle.octets.specs.Pick.{pick}
use Rattle.stores.specs.Number.{be}
use Rattle.items.specs.declared.Within.TheVariants.{Root}
use Rattle.items.specs.Walk.{cursor}
use Rattle.settings.specs.declared.Settings.{Settings}
use Rattle.settings.specs.Settings.{channel_limit, default_table}
use Rattle.definitions.specs.Define.{tagged}
use Rattle.layout.specs.Frame.{Frame, sequence_octets, all_agree}
use Rattle.there.proofs.Places.{there_declared}
use Rattle.standing.specs.declared.Standing.{Standing}
use Rattle.standing.specs.Standing.{octets_limit, frames_limit, with_continued}
use Rattle.effects.specs.Effects.{root_effect}
use Rattle.framing.specs.Framing.{channels_of, pointer_after, framed_as}
use Rattle.verdict.specs.Verdict.{State, state, goes, frame_channels, with_frame, carried}
use Rattle.framing.proofs.Framings.{pointer_small, framed_taken}
use Rattle.canonical.specs.Recording.{Recorded}
use Rattle.groups.specs.Item.{item_octets, number_item, unsigned_of}
use Rattle.groups.specs.Head.{sequences_item, head_items}
use Rattle.groups.specs.Group.{group_octets, groups_octets}
use Rattle.canonical.specs.Canonical.{waveform_of, frame_octets}
use Rattle.canonical.proofs.Good.{AllReported, GoodRecorded}
use Rattle.canonical.proofs.Known.{usual, group, start_at, value_known}
use Rattle.canonical.proofs.Steps.{Led, led_then, plain_led, group_led, definitions_octets}
use Rattle.canonical.proofs.Effects.{definitions, item_picked, items_are, changes_are, define_all, standing, count-is, sequences-is, start_is}
use Rattle.canonical.proofs.Recordings.{frame_of, all_agree_lem, sequences_back, waveform-long}

group_octets_are : (k : ℕ) (c : Settings) → group_octets k c ≡ group k (definitions_octets (definitions c))
unfolding group_octets
group_octets_are k c = ap (group k) (items_are c)

-- The value of 06.
abbrev sequences_value : ℕ → List ℕ
sequences_value n = pick (eqb n 0) [] (be 4 n)

sequences-item : (n : ℕ) → sequences_item n ≡ item_octets 0x06 (sequences_value n)
unfolding sequences_item number_item
sequences-item n = item_picked 0x06 (eqb n 0) [] (be 4 n)

-- 05, 06 and 07 of a frame, with what follows them.
abbrev opening_items : Recorded → List ℕ → List ℕ
opening_items r post =
    item_octets 0x05 (be 4 (length r.channels)) ++ (item_octets 0x06 (sequences_value r.sequences) ++ (item_octets 0x07 (be 4 (unsigned_of 4 r.start)) ++ post))

frame-items : (r : Recorded) (post : List ℕ) → frame_octets r ++ post ≡ opening_items r (groups_octets 0 r.channels ++ (item_octets 0x1E (waveform_of r) ++ post))
unfolding frame_octets head_items number_item
frame-items r post = rw (sequences-item r.sequences) (simp append_assoc)

-- From a state, the octets of a recorded frame lead to one frame more, and what stands is as ahead of any canonical frame.
pub record FrameRead (s : List ℕ) (x : State) (at : ℕ) (fs : List Frame) (r : Recorded) (post : List ℕ) : Type 0 where
  pub place : ℕ
  pub counted : ℕ
  pub sequences : ℕ
  pub start : ℤ
  pub table : List Settings
  pub led : Led s x (cursor at Root) (state (standing counted sequences start start) table (fs ++ (frame_of r place ∷ []))) post

-- The first elements after as many stores.
stored_first : {A : Type 0} (vs l : List A) → length vs ≤ length l → take (length vs) (sets l 0 vs) ≡ vs
stored_first vs l h = rw (sets-eq vs l 0 (omega arith)) (take-append_seam vs (drop (0 + length vs) l))

-- The records that a frame's groups make.
abbrev full_table : Recorded → List Settings
full_table r = sets default_table 0 r.channels

-- What stands at a recorded frame's waveform, and the pointer behind it.
abbrev standing_at : Recorded → ℤ → Standing
standing_at r continued = standing (length r.channels) r.sequences r.start continued

abbrev pointer_behind : Recorded → ℤ → ℤ
pointer_behind r continued = pointer_after (standing_at r continued) r.sequences

-- What stands behind it.
abbrev standing_behind : Recorded → ℤ → Standing
standing_behind r continued = with_continued (pointer_behind r continued) (standing_at r continued)

-- A recorded frame with the channels and the waveform that were read.
abbrev recorded_at : Recorded → ℕ → List Settings → List ℕ → Frame
recorded_at r place channels waveform =
    record { start = r.start; place = place; little = false; sequences = r.sequences; channels = channels; waveform = waveform }

module _ (s : List ℕ) (short : length s ≤ octets_limit) (fs : List Frame) where
  groups_led : (counted sequences : ℕ) (start continued : ℤ) (k : ℕ) (cs table : List Settings) (at : ℕ) (post : List ℕ) → AllReported cs → drop at s ≡ groups_octets k cs ++ post → k + length cs ≤ counted → counted ≤ channel_limit → counted ≤ length table → Led s (state (standing counted sequences start continued) table fs) (cursor at Root) (state (standing counted sequences start continued) (sets table k cs) fs) post
  unfolding groups_octets
  groups_led counted sequences start continued k [] table at post g e h l m = record { place = at; rest = e; same = refl }
  groups_led counted sequences start continued k (c ∷ cs) table at post g e h l m =
      let st = standing counted sequences start continued in
      let u = groups_octets (suc k) cs ++ post in
      let f : drop at s ≡ group k (definitions_octets (definitions c)) ++ u = e ∙ append_assoc (group_octets k c) (groups_octets (suc k) cs) post ∙ ap (λ (x : List ℕ). x ++ u) (group_octets_are k c) in
      let a = group_led s short st k refl (omega arith) table (omega arith) fs at (definitions c) u (omega arith) f (define_all c g.0) in
      let b : Led s (state st table fs) (cursor at Root) (state st (set table k c) fs) u = rw changes_are at a in
      led_then b (λ p q. groups_led counted sequences start continued (suc k) cs (set table k c) p post g.1 q (omega arith) l (rw length-set m))

  module _ (r : Recorded) (good : GoodRecorded r) (few : length fs < frames_limit) where
    module _ (table : List Settings) (known : take (length r.channels) table ≡ r.channels) (continued : ℤ) where
      channels_known : frame_channels (state (standing_at r continued) table fs) ≡ r.channels
      unfolding channels_of
      channels_known =
          let none : length r.channels ≡ 0 → ⊥ = λ z. omega (arith, good.some) in
          rw (ne_eqb (length r.channels) 0 none) known

      -- The tests 11 to 13 pass.
      frame-taken : framed_as (length fs) (standing_at r continued) (all_agree r.channels) (sequence_octets r.channels) (length (waveform_of r)) ≡ Ok (r.sequences, standing_behind r continued)
      frame-taken =
          let octets = sequence_octets r.channels in
          let inside : length (waveform_of r) ≤ r.sequences * octets = omega (arith, waveform-long r good, there_declared r.channels r.sequences good.long) in
          rw (all_agree_lem r.channels good.channels)
          (sym (framed_taken (length fs) (standing_at r continued) true octets (length (waveform_of r)) few refl good.start
          r.sequences (sequences_back r.sequences (length (waveform_of r)) octets inside)))

      waveform_led : (at : ℕ) (post : List ℕ) → drop at s ≡ item_octets 0x1E (waveform_of r) ++ post → Led s (state (standing_at r continued) table fs) (cursor at Root) (state (standing_behind r continued) table (fs ++ (frame_of r (start_at at (length (waveform_of r))) ∷ []))) post
      unfolding usual tagged root_effect carried with_frame
      waveform_led at post e =
          let v = waveform_of r in
          let place = start_at at (length v) in
          let x = state (standing_at r continued) table fs in
          let behind = standing_behind r continued in
          let waveform = value_known s short at 0x1E v post e in
          let framed : framed_as (length fs) x.standing (all_agree (frame_channels x)) (sequence_octets (frame_channels x)) (length v) ≡ Ok (r.sequences, behind) = rw channels_known frame-taken in
          plain_led s short x (state behind table (fs ++ (frame_of r place ∷ []))) at 0x1E v post e refl refl
          (ap (with_frame s x place (length v)) framed ∙ λ i. goes (state behind table (fs ++ (recorded_at r place (channels_known i) (waveform i) ∷ []))))

    -- 05, 06 and 07.
    opening_led : (counted sequences : ℕ) (start continued : ℤ) (table : List Settings) (at : ℕ) (post : List ℕ) → drop at s ≡ opening_items r post → Led s (state (standing counted sequences start continued) table fs) (cursor at Root) (state (standing_at r continued) default_table fs) post
    unfolding usual tagged carried
    opening_led counted sequences start continued table at post e =
        let n = length r.channels in
        led_then (plain_led s short _ (state (standing n sequences start continued) default_table fs) at 0x05 _ _ e refl refl (rw (count-is counted sequences start continued _ n good.some good.few)))
        (λ p q. led_then (plain_led s short _ (state (standing n r.sequences start continued) default_table fs) p 0x06 _ _ q refl refl (rw (sequences-is n sequences start continued _ r.sequences good.sequences)))
        (λ p q. plain_led s short _ _ p 0x07 _ _ q refl refl (rw (start_is n r.sequences start continued _ r.start (pointer_small r.start good.start)))))

    closing_led : (x : State) (at : ℕ) (continued : ℤ) (post : List ℕ) → Led s x (cursor at Root) (state (standing_at r continued) (full_table r) fs) (item_octets 0x1E (waveform_of r) ++ post) → FrameRead s x at fs r post
    closing_led x at continued post d =
        let w = waveform_led (full_table r) (stored_first r.channels default_table good.few) continued d.place post d.rest in
        record {
          place = start_at d.place (length (waveform_of r));
          counted = length r.channels;
          sequences = r.sequences;
          start = pointer_behind r continued;
          table = full_table r;
          led = record { place = w.place; rest = w.rest; same = d.same ∙ w.same };
        }

    pub frame_led : (counted sequences : ℕ) (start continued : ℤ) (table : List Settings) (at : ℕ) (post : List ℕ) → drop at s ≡ frame_octets r ++ post → FrameRead s (state (standing counted sequences start continued) table fs) at fs r post
    frame_led counted sequences start continued table at post e =
        closing_led (state (standing counted sequences start continued) table fs) at continued post
        (led_then (opening_led counted sequences start continued table at (groups_octets 0 r.channels ++ (item_octets 0x1E (waveform_of r) ++ post)) (e ∙ frame-items r post))
        (λ p q. groups_led (length r.channels) r.sequences r.start continued 0 r.channels default_table p (item_octets 0x1E (waveform_of r) ++ post) good.channels q (omega arith) good.few good.few))
