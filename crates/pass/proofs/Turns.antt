-- The pass, turn by turn, by what stands for the channels.
--     Facing, facing-..          an item met and what it asks for, and the laws of the turn: where the pass stands behind it, or what it answers
--     Framing, framing-..    the same of a waveform
-- Assumes nothing.
use Rattle.heads.specs.declared.Fault.{Fault}
use Rattle.heads.specs.declared.Refusal.{Refusal}
use Rattle.effects.specs.declared.Effect.{Effect}
use Rattle.std.specs.Prelude.{Result, Ok, Err, Option, Some}
use mathlib.Core.Path.{◌≡◌, refl, sym, ap, ◌∙◌}
use mathlib.Core.Logic.{◌⊎◌, ⊎_elim}
use mathlib.Core.List.{List}
use mathlib.Core.Bool.{not}
use Prim.Native.Nat.{ℕ, ◌-◌, ◌^◌, ◌<◌, min, ◌≤◌}
use types.Run.{OneOf, miss}
use mir.Val.{has_key}
use denote.Enum.Declared.{tag_of}
use lib.Dec.{T, ltb}
use native.Mathlib.Omega.{arith}
use lib.ListN.{length, get_or, take, replicate}
use Rattle.octets.specs.Pick.{pick}
use Rattle.items.specs.declared.Item.{Item}
use Rattle.items.specs.declared.Cursor.{Cursor}
use Rattle.items.specs.Walk.{next_of, refusal}
use Rattle.items.proofs.Walks.{next-later, found_as}
use Rattle.settings.specs.declared.Settings.{Settings}
use Rattle.settings.specs.declared.Change.{Change}
use Rattle.settings.specs.Settings.{channel_limit, default_settings, zero_settings, applied, all_applied}
use Rattle.layout.specs.declared.Layout.{Layout}
use Rattle.sizes.specs.Size.{frame_size}
use Rattle.layout.specs.Measure.{layout_of}
use Rattle.standing.specs.declared.Standing.{Standing}
use Rattle.standing.specs.Standing.{octets_limit}
use Rattle.effects.specs.Effects.{effect_of, standing_after}
use Rattle.effects.specs.contracts.Effect.{the_type}
use Rattle.framing.specs.Framing.{channels_of}
use Rattle.framing.specs.AnyNumbers.{framed_by}
use Rattle.pass.specs.declared.Asked.{Asked}
use Rattle.pass.specs.declared.Met.{Met}
use Rattle.verdict.specs.Verdict.{State, state, goes, with_frame, carried, place_at}
use Rattle.verdict.specs.Reached.{behind}
use Rattle.pass.specs.Passing.{Scanning, met_with, Room}
use Rattle.pass.specs.Scan.{refused_scan, scan_of}
use Rattle.layout.specs.Frame.{sequence_octets}
use Rattle.there.specs.There.{there_octets}
use Rattle.there.proofs.Places.{there-le}
use Rattle.verdict.proofs.Frames.{waveform-small, frame-carried, groups-small, taken_root}
use Rattle.pass.proofs.Scans.{scanning_on, scanning_few, scanning_frame, scanned_refuses}

-- ---- effects that set nothing but what stands

-- The keys of an arm of effects that give no frame and set no record: none of them is a definition or a frame.
abbrev pub Plain : List ℕ → Type 0
Plain ks = T (not (has_key ks 5)) × T (not (has_key ks 6)) × T (not (has_key ks 7))

-- Such an effect changes what stands, but no channel's record and not the root settings.
record Stood (s : List ℕ) (x : State) (e : Result Effect Fault) : Type 0 where
  pub carries : carried s x e ≡ goes (state (standing_after x.standing e) x.channels x.frames)
  pub root : (standing_after x.standing e).root ≡ x.standing.root

-- A count sends every channel back to the root settings, which is nothing new where they all have them.
stood : (ks : List ℕ) → Plain ks → (s : List ℕ) (x : State) → T (not (has_key ks 2)) ⊎ (x.channels ≡ replicate channel_limit x.standing.root) → (f : Effect) → OneOf ks (tag_of the_type f) → Stood s x (Ok f)
unfolding carried
stood ks b s x u Effect.Pass h = record { carries = refl; root = refl }
stood ks b s x u (Effect.Order little) h = record { carries = refl; root = refl }
stood ks b s x u (Effect.Count n) h =
    record {
      carries = ⊎_elim (λ k. absurd (miss ks 2 k h)) (λ z. ap (λ (t : List Settings). goes (state (standing_after x.standing (Ok (Effect.Count n))) t x.frames)) (sym z)) u;
      root = refl;
    }
stood ks b s x u (Effect.Sequences n) h = record { carries = refl; root = refl }
stood ks b s x u (Effect.Start z) h = record { carries = refl; root = refl }
stood ks b s x u (Effect.All c) h = absurd (miss ks 5 b.0 h)
stood ks b s x u (Effect.One channel c) h = absurd (miss ks 6 b.1 h)
stood ks b s x u (Effect.Frame start len) h = absurd (miss ks 7 b.2 h)

-- ---- an item

-- An item is met, behind which the cursor d stands, and asks for e; the table is what stands for all channels.
pub record Facing (s : List ℕ) (q : Asked) (table : List Settings) (c : Cursor) (st : Standing) (m : Met) (i : Item) (d : Cursor) (e : Result Effect Fault) : Type 0 where
  pub before : Scanning s q table c st m
  pub found : next_of s c ≡ Ok (Some (i, d))
  pub asks : e ≡ effect_of s st i

-- As a turn knows it, however the cursor behind the item is kept.
pub facing_at : {s : List ℕ} {q : Asked} {table : List Settings} {c : Cursor} {st : Standing} {m : Met} → Scanning s q table c st m
    → {n : Result (Option (Item × Cursor)) Refusal} {o : Option (Item × Cursor)} {i : Item} {d d' : Cursor} → n ≡ next_of s c → n ≡ Ok o → o ≡ Some (i, d) → d' ≡ d
    → {e : Result Effect Fault} → e ≡ effect_of s st i → Facing s q table c st m i d' e
facing_at p en fn fo ed ee = record { before = p; found = sym en ∙ found_as (fn ∙ ap Ok fo) ed; asks = ee }

module _ {s : List ℕ} {q : Asked} {table : List Settings} {c : Cursor} {st : Standing} {m : Met} {i : Item} {d : Cursor} {e : Result Effect Fault} (t : Facing s q table c st m i d e) where
  pub facing_later : (c.at < length s) × (c.at < d.at)
  facing_later = next-later s c refl t.found

  abbrev here : State
  here = state st table t.before.met

  -- An item that gives no frame; what stands after it is known, however that is kept.
  pub facing_goes : {table' : List Settings} {st' st'' : Standing} → st'' ≡ st' → carried s here e ≡ goes (state st' table' t.before.met) → Scanning s q table' d st'' m
  facing_goes {table' = table'} w g =
      scanning_on t.before
      (behind t.before.reached t.found (ap (carried s here) (sym t.asks) ∙ g ∙ ap (λ (x : Standing). goes (state x table' t.before.met)) (sym w)))

  pub facing_nothing : e ≡ Ok Effect.Pass → Scanning s q table d st m
  unfolding carried
  facing_nothing b = facing_goes refl (ap (carried s here) b)

  pub facing_stands : (ks : List ℕ) → Plain ks → T (not (has_key ks 2)) ⊎ (table ≡ replicate channel_limit st.root) → {f : Effect} {st' : Standing} → e ≡ Ok f → OneOf ks (tag_of the_type f) → st' ≡ standing_after st (Ok f) → (st'.root ≡ st.root) × Scanning s q table d st' m
  facing_stands ks h u {f = f} a b w =
      let k = stood ks h s here u f b in
      (ap (λ (x : Standing). x.root) w ∙ k.root, facing_goes w (ap (carried s here) a ∙ k.carries))

  pub facing_all : {f : Effect} {ch : Change} {st' : Standing} → e ≡ Ok f → f ≡ Effect.All ch → st' ≡ standing_after st (Ok f) → (st'.root ≡ applied ch st.root) × Scanning s q (all_applied ch table) d st' m
  unfolding carried
  facing_all {ch = ch} {st' = st'} a b w =
      let v : st' ≡ standing_after st (Ok (Effect.All ch)) = w ∙ ap (λ (x : Effect). standing_after st (Ok x)) b in
      (ap (λ (x : Standing). x.root) v, facing_goes v (ap (carried s here) (a ∙ ap Ok b)))

  pub facing_refused : {n : Fault} → e ≡ Err n → refused_scan (refusal n (place_at i)) ≡ scan_of q s
  unfolding carried
  facing_refused {n = n} b = scanned_refuses t.before n (place_at i) refl t.found refl (ap (carried s here) (sym t.asks ∙ b))

-- ---- a waveform

-- A waveform is met: l is the layout of its channels, and r what it gives.
pub record Framing (s : List ℕ) (q : Asked) (table : List Settings) (c : Cursor) (st : Standing) (m : Met) (i : Item) (d : Cursor) (start len : ℕ) (l : Layout) (r : Result (ℕ × Standing) Fault) : Type 0 where
  pub turn : Facing s q table c st m i d (Ok (Effect.Frame start len))
  pub laid : l ≡ layout_of q.channel (take (channels_of st.counted) table)
  pub gives : r ≡ framed_by m.frames st l.agree l.octets len

pub facing_framing : {s : List ℕ} {q : Asked} {table : List Settings} {c : Cursor} {st : Standing} {m : Met} {i : Item} {d : Cursor} {e : Result Effect Fault} {start len : ℕ} {l : Layout} {r : Result (ℕ × Standing) Fault}
    → Facing s q table c st m i d e → {f : Effect} → e ≡ Ok f → f ≡ Effect.Frame start len → l ≡ layout_of q.channel (take (channels_of st.counted) table) → r ≡ framed_by m.frames st l.agree l.octets len
    → Framing s q table c st m i d start len l r
facing_framing t a b el g = record { turn = record { before = t.before; found = t.found; asks = sym (a ∙ ap Ok b) ∙ t.asks }; laid = el; gives = g }

module _ {s : List ℕ} {q : Asked} {table : List Settings} {c : Cursor} {st : Standing} {m : Met} {i : Item} {d : Cursor} {start len : ℕ} {l : Layout} {r : Result (ℕ × Standing) Fault}
    (f : Framing s q table c st m i d start len l r) where
  abbrev scanning : Scanning s q table c st m
  scanning = f.turn.before

  -- The waveform is small.
  pub framing_small : len ≤ octets_limit
  framing_small = waveform-small s st i scanning.long f.turn.asks

  pub framing_refused : {n : Fault} → r ≡ Err n → refused_scan (refusal n (place_at i)) ≡ scan_of q s
  unfolding with_frame
  framing_refused {n = n} g = scanned_refuses scanning n (place_at i) refl f.turn.found refl (frame-carried scanning.reached scanning.count q.channel l f.laid i start len framing_small f.turn.asks f.gives g)

  pub framing_octets : l.octets ≡ sequence_octets (take (channels_of st.counted) table)
  unfolding layout_of
  framing_octets = ap (λ (y : Layout). y.octets) f.laid

  module _ {sequences : ℕ} {x : Standing} (g : r ≡ Ok (sequences, x)) {there : ℕ} (et : there ≡ there_octets (take (channels_of st.counted) table) sequences len) where
    pub framing_room : Room l there m
    framing_room =
        record {
          few = scanning_few scanning;
          size = scanning.room;
          groups = groups-small scanning.reached scanning.count q.channel l f.laid;
          waveform = omega (arith, et, there-le (take (channels_of st.counted) table) sequences len, framing_small);
        }

    -- The frame is taken, and the pass keeps what it wants of it.
    pub framing_taken : {v : Settings} {m' : Met}
        → v ≡ get_or table (min q.channel (channel_limit - 1)) zero_settings
        → (m' ≡ met_with q st sequences start len l there v m) × (frame_size sequences l.groups there < 2 ^ 32)
        → (x.root ≡ st.root) × Scanning s q table d x m'
    framing_taken {v = v} ev em =
        let seen = ap (λ (y : Settings). pick (ltb q.channel (channels_of st.counted)) y default_settings) ev in (
          taken_root scanning.reached scanning.count q.channel l f.laid i framing_small f.turn.asks f.gives g,
          rw em.0 (scanning_frame scanning l f.laid i f.turn.asks f.gives g v f.turn.found seen et em.1),
        )
