-- The pass where all channels have the root settings, and no record is kept.
--     bare_first, -on, -all    before the first item, behind an item that leaves the root settings, behind a root definition
--     bare_root                behind a stretch of root definitions
--     bare_more, bare_taken    a frame
-- Assumes nothing.
use Rattle.heads.specs.declared.Fault.{Fault}
use Rattle.effects.specs.declared.Effect.{Effect}
use Rattle.std.specs.Prelude.{Result, Ok}
use mathlib.Core.Path.{◌≡◌, sym, ap, subst, ◌∙◌}
use mathlib.Core.List.{List}
use Prim.Native.Nat.{ℕ, ◌+◌, ◌-◌, ◌^◌, ◌≤◌, ◌<◌, min}
use native.Mathlib.Omega.{arith}
use lib.ListN.{length, take, replicate, get_or-replicate}
use Rattle.items.specs.declared.Item.{Item}
use Rattle.items.specs.declared.Cursor.{Cursor}
use Rattle.items.specs.declared.Within.TheVariants.{Root}
use Rattle.items.specs.Walk.{cursor}
use Rattle.settings.specs.declared.Settings.{Settings}
use Rattle.settings.specs.declared.Change.{Change}
use Rattle.settings.specs.Settings.{channel_limit, default_settings, zero_settings, applied, all_applied}
use Rattle.settings.proofs.Repeats.{map-replicate}
use Rattle.layout.specs.declared.Layout.{Layout}
use Rattle.sizes.specs.Size.{frame_size}
use Rattle.layout.specs.Measure.{More}
use Rattle.layout.proofs.Laws.{Summing, summing_more}
use Rattle.standing.specs.declared.Standing.{Standing}
use Rattle.standing.specs.Standing.{octets_limit, first_standing, with_root}
use Rattle.effects.specs.Effects.{standing_after}
use Rattle.there.specs.There.{there_octets}
use Rattle.framing.specs.Framing.{channels_of}
use Rattle.stretch.specs.declared.Stretch.{Stretch}
use Rattle.stretch.specs.Stretch.{stretch_of}
use Rattle.pass.specs.declared.Asked.{Asked}
use Rattle.pass.specs.declared.Met.{Met}
use Rattle.verdict.specs.Verdict.{state}
use Rattle.verdict.specs.Reached.{Reached}
use Rattle.pass.specs.Passing.{Scanning, none_met, met_with}
use Rattle.pass.proofs.Scans.{scanning_first, scanning_on}
use Rattle.pass.proofs.Turns.{Facing, facing_all, Framing, framing_taken}
use Rattle.pass.proofs.Stretches.{root_law}

-- What is known where no group has set a channel.
abbrev pub Bare : List ℕ → Asked → Cursor → Standing → Met → Type 0
Bare s q c st m = Scanning s q (replicate channel_limit st.root) c st m

pub bare_first : (s : List ℕ) (q : Asked) (c : Cursor) (st : Standing) {m : Met} → length s ≤ octets_limit → c ≡ cursor 0 Root → st ≡ first_standing → m ≡ none_met → Bare s q c st m
bare_first s q c st h ec es em =
    rw em (scanning_first s q (replicate channel_limit st.root) c st h (ap (λ (x : Standing). replicate channel_limit x.root) es) ec es)

module _ {s : List ℕ} {q : Asked} {c : Cursor} {m : Met} where
  -- The root settings are as they were.
  pub bare_on : {r : Settings} {st : Standing} → (st.root ≡ r) × Scanning s q (replicate channel_limit r) c st m → Bare s q c st m
  bare_on {st = st} p = subst (λ (x : Settings). Scanning s q (replicate channel_limit x) c st m) (sym p.0) p.1

  -- The same cursor, however it is kept.
  pub bare_at : {st : Standing} {d : Cursor} → d ≡ c → Bare s q c st m → Bare s q d st m
  bare_at {st = st} e p = subst (λ (x : Cursor). Bare s q x st m) (sym e) p

module _ {s : List ℕ} {q : Asked} {c : Cursor} {st : Standing} {m : Met} where
  pub bare_all : {i : Item} {d : Cursor} {e : Result Effect Fault} {f : Effect} {ch : Change} {st' : Standing} → Facing s q (replicate channel_limit st.root) c st m i d e → e ≡ Ok f → f ≡ Effect.All ch → st' ≡ standing_after st (Ok f) → Bare s q d st' m
  unfolding all_applied
  bare_all {d = d} {ch = ch} {st' = st'} t a b w =
      let k = facing_all t a b w in
      subst (λ (u : List Settings). Scanning s q u d st' m) (map-replicate (applied ch) channel_limit st.root ∙ ap (replicate channel_limit) (sym k.0)) k.1

  pub bare_root : {base : Settings} {t : Stretch} {st' : Standing} → Bare s q c st m → c.within ≡ Root → base ≡ default_settings → t ≡ stretch_of s c st.little base st.root → st' ≡ with_root t.settings st → Bare s q (cursor t.at Root) st' m
  bare_root {t = t} p w b e f =
      let here : c ≡ cursor c.at Root = ap (cursor c.at) w in
      rw f
      (scanning_on p
      (root_law s st p.met c.at st.root t (e ∙ (λ i. stretch_of s (here i) st.little (b i) st.root))
      (subst (λ (d : Cursor). Reached s (state st (replicate channel_limit st.root) p.met) d) here p.reached)))

-- One channel more of those that all have the same.
pub bare_more : {channel : ℕ} {x : Settings} {n i : ℕ} {l : Layout} → Summing channel (replicate channel_limit x) n i l → (m : Layout) → i < n → More i channel x l m → Summing channel (replicate channel_limit x) n (i + 1) m
bare_more {channel = channel} {x = x} {i = i} {l = l} p m h g =
    summing_more p m h (subst (λ (y : Settings). More i channel y l m) (sym (get_or-replicate channel_limit i x zero_settings (omega (arith, p.few)))) g)

-- A frame is taken, all of whose channels have the same.
pub bare_taken : {s : List ℕ} {q : Asked} {c : Cursor} {st : Standing} {m : Met} {i : Item} {d : Cursor} {start len sequences : ℕ} {l : Layout} {r : Result (ℕ × Standing) Fault} {x : Standing} {m' : Met}
    → Framing s q (replicate channel_limit st.root) c st m i d start len l r → r ≡ Ok (sequences, x)
    → {there : ℕ} → there ≡ there_octets (take (channels_of st.counted) (replicate channel_limit st.root)) sequences len
    → (m' ≡ met_with q st sequences start len l there st.root m) × (frame_size sequences l.groups there < 2 ^ 32)
    → Bare s q d x m'
bare_taken {q = q} {st = st} f g et em =
    bare_on (framing_taken f g et (sym (get_or-replicate channel_limit (min q.channel (channel_limit - 1)) st.root zero_settings (omega arith))) em)
