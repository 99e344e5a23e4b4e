-- The pass over the channels' records, which are kept as they stood at a time.
--     Passing           what is known where the pass stands before the item at a cursor
--     passing_from      it goes on where no group has set a channel
--     passing_at, -on, -count, -all, -one, -outside    behind an item
--     passing_group     behind the definitions at the front of a group
--     settled_more, settled_seen    the channels of a frame
-- Assumes nothing.
use Rattle.std.specs.Prelude.{Result, Ok}
use Rattle.heads.specs.declared.Fault.{Fault}
use Rattle.effects.specs.declared.Effect.{Effect}
use mathlib.Core.Path.{◌≡◌, refl, sym, ap, subst, ◌∙◌}
use mathlib.Core.List.{List}
use mathlib.Core.Bool.{false}
use Prim.Native.Nat.{ℕ, ◌+◌, ◌-◌, ◌^◌, ◌≤◌, ◌<◌, min}
use native.Mathlib.Omega.{arith}
use lib.Dec.{eqb}
use lib.ListN.{length, get_or, set, replicate, length-set, length-replicate}
use lib.Seq.{set-get_or, set_out}
use Rattle.items.specs.declared.Item.{Item}
use Rattle.items.specs.declared.Cursor.{Cursor}
use Rattle.items.specs.Walk.{cursor}
use Rattle.settings.specs.declared.Settings.{Settings}
use Rattle.settings.specs.declared.Change.{Change}
use Rattle.settings.specs.Settings.{channel_limit, default_settings, zero_settings, applied}
use Rattle.dated.specs.declared.Dated.{Dated}
use Rattle.dated.specs.declared.Dates.{Dates}
use Rattle.dated.specs.Dated.{noted, dated_table, zero_dated, first_dates, root_defined, all_cleared, settled_at, settled_in}
use Rattle.dated.proofs.Tables.{Timely, timely_first, timely_longer, timely_set, timely_root, timely_cleared, table_long, table_begins, table_set, table_at}
use Rattle.layout.specs.declared.Layout.{Layout}
use Rattle.layout.specs.Measure.{More}
use Rattle.layout.proofs.Laws.{Summing, summing_more}
use Rattle.standing.specs.declared.Standing.{Standing}
use Rattle.effects.specs.Effects.{standing_after}
use Rattle.stretch.specs.declared.Stretch.{Stretch}
use Rattle.stretch.specs.Stretch.{stretch_of}
use Rattle.pass.specs.declared.Asked.{Asked}
use Rattle.pass.specs.declared.Met.{Met}
use Rattle.verdict.specs.Verdict.{state, carried}
use Rattle.verdict.proofs.Settled.{carried-count, carried-all, carried_one}
use Rattle.verdict.specs.Reached.{Reached}
use Rattle.pass.specs.Passing.{Scanning}
use Rattle.pass.proofs.Scans.{scanning_on}
use Rattle.pass.proofs.Turns.{Facing, facing_later, facing_goes}
use Rattle.pass.proofs.Stretches.{InGroup, group_law, stretch-on}

pub record Passing (s : List ℕ) (q : Asked) (table : List Dated) (dates : Dates) (c : Cursor) (st : Standing) (m : Met) : Type 0 where
  pub full : length table ≡ channel_limit
  pub kept : Timely (c.at + 1) dates table
  pub pass : Scanning s q (settled_in st.root dates table) c st m

pub passing_from : {s : List ℕ} {q : Asked} {c : Cursor} {st : Standing} {m : Met} {table : List Dated} {dates : Dates} → table ≡ dated_table → dates ≡ first_dates → Scanning s q (replicate channel_limit st.root) c st m → Passing s q table dates c st m
passing_from {s} {q} {c} {st} {m} et ed p =
    rw (et, ed)
    (record {
      full = length-replicate channel_limit (noted 0 default_settings);
      kept = timely_longer timely_first (omega arith);
      pass = subst (λ (u : List Settings). Scanning s q u c st m) (sym (table_begins st.root)) p;
    })

module _ {s : List ℕ} {q : Asked} {table : List Dated} {dates : Dates} {c : Cursor} {st : Standing} {m : Met} (p : Passing s q table dates c st m) where
  -- What stands for all channels.
  abbrev stands : List Settings
  stands = settled_in st.root dates table

  pub stands-full : length stands ≡ channel_limit
  stands-full = table_long st.root dates table ∙ p.full

  stands_at : {k : ℕ} → k < channel_limit → get_or stands k zero_settings ≡ settled_at st.root dates (get_or table k zero_dated)
  stands_at {k = k} h = table_at st.root dates k table zero_dated zero_settings (rw p.full h)

  stands_set : (k : ℕ) (v : Settings) → set stands k v ≡ settled_in st.root dates (set table k (noted dates.now v))
  stands_set k v = sym (table_set st.root dates k table v p.kept.sound)

  -- The same cursor, however it is kept.
  pub passing_at : {d : Cursor} → d ≡ c → Passing s q table dates d st m
  passing_at e = subst (λ (x : Cursor). Passing s q table dates x st m) (sym e) p

  -- ---- behind an item

  module _ {i : Item} {d : Cursor} {e : Result Effect Fault} (t : Facing s q stands c st m i d e) where
    room : c.at + 1 + 1 < 2 ^ 32
    room = omega (arith, facing_later t, p.pass.long)

    on : c.at + 1 + 1 ≤ d.at + 1
    on = omega (arith, facing_later t)

    -- Every record is as it was.
    pub passing_on : {st' : Standing} {m' : Met} → (st'.root ≡ st.root) × Scanning s q stands d st' m' → Passing s q table dates d st' m'
    passing_on {st' = st'} {m' = m'} k =
        record {
          full = p.full;
          kept = timely_longer p.kept (omega (arith, on));
          pass = subst (λ (r : Settings). Scanning s q (settled_in r dates table) d st' m') (sym k.0) k.1;
        }

    -- The effect carried out, by what it is.
    does : {f g : Effect} → e ≡ Ok f → f ≡ g → carried s (state st stands t.before.met) e ≡ carried s (state st stands t.before.met) (Ok g)
    does a b = ap (carried s (state st stands t.before.met)) (a ∙ ap Ok b)

    pub passing_count : {f : Effect} {n : ℕ} {st' : Standing} {dates' : Dates} → e ≡ Ok f → f ≡ Effect.Count n → st' ≡ standing_after st (Ok f) → dates' ≡ all_cleared dates → Passing s q table dates' d st' m
    passing_count {n = n} {st' = st'} a b w ed =
        let v = w ∙ ap (λ (x : Effect). standing_after st (Ok x)) b in
        rw ed
        (record {
          full = p.full;
          kept = timely_longer (timely_cleared p.kept room) on;
          pass = subst (λ (r : Settings). Scanning s q (settled_in r (all_cleared dates) table) d st' m) (sym (ap (λ (x : Standing). x.root) v))
              (facing_goes t v (does a b ∙ carried-count s st dates table t.before.met p.kept p.full n));
        })

    pub passing_all : {f : Effect} {ch : Change} {st' : Standing} {dates' : Dates} → e ≡ Ok f → f ≡ Effect.All ch → st' ≡ standing_after st (Ok (Effect.All ch)) → dates' ≡ root_defined ch dates → Passing s q table dates' d st' m
    passing_all {ch = ch} {st' = st'} a b w ed =
        rw ed
        (record {
          full = p.full;
          kept = timely_longer (timely_root p.kept room ch) on;
          pass = subst (λ (r : Settings). Scanning s q (settled_in r (root_defined ch dates) table) d st' m) (sym (ap (λ (x : Standing). x.root) w))
              (facing_goes t w (does a b ∙ carried-all s st dates table t.before.met p.kept p.full ch room));
        })

    -- The record of a channel, brought up to date and changed.
    abbrev changed : ℕ → Change → Dated
    changed channel ch = noted dates.now (applied ch (settled_at st.root dates (get_or table channel zero_dated)))

    one_set : {f : Effect} {channel : ℕ} {ch : Change} → e ≡ Ok f → f ≡ Effect.One channel ch → Scanning s q (settled_in st.root dates (set table channel (changed channel ch))) d st m
    one_set {channel = channel} {ch = ch} a b = facing_goes t refl (does a b ∙ carried_one s st dates table t.before.met p.kept p.full channel ch)

    pub passing_one : {f : Effect} {channel : ℕ} {ch : Change} {stood v : Settings} {x : Dated} → e ≡ Ok f → f ≡ Effect.One channel ch
        → stood ≡ settled_at st.root dates (get_or table channel zero_dated) → v ≡ applied ch stood → x ≡ noted dates.now v
        → Passing s q (set table channel x) dates d st m
    passing_one {channel = channel} {ch = ch} a b es ev ex =
        rw (ex ∙ ap (noted dates.now) (ev ∙ ap (applied ch) es))
        (record {
          full = length-set table channel (changed channel ch) ∙ p.full;
          kept = timely_longer (timely_set p.kept channel (changed channel ch).settings) (omega (arith, on));
          pass = one_set a b;
        })

    -- A channel that has no record.
    pub passing_outside : {f : Effect} {channel : ℕ} {ch : Change} → e ≡ Ok f → f ≡ Effect.One channel ch → channel_limit ≤ channel → Passing s q table dates d st m
    passing_outside {channel = channel} {ch = ch} a b h =
        passing_on (refl, subst (λ (u : List Dated). Scanning s q (settled_in st.root dates u) d st m) (set_out table channel (changed channel ch) (rw p.full h)) (one_set a b))

  -- ---- behind the definitions at the front of a group

  pub passing_group : {a : Stretch} {x : Dated} (k : ℕ) → InGroup c.within k → k < channel_limit → eqb st.counted 0 ≡ false
      → a ≡ stretch_of s c st.little st.root (settled_at st.root dates (get_or table k zero_dated)) → x ≡ noted dates.now a.settings
      → Passing s q (set table k x) dates (cursor a.at c.within) st m
  passing_group {a = a} k g h z e ex =
      let held = settled_at st.root dates (get_or table k zero_dated) in
      let few : k < length stands = rw stands-full h in
      let same : stands ≡ set stands k held = sym (ap (set stands k) (sym (stands_at h)) ∙ set-get_or stands k zero_settings) in
      rw ex
      (record {
        full = length-set table k (noted dates.now a.settings) ∙ p.full;
        kept = timely_longer (timely_set p.kept k a.settings) (omega (arith, stretch-on s c st.little st.root held e));
        pass = scanning_on p.pass
            (subst (λ (u : List Settings). Reached s (state st u p.pass.met) (cursor a.at c.within)) (stands_set k a.settings)
            (group_law s st p.pass.met stands k few z c.within g c.at held a e
            (subst (λ (u : List Settings). Reached s (state st u p.pass.met) c) same p.pass.reached)));
      })

  -- ---- the channels of a frame

  pub settled_more : {channel n i : ℕ} {l : Layout} {v : Settings} → Summing channel stands n i l → (m' : Layout) → i < n → v ≡ settled_at st.root dates (get_or table i zero_dated) → More i channel v l m' → Summing channel stands n (i + 1) m'
  settled_more {channel = channel} {i = i} {l = l} u m' h ev g =
      summing_more u m' h (subst (λ (y : Settings). More i channel y l m') (ev ∙ sym (stands_at (omega (arith, u.few)))) g)

  pub settled_seen : {k : ℕ} {v : Settings} → k ≡ min q.channel (channel_limit - 1) → v ≡ settled_at st.root dates (get_or table k zero_dated) → v ≡ get_or stands (min q.channel (channel_limit - 1)) zero_settings
  settled_seen ek ev = ev ∙ sym (stands_at (omega (arith, ek))) ∙ ap (λ (j : ℕ). get_or stands j zero_settings) ek
