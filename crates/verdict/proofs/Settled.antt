-- What an effect does, where the channels' records are kept as they stood at a time.
--     carried-count, carried-all, carried_one    tag 05, a definition outside a group, a definition in one
-- Assumes nothing.
use Rattle.std.specs.Prelude.{Ok}
use Rattle.effects.specs.declared.Effect.{Effect}
use mathlib.Core.Path.{◌≡◌, sym, ap, ◌∙◌}
use mathlib.Core.List.{List}
use Prim.Native.Nat.{ℕ, ◌+◌, ◌^◌, ◌≤◌, ◌<◌}
use native.Mathlib.Omega.{arith}
use native.Mathlib.Decide.{dec_lt}
use lib.ListN.{length, get_or, set, replicate}
use lib.Seq.{set_out}
use Rattle.settings.specs.declared.Settings.{Settings}
use Rattle.settings.specs.declared.Change.{Change}
use Rattle.settings.specs.Settings.{channel_limit, zero_settings, applied}
use Rattle.dated.specs.declared.Dated.{Dated}
use Rattle.dated.specs.declared.Dates.{Dates}
use Rattle.dated.specs.Dated.{noted, zero_dated, root_defined, all_cleared, settled_at, settled_in}
use Rattle.dated.proofs.Tables.{Timely, table_long, table_root, table_cleared, table_set, table_at}
use Rattle.layout.specs.Frame.{Frame}
use Rattle.standing.specs.declared.Standing.{Standing}
use Rattle.effects.specs.Effects.{standing_after}
use Rattle.verdict.specs.Verdict.{State, state, goes, one_changed, carried}

module _ (s : List ℕ) (st : Standing) (dates : Dates) (table : List Dated) (fs : List Frame) {b : ℕ} (k : Timely b dates table) (full : length table ≡ channel_limit) where
  -- What stands for all channels.
  abbrev stands : List Settings
  stands = settled_in st.root dates table

  abbrev here : State
  here = state st stands fs

  pub carried-count : (n : ℕ) → carried s here (Ok (Effect.Count n)) ≡ goes (state (standing_after st (Ok (Effect.Count n))) (settled_in st.root (all_cleared dates) table) fs)
  unfolding carried
  carried-count n =
      ap (λ (u : List Settings). goes (state (standing_after st (Ok (Effect.Count n))) u fs))
      (ap (λ (m : ℕ). replicate m st.root) (sym full) ∙ sym (table_cleared st.root dates k))

  pub carried-all : (ch : Change) → b + 1 < 2 ^ 32 → carried s here (Ok (Effect.All ch)) ≡ goes (state (standing_after st (Ok (Effect.All ch))) (settled_in (applied ch st.root) (root_defined ch dates) table) fs)
  unfolding carried
  carried-all ch low = ap (λ (u : List Settings). goes (state (standing_after st (Ok (Effect.All ch))) u fs)) (sym (table_root st.root dates k ch low))

  -- One record brought up to date and changed; a channel that has no record changes none.
  one_noted : (channel : ℕ) (ch : Change) → Dec (channel < channel_limit)
      → one_changed channel (applied ch) stands ≡ settled_in st.root dates (set table channel (noted dates.now (applied ch (settled_at st.root dates (get_or table channel zero_dated)))))
  unfolding one_changed
  one_noted channel ch (yes h) =
      ap (λ (y : Settings). set stands channel (applied ch y)) (table_at st.root dates channel table zero_dated zero_settings (rw full h))
      ∙ sym (table_set st.root dates channel table (applied ch (settled_at st.root dates (get_or table channel zero_dated))) k.sound)
  one_noted channel ch (no h) =
      let out : channel_limit ≤ channel = omega arith in
      set_out stands channel (applied ch (get_or stands channel zero_settings)) (rw (table_long, full) out)
      ∙ ap (settled_in st.root dates) (sym (set_out table channel (noted dates.now (applied ch (settled_at st.root dates (get_or table channel zero_dated)))) (rw full out)))

  pub carried_one : (channel : ℕ) (ch : Change) → carried s here (Ok (Effect.One channel ch)) ≡ goes (state st (settled_in st.root dates (set table channel (noted dates.now (applied ch (settled_at st.root dates (get_or table channel zero_dated)))))) fs)
  unfolding carried
  carried_one channel ch = ap (λ (u : List Settings). goes (state st u fs)) (one_noted channel ch (dec_lt channel channel_limit))
