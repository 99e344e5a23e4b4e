-- Laws of what stands for the channels whose records words hold.
--     layout-more      the layout of channels, one channel more
--     channels-few     how many have records
--     laid_out         the layout of all of them
--     take-there       no more are taken than there are
-- Assumes nothing.
use mathlib.Core.Path.{◌≡◌, sym, ap, subst, ◌∙◌}
use mathlib.Core.List.{List}
use Prim.Native.Nat.{ℕ, ◌+◌, ◌≤◌, ◌<◌, min}
use native.Mathlib.Omega.{arith}
use native.Mathlib.Decide.{dec_lt}
use lib.ListN.{length, take, get_or}
use lib.Seq.{take_all}
use Rattle.settings.specs.declared.Settings.{Settings}
use Rattle.settings.specs.Settings.{channel_limit, zero_settings}
use Rattle.dated.specs.declared.Dated.{Dated}
use Rattle.dated.specs.declared.Dates.{Dates}
use Rattle.dated.specs.Dated.{zero_dated, settled_at, settled_in}
use Rattle.dated.proofs.Tables.{table_at}
use Rattle.layout.specs.declared.Layout.{Layout}
use Rattle.layout.specs.Measure.{layout_of, More}
use Rattle.layout.proofs.Laws.{Summing, summing_more, summed_up}

pub layout-more : (root : Settings) (d : Dates) (t : List Dated) {channel n i : ℕ} {l : Layout} {v : Settings} → n ≤ length t → Summing channel (settled_in root d t) n i l → (m : Layout) → i < n
    → v ≡ settled_at root d (get_or t i zero_dated) → More i channel v l m → Summing channel (settled_in root d t) n (i + 1) m
layout-more root d t {channel = channel} {i = i} {l = l} f p m h ev g =
    summing_more p m h (subst (λ (y : Settings). More i channel y l m) (ev ∙ sym (table_at root d i t zero_dated zero_settings (omega arith))) g)

-- There are so many channels and so many records.
pub channels-few : {n : ℕ} (m k : ℕ) → n ≡ min (min m channel_limit) k → (n ≤ channel_limit) × (n ≤ k)
channels-few m k e = (omega arith, omega arith)

pub take-there : (m : ℕ) (cs : List Settings) → take (min m (length cs)) cs ≡ take m cs
take-there m cs = by (dec_lt m (length cs))
  where
    by : Dec (m < length cs) → take (min m (length cs)) cs ≡ take m cs
    by (yes h) = let e : min m (length cs) ≡ m = omega arith in rw e
    by (no h) = let e : min m (length cs) ≡ length cs = omega arith in rw e (take_all (length cs) cs (omega arith) ∙ sym (take_all m cs (omega arith)))

pub laid_out : {table : List Settings} {n i held : ℕ} {l : Layout} → Summing 0 table n i l → (count : ℕ) → n ≡ min (min count channel_limit) held → length table ≡ held → n ≤ i → l ≡ layout_of 0 (take (min count channel_limit) table)
laid_out {table = table} p count e long h =
    summed_up p (min (min count channel_limit) (length table)) (e ∙ ap (min (min count channel_limit)) (sym long)) h ∙ ap (layout_of 0) (take-there (min count channel_limit) table)
