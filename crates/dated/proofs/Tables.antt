-- Laws of a table of records kept as they stood, and of what stands for its channels.
--     Timely, timely-..         the times are sound, and no record is after now
--     table_begins, table_cleared    every channel has the root settings: before the first item, and after tag 05
--     table_root            a definition outside a group
--     table_set, table_at   a record stored, and one looked at
--     default_at            each place of the table holds the default settings
-- Assumes nothing.
use Rattle.std.proofs.Common.{◌≡◌, ℕ, zero, suc, ◌+◌, ◌^◌, ◌<◌, ◌≤◌, List, [], ◌∷◌, map, length, get_or, set, replicate, refl, ap, ◌∙◌, le_of_suc-le-suc, not-suc-le-zero, arith}
use lib.ListN.{get_or-replicate}
use Rattle.settings.specs.declared.Settings.{Settings}
use Rattle.settings.specs.declared.Change.{Change}
use Rattle.settings.specs.Settings.{channel_limit, default_settings, applied, all_applied}
use Rattle.dated.specs.declared.Dated.{Dated}
use Rattle.dated.specs.declared.Dates.{Dates}
use Rattle.dated.specs.Dated.{noted, dated_table, first_dates, root_defined, all_cleared, settled_at, settled_in}
use Rattle.dated.proofs.Laws.{Sound, sound_first, sound_root, sound_cleared, now_grows, settled_now, settled_root, settled_cleared}

-- ---- no record is after a time

pub data Until (now : ℕ) : List Dated → Type 0 where
  none : Until now []
  more : {x : Dated} {t : List Dated} → x.at ≤ now → Until now t → Until now (x ∷ t)

until_later : {n m : ℕ} {t : List Dated} → n ≤ m → Until n t → Until m t
until_later l none = none
until_later {m = m} l (more {x} h u) = let k : x.at ≤ m = omega (arith, h, l) in more {x = x} k (until_later l u)

until_set : {n : ℕ} {t : List Dated} (k : ℕ) (x : Dated) → x.at ≤ n → Until n t → Until n (set t k x)
until_set k x h none = none
until_set zero x h (more l u) = more h u
until_set (suc k) x h (more l u) = more l (until_set k x h u)

until_replicate : (n m : ℕ) (x : Dated) → x.at ≤ n → Until n (replicate m x)
until_replicate n zero x h = none
until_replicate n (suc m) x h = more h (until_replicate n m x h)

-- The times are sound, no record is after now, and now is no later than a bound.
pub record Timely (bound : ℕ) (d : Dates) (t : List Dated) : Type 0 where
  pub sound : Sound d
  pub until : Until d.now t
  pub low : d.now ≤ bound

pub timely_first : Timely 1 first_dates dated_table
timely_first = record { sound = sound_first; until = until_replicate 1 channel_limit (noted 0 default_settings) (omega arith); low = omega arith }

module _ {b : ℕ} {d : Dates} {t : List Dated} (k : Timely b d t) where
  pub timely_longer : {b' : ℕ} → b ≤ b' → Timely b' d t
  timely_longer h = record { sound = k.sound; until = k.until; low = omega (arith, k.low) }

  pub timely_set : (i : ℕ) (s : Settings) → Timely b d (set t i (noted d.now s))
  timely_set i s = record { sound = k.sound; until = until_set i (noted d.now s) (omega arith) k.until; low = k.low }

  module _ (low : b + 1 < 2 ^ 32) where
    room : d.now + 1 < 2 ^ 32
    room = omega (arith, low, k.low)

    pub timely_root : (c : Change) → Timely (b + 1) (root_defined c d) t
    timely_root c = record { sound = sound_root d room c k.sound; until = until_later (omega (arith, now_grows d room)) k.until; low = omega (arith, now_grows d room, k.low) }

    pub timely_cleared : Timely (b + 1) (all_cleared d) t
    timely_cleared = record { sound = sound_cleared d room k.sound; until = until_later (omega (arith, now_grows d room)) k.until; low = omega (arith, now_grows d room, k.low) }

-- ---- what stands for the channels

module _ (root : Settings) (d : Dates) where
  pub table_long : (t : List Dated) → length (settled_in root d t) ≡ length t
  unfolding settled_in
  table_long [] = refl
  table_long (x ∷ t) = ap suc (table_long t)

  root_all : (c : Change) {t : List Dated} → d.now + 1 < 2 ^ 32 → Sound d → Until d.now t → settled_in (applied c root) (root_defined c d) t ≡ all_applied c (settled_in root d t)
  unfolding settled_in all_applied
  root_all c low s none = refl
  root_all c low s (more {x} h u) = (λ i. settled_root root d x h c low s i ∷ root_all c low s u i)

  cleared_all : {t : List Dated} → Until d.now t → settled_in root (all_cleared d) t ≡ replicate (length t) root
  unfolding settled_in
  cleared_all none = refl
  cleared_all (more {x} h u) = (λ i. settled_cleared root d x h i ∷ cleared_all u i)

  module _ {b : ℕ} {t : List Dated} (k : Timely b d t) where
    pub table_root : (c : Change) → b + 1 < 2 ^ 32 → settled_in (applied c root) (root_defined c d) t ≡ all_applied c (settled_in root d t)
    table_root c low = root_all c (omega (arith, low, k.low)) k.sound k.until

    pub table_cleared : settled_in root (all_cleared d) t ≡ replicate (length t) root
    table_cleared = cleared_all k.until

  map-set : (k : ℕ) (t : List Dated) (x : Dated) → map (settled_at root d) (set t k x) ≡ set (map (settled_at root d) t) k (settled_at root d x)
  map-set k [] x = refl
  map-set zero (y ∷ t) x = refl
  map-set (suc k) (y ∷ t) x = ap (λ (u : List Settings). settled_at root d y ∷ u) (map-set k t x)

  pub table_set : (k : ℕ) (t : List Dated) (s : Settings) → Sound d → settled_in root d (set t k (noted d.now s)) ≡ set (settled_in root d t) k s
  unfolding settled_in
  table_set k t s e = map-set k t (noted d.now s) ∙ ap (set (map (settled_at root d) t) k) (settled_now root d s e)

  pub table_at : (k : ℕ) (t : List Dated) (x : Dated) (y : Settings) → k < length t → get_or (settled_in root d t) k y ≡ settled_at root d (get_or t k x)
  unfolding settled_in
  table_at k [] x y h = absurd (not-suc-le-zero h)
  table_at zero (z ∷ t) x y h = refl
  table_at (suc k) (z ∷ t) x y h = table_at k t x y (le_of_suc-le-suc h)

-- Before the first item every record is of a time that tag 05 has cleared.
first_all : (root s : Settings) (n : ℕ) → settled_in root first_dates (replicate n (noted 0 s)) ≡ replicate n root
unfolding settled_in settled_at
first_all root s zero = refl
first_all root s (suc n) = ap (λ (u : List Settings). root ∷ u) (first_all root s n)

pub table_begins : (root : Settings) → settled_in root first_dates dated_table ≡ replicate channel_limit root
table_begins root = first_all root default_settings channel_limit

-- Each place of the table holds the default settings.
pub default_at : (i : ℕ) (x : Dated) → i < channel_limit → (get_or dated_table i x).settings ≡ default_settings
default_at i x h = ap (λ (y : Dated). y.settings) (get_or-replicate channel_limit i (noted 0 default_settings) x h)
