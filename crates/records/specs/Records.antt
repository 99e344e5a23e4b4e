-- What is done with all records of a frame, kept in words that a caller lends. None of it is a rule of document 01.
use Rattle.std.specs.Prelude.{◌≡◌, List, [], ◌∷◌, ◌⊎◌, ℕ, ◌+◌, ◌*◌, ◌≤◌, ◌<◌, leb, length, get_or, take}
use Rattle.octets.specs.Pick.{pick}
use Rattle.settings.specs.declared.Settings.{Settings}
use Rattle.dated.specs.declared.Dated.{Dated}
use Rattle.dated.specs.declared.Dates.{Dates}
use Rattle.dated.specs.declared.Times.{Times}
use Rattle.dated.specs.Dated.{noted, settled_in, refreshed}
use Rattle.words.specs.Words.{record_words, record_by, records_held, records_in, below_in}
use Rattle.layout.specs.declared.Layout.{Layout}
use Rattle.layout.specs.Frame.{octets_below}
use Rattle.layout.specs.Measure.{layout_of}

-- What stands for the channels whose records words hold.
abbrev pub channels_in : Settings → Dates → List ℕ → List Settings
channels_in root d u = settled_in root d (records_in u)

-- A record of the time before the first item: whatever it says, the root settings stand for its channel.
abbrev pub outdated : Dated → Dated
outdated x = noted 0 x.settings

-- What is past the last whole record is the same.
pub record PastKept (u v : List ℕ) : Type 0 where
  pub same : (m : ℕ) → records_held u * record_words ≤ m → get_or v m 0 ≡ get_or u m 0

-- The first n records are brought up to date, with each the octets below its channel, and l is their channels' layout. What is kept with the other
-- records, and what is past the last, is the same.
pub record Refreshed (u : List ℕ) (n : ℕ) (root : Settings) (d : Dates) (l : Layout) (v : List ℕ) : Type 0 where
  pub layout : l ≡ layout_of 0 (take n (channels_in root d u))
  pub records : records_in v ≡ refreshed n root d (records_in u)
  pub long : length v ≡ length u
  pub below : (k : ℕ) → k < n → k < records_held u → below_in v k ≡ octets_below k (channels_in root d u)
  pub others : (k : ℕ) → n ≤ k → below_in v k ≡ below_in u k
  pub past : PastKept u v

-- The settings of a record's words.
unfoldable pub settings_by : List ℕ → Settings
settings_by w = (record_by (λ a. get_or w a 0)).settings

-- When the root last defined the attribute of each number. The record's own time is always behind.
abbrev pub since_by : Times → List ℕ
since_by t =
    t.block ∷ t.class ∷ t.lead ∷ t.datatype ∷ t.interval ∷ t.interval ∷ t.interval ∷ t.resolution ∷ t.resolution ∷ t.resolution
    ∷ t.offset ∷ t.offset ∷ t.null ∷ t.null ∷ 4294967295 ∷ []

-- The words v are the words u with those of the first n of w, from place i on, whose times s are not before `from`.
pub record Overtaken (u : List ℕ) (i : ℕ) (w s : List ℕ) (from n : ℕ) (v : List ℕ) : Type 0 where
  pub long : length v ≡ length u
  pub inside : (a : ℕ) → a < n → get_or v (i + a) 0 ≡ pick (leb from (get_or s a 0)) (get_or w a 0) (get_or u (i + a) 0)
  pub outside : (m : ℕ) → (m < i) ⊎ (i + n ≤ m) → get_or v m 0 ≡ get_or u m 0
