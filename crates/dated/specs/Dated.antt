-- How a reader keeps what stands for a channel: as it stood at a time, with the times of the root's definitions. None of it is a rule of document 01;
-- that it says what document 01's rule says is proved.
use Rattle.std.specs.Prelude.{ℕ, zero, suc, ◌+◌, ◌%◌, ◌^◌, List, [], ◌∷◌, map, replicate, ◌==◌, nat_le}
use Rattle.octets.specs.Pick.{pick}
use Rattle.settings.specs.declared.Settings.{Settings}
use Rattle.settings.specs.declared.Change.{Change}
use Rattle.settings.specs.declared.Change.TheVariants.{Block, Class, Lead, DataType, Interval, Resolution, Offset, Null}
use Rattle.settings.specs.Settings.{channel_limit, default_settings, zero_settings}
use Rattle.dated.specs.declared.Dated.{Dated}
use Rattle.dated.specs.declared.Times.{Times}
use Rattle.dated.specs.declared.Dates.{Dates}

-- A record of a time.
abbrev pub noted : ℕ → Settings → Dated
noted at s = record { settings = s; at = at }

-- All 256 channel records start from the defaults, at the time before the first item.
abbrev pub dated_table : List Dated
dated_table = replicate channel_limit (noted 0 default_settings)

-- What is read past the last record: every number 0, and so of the time before the first item.
abbrev pub zero_dated : Dated
zero_dated = noted 0 zero_settings

-- No attribute was defined yet, and the first time is 1.
abbrev pub first_dates : Dates
first_dates =
    record {
      times = record { block = 0; class = 0; lead = 0; datatype = 0; interval = 0; resolution = 0; offset = 0; null = 0 };
      cleared = 0;
      now = 1;
    }

-- The time of one attribute.
abbrev pub timed : Change → ℕ → Times → Times
timed (Block n) now t = record { block = now; class = t.class; lead = t.lead; datatype = t.datatype; interval = t.interval; resolution = t.resolution; offset = t.offset; null = t.null }
timed (Class n) now t = record { block = t.block; class = now; lead = t.lead; datatype = t.datatype; interval = t.interval; resolution = t.resolution; offset = t.offset; null = t.null }
timed (Lead n) now t = record { block = t.block; class = t.class; lead = now; datatype = t.datatype; interval = t.interval; resolution = t.resolution; offset = t.offset; null = t.null }
timed (DataType n) now t = record { block = t.block; class = t.class; lead = t.lead; datatype = now; interval = t.interval; resolution = t.resolution; offset = t.offset; null = t.null }
timed (Interval n) now t = record { block = t.block; class = t.class; lead = t.lead; datatype = t.datatype; interval = now; resolution = t.resolution; offset = t.offset; null = t.null }
timed (Resolution n) now t = record { block = t.block; class = t.class; lead = t.lead; datatype = t.datatype; interval = t.interval; resolution = now; offset = t.offset; null = t.null }
timed (Offset n) now t = record { block = t.block; class = t.class; lead = t.lead; datatype = t.datatype; interval = t.interval; resolution = t.resolution; offset = now; null = t.null }
timed (Null n) now t = record { block = t.block; class = t.class; lead = t.lead; datatype = t.datatype; interval = t.interval; resolution = t.resolution; offset = t.offset; null = now }

-- A definition outside a group, and tag 05. The time starts again at 0 behind 2^32 - 1, which no file leads to.
abbrev pub root_defined : Change → Dates → Dates
root_defined c d = record { times = timed c d.now d.times; cleared = d.cleared; now = (d.now + 1) % 2 ^ 32 }

abbrev pub all_cleared : Dates → Dates
all_cleared d = record { times = d.times; cleared = d.now; now = (d.now + 1) % 2 ^ 32 }

-- What the root has defined since a record's time is the root's; every other attribute is as it stood.
abbrev pub settled_from : Settings → Times → Dated → Settings
settled_from root t x =
    record {
      block = pick (nat_le x.at t.block) root.block x.settings.block;
      class = pick (nat_le x.at t.class) root.class x.settings.class;
      lead = pick (nat_le x.at t.lead) root.lead x.settings.lead;
      datatype = pick (nat_le x.at t.datatype) root.datatype x.settings.datatype;
      interval = pick (nat_le x.at t.interval) root.interval x.settings.interval;
      resolution = pick (nat_le x.at t.resolution) root.resolution x.settings.resolution;
      offset = pick (nat_le x.at t.offset) root.offset x.settings.offset;
      null = pick (nat_le x.at t.null) root.null x.settings.null;
    }

-- What stands for a record's channel now: the root settings, where tag 05 came since; what stood, where nothing came since.
unfoldable pub settled_at : Settings → Dates → Dated → Settings
settled_at root d x =
    pick (nat_le x.at d.cleared) root
    (pick (x.at == d.now) x.settings
    (settled_from root d.times x))

-- What stands for all channels now.
unfoldable pub settled_in : Settings → Dates → List Dated → List Settings
settled_in root d t = map (settled_at root d) t

-- A record brought up to date: what stands for its channel, of now.
abbrev pub up_to_date : Settings → Dates → Dated → Dated
up_to_date root d x = noted d.now (settled_at root d x)

-- The first n records brought up to date.
unfoldable pub refreshed : ℕ → Settings → Dates → List Dated → List Dated
refreshed zero root d t = t
refreshed (suc n) root d [] = []
refreshed (suc n) root d (x ∷ t) = up_to_date root d x ∷ refreshed n root d t

-- What the records hold.
unfoldable pub held : List Dated → List Settings
held t = map (λ (x : Dated). x.settings) t
