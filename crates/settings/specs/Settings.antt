-- The settings of a channel (document 01, "Attributes"): defaults, limits, and one attribute changed.
use Rattle.std.specs.Prelude.{List, map, ℕ, pos, negsuc, replicate}
use Rattle.settings.specs.declared.Settings.{Settings}
use Rattle.settings.specs.declared.Change.{Change}
use Rattle.settings.specs.declared.Change.TheVariants.{Block, Class, Lead, DataType, Interval, Resolution, Offset, Null}

-- The channels of a frame at most, and so the number of records.
abbrev pub channel_limit : ℕ
channel_limit = 256

-- The largest block length.
abbrev pub block_limit : ℕ
block_limit = 1_048_576

-- The last data type.
abbrev pub last_data_type : ℕ
last_data_type = 8

-- The last unit of an interval.
abbrev pub last_interval_unit : ℕ
last_interval_unit = 2

-- The last unit of a resolution.
abbrev pub last_resolution_unit : ℕ
last_resolution_unit = 22

-- The column "Default" of the table. Offset and null of width 0 are not defined.
abbrev pub default_settings : Settings
default_settings =
    record {
      block = 1;
      class = 0;
      lead = 0;
      datatype = 0;
      interval = record { unit = 0; exponent = pos 0; mantissa = pos 1000 };
      resolution = record { unit = 0; exponent = negsuc 5; mantissa = pos 1 };
      offset = record { width = 0; bits = 0 };
      null = record { width = 0; bits = 0 };
    }

-- All 256 channel records start from the defaults.
abbrev pub default_table : List Settings
default_table = replicate channel_limit default_settings

-- What the language reads past the end of an array of settings: every number 0. Reads are in range, so that it does not matter.
abbrev pub zero_settings : Settings
zero_settings =
    record {
      block = 0;
      class = 0;
      lead = 0;
      datatype = 0;
      interval = record { unit = 0; exponent = pos 0; mantissa = pos 0 };
      resolution = record { unit = 0; exponent = pos 0; mantissa = pos 0 };
      offset = record { width = 0; bits = 0 };
      null = record { width = 0; bits = 0 };
    }

-- A record with one attribute changed.
abbrev pub applied : Change → Settings → Settings
applied (Block n) s = record { block = n; class = s.class; lead = s.lead; datatype = s.datatype; interval = s.interval; resolution = s.resolution; offset = s.offset; null = s.null }
applied (Class n) s = record { block = s.block; class = n; lead = s.lead; datatype = s.datatype; interval = s.interval; resolution = s.resolution; offset = s.offset; null = s.null }
applied (Lead n) s = record { block = s.block; class = s.class; lead = n; datatype = s.datatype; interval = s.interval; resolution = s.resolution; offset = s.offset; null = s.null }
applied (DataType n) s = record { block = s.block; class = s.class; lead = s.lead; datatype = n; interval = s.interval; resolution = s.resolution; offset = s.offset; null = s.null }
applied (Interval x) s = record { block = s.block; class = s.class; lead = s.lead; datatype = s.datatype; interval = x; resolution = s.resolution; offset = s.offset; null = s.null }
applied (Resolution x) s = record { block = s.block; class = s.class; lead = s.lead; datatype = s.datatype; interval = s.interval; resolution = x; offset = s.offset; null = s.null }
applied (Offset x) s = record { block = s.block; class = s.class; lead = s.lead; datatype = s.datatype; interval = s.interval; resolution = s.resolution; offset = x; null = s.null }
applied (Null x) s = record { block = s.block; class = s.class; lead = s.lead; datatype = s.datatype; interval = s.interval; resolution = s.resolution; offset = s.offset; null = x }

-- All records with one attribute changed.
unfoldable pub all_applied : Change → List Settings → List Settings
all_applied c t = map (applied c) t
