-- The channels of a frame whose settings stand in records that words hold.
use Rattle.std.specs.Prelude.{List, take}
use Rattle.settings.specs.declared.Settings.{Settings}
use Rattle.words.specs.Words.{held_in}
use Rattle.frames.specs.declared.channels.Channels.{Channels}

abbrev pub settings_of : Channels → List Settings
settings_of c = take c.count (held_in c.words.now)
