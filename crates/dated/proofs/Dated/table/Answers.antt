-- A repeat of the default record, which `default` answers.
use Rattle.std.proofs.Common.{replicate, ap}
use Rattle.settings.specs.declared.Settings.{Settings}
use Rattle.settings.specs.Settings.{channel_limit}
use Rattle.dated.specs.Dated.{noted}
use Rattle.dated.proofs.Dated.table.Goals as goal

pub returns : goal.returns
returns c = ap (λ (s : Settings). replicate channel_limit (noted 0 s)) c.default-settings.ensures
