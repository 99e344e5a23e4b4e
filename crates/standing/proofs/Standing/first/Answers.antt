-- The root settings are what `default` answers.
use mathlib.Core.Path.{ap}
use Rattle.settings.specs.declared.Settings.{Settings}
use Rattle.standing.specs.Standing.{first_standing, with_root}
use Rattle.standing.proofs.Standing.first.Goals as goal

pub returns : goal.returns
returns c = ap (λ (r : Settings). with_root r first_standing) c.default-root.ensures
