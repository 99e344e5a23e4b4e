-- By what is around.
use Rattle.arriving.proofs.Laws.{lasts_definite}
use Rattle.std.proofs.Common.{◌∙◌}
use Rattle.arriving.proofs.lasts_in.Goals as goal

pub returns-in-Definite : goal.returns-in-Definite
returns-in-Definite c = c.between.ensures ∙ lasts_definite c.args.count c.args.left _ _ c.in-Definite.is
