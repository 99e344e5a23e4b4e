-- The test of the word that is read.
use mathlib.Core.Path.{ap}
use Rattle.kept.specs.Words.{flag_of}
use Rattle.kept.proofs.flag_at.Goals as goal

pub returns : goal.returns
returns c = ap flag_of c.word.ensures
