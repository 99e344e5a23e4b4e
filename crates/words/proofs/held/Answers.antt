-- The record's settings.
use mathlib.Core.Path.{ap}
use Rattle.dated.specs.declared.Dated.{Dated}
use Rattle.words.proofs.held.Goals as goal

pub returns : goal.returns
returns c = ap (λ (x : Dated). x.settings) c.get-record.ensures
