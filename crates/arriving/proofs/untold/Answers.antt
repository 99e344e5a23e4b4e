-- Its frame alone is another.
use Rattle.std.proofs.Common.{ap}
use Rattle.arriving.specs.Arriving.{link_with}
use Rattle.arriving.proofs.untold.Goals as goal

pub returns : goal.returns
returns c = ap (link_with _ _) c.no_waveform-frame.ensures
