-- By the answer of the maker.
use mir.Facts.{to_z-of_z}
use Rattle.mfer.proofs.Handed.{made_handed}
use Rattle.mfer.proofs.mfer_make_frame.Goals as goal

pub returns : goal.returns
returns c =
    made_handed (to_z-of_z c.ranges.start) c.make_frame.ensures c.count_out.ensures
