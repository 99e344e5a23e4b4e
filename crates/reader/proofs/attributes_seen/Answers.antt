-- The settings are reported; the start pointer is read back from its bits.
use borrow.Author.Rules.{rules}
use mir.Syntax.{w64}
use mir.Val.{SFits}
use mir.Facts.{to_z-of_z}
use Rattle.reader.proofs.attributes_seen.Goals as goal

pub returns : goal.returns
returns c =
    let in64 : SFits w64 c.args.v.start =
    search rules in
    let v = c.args.v in
    λ k. record { start = to_z-of_z (in64) k; channels = v.channels; sequences = v.sequences; settings = c.reported-settings.ensures k }
