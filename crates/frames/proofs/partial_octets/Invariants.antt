-- What is left behind the blocks so far leaves the same.
use Rattle.frames.specs.Channels.{settings_of}
use Rattle.there.proofs.Partial.{Cutting}
use Rattle.frames.proofs.partial_octets.Given as goal

abbrev pub invariant-loop-i : goal.invariant-loop-i
invariant-loop-i l = Cutting (settings_of l.channels) l.rest l.i l.left
