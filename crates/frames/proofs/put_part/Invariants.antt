-- The samples still to come of the sequence, stored from here on, give the wanted buffer.
use Rattle.frames.specs.Channels.{settings_of}
use Rattle.frames.proofs.Parting.{Parts}
use Rattle.frames.proofs.put_part.Given as goal

abbrev pub invariant-loop-i : goal.invariant-loop-i
invariant-loop-i l = Parts (settings_of l.channels) l.w l.from l.rest l.at l.initial.out l.i l.place l.left l.next l.out
