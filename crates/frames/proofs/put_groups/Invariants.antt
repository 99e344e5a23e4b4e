-- The groups still to come, stored from here on, give the wanted buffer.
use Rattle.frames.specs.Channels.{settings_of}
use Rattle.frames.proofs.Coming.{Grouped}
use Rattle.frames.proofs.put_groups.Given as goal

abbrev pub invariant-loop-i : goal.invariant-loop-i
invariant-loop-i l = Grouped (settings_of l.channels) l.initial.out l.at l.i l.next l.out
