-- The blocks still to come of a sequence, and the sequences still to come, stored from here on, give the wanted buffer.
use Rattle.frames.specs.Channels.{settings_of}
use Rattle.frames.proofs.Coming.{Blocks, Sequences}
use Rattle.frames.proofs.put_blocks.Given as goal

abbrev pub invariant-loop-i : goal.invariant-loop-i
invariant-loop-i l = Blocks (settings_of l.channels) l.w l.initial.place l.initial.next l.initial.out l.i l.place l.next l.out

abbrev pub invariant-loop-sequence : goal.invariant-loop-sequence
invariant-loop-sequence l = Sequences (settings_of l.channels) l.sequences l.w l.initial.out l.at l._sequence l.place l.next l.out
