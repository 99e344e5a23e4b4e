-- The groups still to come, stored from here on, give the wanted buffer.
use Rattle.frames.proofs.Coming.{Grouped}
use Rattle.maker.specs.Given.{channels_made}
use Rattle.maker.proofs.put_rows.Given as goal

abbrev pub invariant-loop-index : goal.invariant-loop-index
invariant-loop-index l = Grouped (channels_made l.n l.numbers l.bits) l.initial.out l.at l.index l.next l.out
