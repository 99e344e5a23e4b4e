-- The loop's invariant: the channels that are left decide.
use Rattle.strides.proofs.Channels.{Checking}
use Rattle.strides.proofs.all_lie.Given as goal

abbrev pub invariant-loop-channel : goal.invariant-loop-channel
invariant-loop-channel l = Checking l.size l.t l.q l.channels l.channel
