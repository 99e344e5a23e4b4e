-- The loop's invariant: the samples of the channels that are left give the buffer that is wanted.
use Rattle.strides.proofs.Channels.{Laying}
use Rattle.strides.proofs.lay_all.Given as goal

abbrev pub invariant-loop-channel : goal.invariant-loop-channel
invariant-loop-channel l = Laying l.s l.t l.q l.channels l.initial.out l.out l.channel l.at
