-- Channel by channel, each of them holding the root settings.
use Prim.Native.Nat.{◌-◌}
use lib.ListN.{replicate}
use Rattle.settings.specs.Settings.{channel_limit}
use Rattle.layout.proofs.Laws.{Summing}
use Rattle.pass.proofs.root_layout.Given as goal

abbrev pub invariant-loop-i : goal.invariant-loop-i
invariant-loop-i l = Summing l.channel (replicate channel_limit l.root) l.n l.i l.l

abbrev pub decreases-loop-i : goal.decreases-loop-i
decreases-loop-i l = l.n - l.i
