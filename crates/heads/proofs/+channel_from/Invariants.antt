-- The octets still allowed fall.
use Rattle.heads.proofs.+channel_from.Given as goal

abbrev pub decreases-channel_from : goal.decreases-channel_from
decreases-channel_from l = l.allowed
