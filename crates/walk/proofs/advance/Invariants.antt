-- Each turn is a law of the walk: what is left from where it stands gives the answer.
use Rattle.std.proofs.Common.{◌-◌, length}
use Rattle.walk.proofs.Comes.{head_at, Comes}
use Rattle.walk.proofs.advance.Given as goal

abbrev pub invariant-loop-item : goal.invariant-loop-item
invariant-loop-item l = Comes l.s l.fn.h l.fn.t (head_at l.c l.st l.dates l.items l.frames) l.t

abbrev pub decreases-loop-item : goal.decreases-loop-item
decreases-loop-item l = length l.s - l.c.at
