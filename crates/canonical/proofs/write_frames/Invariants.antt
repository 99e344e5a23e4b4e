-- Frame after frame of the walk: what is written so far is the canonical file of the frames met so far.
use mathlib.Core.Path.{◌≡◌}
use Prim.Native.Nat.{◌-◌}
use lib.ListN.{length}
use Rattle.words.specs.Words.{table_words}
use Rattle.walk.specs.Advance.{stand_of}
use Rattle.canonical.proofs.Writing.{Writing}
use Rattle.canonical.proofs.write_frames.Given as goal

abbrev pub invariant-loop-v : goal.invariant-loop-v
invariant-loop-v l = Writing l.s l.initial.out (stand_of l.h l.t) l.at l.out × (length l.t ≡ table_words)

abbrev pub decreases-loop-v : goal.decreases-loop-v
decreases-loop-v l = length l.s - l.h.cursor.at
