-- One width so far, and after the last channel of all.
use mathlib.Core.Path.{◌≡◌}
use Prim.Native.Nat.{ℕ, ◌<◌}
use lib.ListN.{get_or}
use Rattle.dated.specs.Dated.{zero_dated}
use Rattle.words.specs.Words.{records_in}
use Rattle.values.specs.Sample.{width_of}
use Rattle.frames.proofs.even_width.Given as goal

abbrev pub invariant-loop-i : goal.invariant-loop-i
invariant-loop-i l = (k : ℕ) → k < l.i → width_of (get_or (records_in l.channels.words.now) k zero_dated).settings.datatype ≡ l.v
