-- What the items from a place on count is left to be added to what those before it have counted.
use Rattle.std.proofs.Common.{◌≡◌, ◌-◌, ◌≤◌, length, drop}
use Rattle.passed.specs.Passed.{passed_from, passed_over}
use Rattle.passed.proofs.Laws.{counted}
use Rattle.passed.proofs.over.Given as goal

abbrev pub invariant-loop-at : goal.invariant-loop-at
invariant-loop-at l = (passed_over (drop l.at l.u) (counted (passed_from l.dates l.before) l.times l.now l.items l.defines) ≡ passed_over l.u (passed_from l.dates l.before)) × (l.at ≤ length l.u)

abbrev pub decreases-loop-at : goal.decreases-loop-at
decreases-loop-at l = length l.u - l.at
