-- Record by record: those behind are up to date.
use Rattle.records.specs.Records.{settings_by}
use Rattle.records.proofs.Refreshing.{Refreshing}
use Rattle.records.proofs.renew_all.Given as goal

abbrev pub invariant-loop-i : goal.invariant-loop-i
invariant-loop-i l = Refreshing l.initial.t l.n (settings_by l.w) l.dates l.i l.l l.t
