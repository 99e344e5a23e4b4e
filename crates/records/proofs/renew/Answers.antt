-- A record that is up to date stays as it is; every other takes over what the root has defined since.
use mathlib.Core.Path.{refl}
use native.Mathlib.Omega.{arith}
use Rattle.records.specs.Records.{settings_by}
use Rattle.records.proofs.Renewing.{renew_keeps, renew_stores}
use borrow.Author.Rules.{rules}
use Rattle.records.proofs.renew.Goals as goal
use Rattle.records.proofs.renew.Goals.{else-dates-at-via-then-dates-at+else-at-dates, else-dates-at-via-else-dates-at}

pub returns-then-at-dates : goal.returns-then-at-dates
returns-then-at-dates c =
    let a = c.args in
    renew_keeps a.t.now a.k (settings_by a.w.now) a.dates (omega arith) c.time-at.ensures c.if-dates-at.true c.if-at-dates.true

pub returns : goal.returns
returns c =
    let a = c.args in
    renew_stores a.t.now a.k (settings_by a.w.now) a.dates (omega arith) c.time-at.ensures
    c.overtake.ensures c.requires.since_value c.requires.time_word_value refl c.behind_from.ensures (search rules)
    (λ late now. elim c.else-dates-at.branch [
      | else-dates-at-via-then-dates-at+else-at-dates w ↦ w.if-at-dates.false now
      | else-dates-at-via-else-dates-at w ↦ omega (arith, w.if-dates-at.false, late)
    ])
