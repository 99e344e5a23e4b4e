-- By whether there is a null.
use Rattle.maker.proofs.Channels.{null-some}
use Rattle.maker.specs.Given.{given_at}
use Rattle.maker.specs.Given.{null_made}
use mathlib.Core.Path.{sym, ◌∙◌}
use Rattle.maker.proofs.rows.Row.null.Goals as goal

pub returns-then-no_null : goal.returns-then-no_null
unfolding null_made
returns-then-no_null c = sym (rw (sym c.no_null.ensures ∙ c.if-no_null.true))

pub returns : goal.returns
returns c =
    let a = c.args in
    null-some (given_at a.self.numbers.now a.self.bits.now a.self.index) c.requires (sym c.no_null.ensures ∙ c.if-no_null.false)
