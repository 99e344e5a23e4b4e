-- By where the cursor stands.
use mathlib.Core.Path.{sym, ◌∙◌}
use borrow.Author.Tests.{lt-ltb, le-ltb}
use Rattle.pass.specs.Passing.{begins_at}
use Rattle.pass.proofs.begins.Goals as goal

pub returns-then-at-s : goal.returns-then-at-s
unfolding begins_at
returns-then-at-s c = c.stepped_over.ensures ∙ sym (simp (c.in-Root.is, lt-ltb _ _ c.if-at-s.true))

pub returns-else-at-s : goal.returns-else-at-s
unfolding begins_at
returns-else-at-s c = sym (simp (c.in-Root.is, le-ltb _ _ c.if-at-s.false))

pub returns-in-Definite : goal.returns-in-Definite
unfolding begins_at
returns-in-Definite c = sym (simp c.in-Definite.is)

pub returns-in-Open : goal.returns-in-Open
unfolding begins_at
returns-in-Open c = sym (simp c.in-Open.is)
