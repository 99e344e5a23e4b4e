-- Item by item.
use mathlib.Core.Path.{sym, ap, ◌∙◌}
use borrow.Author.Tests.{lt-ltb, le-ltb}
use Rattle.pass.specs.Passing.{opened_by}
use Rattle.pass.proofs.opened.Goals as goal

pub returns-in-Plain : goal.returns-in-Plain
unfolding opened_by
returns-in-Plain c = ap (opened_by _) (sym c.in-Plain.is)

pub returns-then-channel-counted : goal.returns-then-channel-counted
unfolding opened_by
returns-then-channel-counted c = sym (ap (opened_by _) c.in-Group.is ∙ simp (lt-ltb _ _ c.if-channel-counted.true))

pub returns-else-channel-counted : goal.returns-else-channel-counted
unfolding opened_by
returns-else-channel-counted c = sym (ap (opened_by _) c.in-Group.is ∙ simp (le-ltb _ _ c.if-channel-counted.false))

pub returns-in-Member : goal.returns-in-Member
unfolding opened_by
returns-in-Member c = ap (opened_by _) (sym c.in-Member.is)

pub returns-in-Mark : goal.returns-in-Mark
unfolding opened_by
returns-in-Mark c = ap (opened_by _) (sym c.in-Mark.is)
