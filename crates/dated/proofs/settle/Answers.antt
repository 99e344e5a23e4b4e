-- By the two tests: the root settings, the record itself, or each attribute by itself.
use Rattle.std.proofs.Common.{eq-eqb, ne_eqb, le-leb}
use borrow.Author.Tests.{lt-leb}
use Rattle.dated.specs.Dated.{settled_at}
use Rattle.dated.proofs.settle.Goals as goal

pub returns-then-x-d : goal.returns-then-x-d
unfolding settled_at
returns-then-x-d c = simp (le-leb _ _ c.if-x-d.true)

pub returns-then-x-d-2 : goal.returns-then-x-d-2
unfolding settled_at
returns-then-x-d-2 c =
    simp (lt-leb _ _ c.if-x-d.false, eq-eqb _ _ c.if-x-d-2.true)

pub returns : goal.returns
unfolding settled_at
returns c =
    simp (lt-leb _ _ c.if-x-d.false, ne_eqb _ _ c.if-x-d-2.false) c.settled_from.ensures
