-- Each way out is what its tests say.
use borrow.Author.Tests.{eq-eqb, ne_eqb}
use Rattle.heads.specs.Head.{root_only}
use Rattle.heads.proofs.root_only.Goals as goal

pub returns-then-tag-eq1 : goal.returns-then-tag-eq1
unfolding root_only
returns-then-tag-eq1 c = simp (eq-eqb _ 1 c.if-tag-eq1.true)

pub returns-then-tag-eq5 : goal.returns-then-tag-eq5
unfolding root_only
returns-then-tag-eq5 c = simp (ne_eqb _ 1 c.if-tag-eq1.false, eq-eqb _ 5 c.if-tag-eq5.true)

pub returns-then-tag-eq6 : goal.returns-then-tag-eq6
unfolding root_only
returns-then-tag-eq6 c = simp (ne_eqb _ 1 c.if-tag-eq1.false, ne_eqb _ 5 c.if-tag-eq5.false, eq-eqb _ 6 c.if-tag-eq6.true)

pub returns-then-tag-eq7 : goal.returns-then-tag-eq7
unfolding root_only
returns-then-tag-eq7 c = simp (ne_eqb _ 1 c.if-tag-eq1.false, ne_eqb _ 5 c.if-tag-eq5.false, ne_eqb _ 6 c.if-tag-eq6.false, eq-eqb _ 7 c.if-tag-eq7.true)

pub returns-then-tag-eq14 : goal.returns-then-tag-eq14
unfolding root_only
returns-then-tag-eq14 c = simp (ne_eqb _ 1 c.if-tag-eq1.false, ne_eqb _ 5 c.if-tag-eq5.false, ne_eqb _ 6 c.if-tag-eq6.false, ne_eqb _ 7 c.if-tag-eq7.false, eq-eqb _ 14 c.if-tag-eq14.true)

pub returns-then-tag-eq30 : goal.returns-then-tag-eq30
unfolding root_only
returns-then-tag-eq30 c = simp (ne_eqb _ 1 c.if-tag-eq1.false, ne_eqb _ 5 c.if-tag-eq5.false, ne_eqb _ 6 c.if-tag-eq6.false, ne_eqb _ 7 c.if-tag-eq7.false, ne_eqb _ 14 c.if-tag-eq14.false, eq-eqb _ 30 c.if-tag-eq30.true)

pub returns-else-tag-eq30 : goal.returns-else-tag-eq30
unfolding root_only
returns-else-tag-eq30 c = simp (ne_eqb _ 1 c.if-tag-eq1.false, ne_eqb _ 5 c.if-tag-eq5.false, ne_eqb _ 6 c.if-tag-eq6.false, ne_eqb _ 7 c.if-tag-eq7.false, ne_eqb _ 14 c.if-tag-eq14.false, ne_eqb _ 30 c.if-tag-eq30.false)
