-- Outside a group nothing is barred; inside, what `root_only` says.
use Rattle.heads.proofs.barred.Goals as goal

pub returns-then-inside : goal.returns-then-inside
returns-then-inside c = simp (c.if-inside.true, c.root_only.ensures)
