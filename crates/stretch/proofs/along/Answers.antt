-- The run over what lies ahead of the cursor ends in the file.
use Rattle.stretch.proofs.Runs.{ends-within}
use borrow.Author.Rules.{rules}
use Rattle.stretch.proofs.along.Goals as goal

pub overflow_add-result : goal.overflow_add-result
overflow_add-result c = record { fits = ends-within c.args.s.now c.args.c.at c.args.c.within c.run-taken.result.at c.rest.ensures c.run-taken.ensures.1 (search rules) (search rules) }
