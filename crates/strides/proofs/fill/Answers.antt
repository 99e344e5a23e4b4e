-- By the way the samples lie: evenly spaced, or in blocks.
use mathlib.Core.Path.{ap, ◌∙◌}
use lib.Seq.{sets}
use Rattle.strides.proofs.Walks.{even_there, even_within, even_is}
use Rattle.strides.proofs.fill.Goals as goal

pub run-requires : goal.run-requires
run-requires c =
    let e = even_there _ _ _ c.even-step.ensures c.if-step-gt0.true in
    record {
      wide = c.requires.wide;
      in_file = even_within _ _ _ _ _ _ _ c.requires.in_blocks e c.requires.wide;
      n_in_bounds = c.requires.n_in_bounds;
    }

pub returns-then-step-gt0 : goal.returns-then-step-gt0
returns-then-step-gt0 c =
    let e = even_there _ _ _ c.even-step.ensures c.if-step-gt0.true in
    c.run.ensures ∙ ap (sets _ _) (even_is _ _ _ _ _ _ _ c.requires.in_blocks e _ _)
