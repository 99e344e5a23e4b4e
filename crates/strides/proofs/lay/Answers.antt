-- By the test; no samples leave the buffer as it is.
use mathlib.Core.Path.{sym, ◌∙◌}
use Rattle.strides.proofs.Laying.{lays_in_lem, no_bits}
use Rattle.strides.proofs.lay.Goals as goal

pub lay_blocks-requires : goal.lay_blocks-requires
lay_blocks-requires c =
    record {
      n_nonzero = c.if-n-gt0.true;
      layable = lays_in_lem _ _ _ _ _ _ (sym c.lays.ensures ∙ c.if-lays.true);
    }

pub returns-then-n-gt0 : goal.returns-then-n-gt0
returns-then-n-gt0 c = rw (sym c.lays.ensures ∙ c.if-lays.true) c.lay_blocks.ensures

pub returns-else-n-gt0 : goal.returns-else-n-gt0
returns-else-n-gt0 c = rw (sym c.lays.ensures ∙ c.if-lays.true) (no_bits _ _ _ _ c.if-n-gt0.false)

pub returns-else-lays : goal.returns-else-lays
returns-else-lays c = rw (sym c.lays.ensures ∙ c.if-lays.false)
