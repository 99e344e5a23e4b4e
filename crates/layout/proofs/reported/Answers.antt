-- The offset is changed to the one that `offset_bits` answers.
use Rattle.std.proofs.Common.{ap, ◌∙◌}
use Rattle.values.specs.declared.Bits.{Bits}
use Rattle.settings.specs.declared.Change.TheVariants.{Offset}
use Rattle.settings.specs.Settings.{applied}
use Rattle.layout.specs.Frame.{reported}
use Rattle.layout.proofs.reported.Goals as goal

pub returns : goal.returns
unfolding reported
returns c = c.apply.ensures ∙ ap (λ (x : Bits). applied (Offset x) c.args.c) c.offset_bits.ensures
