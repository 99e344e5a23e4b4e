-- The count alone is computed.
use Rattle.std.proofs.Common.{ℕ, ap}
use Rattle.arriving.specs.Arriving.{core, link_with}
use Rattle.arriving.proofs.further.Goals as goal

pub returns : goal.returns
returns c = ap (λ (k : ℕ). link_with (core k c.args.x.core.around c.args.held c.args.stage) c.args.x.head c.args.x.frame) c.wrapping_add_u64.ensures.value
