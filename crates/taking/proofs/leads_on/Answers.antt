-- One item more is read.
use Rattle.std.proofs.Common.{ℕ, ap}
use Rattle.std.specs.Prelude.{Ok, None}
use Rattle.taking.proofs.leads_on.Goals as goal

pub returns : goal.returns
returns c = ap (λ (k : ℕ). record { went = Ok None; head = record { cursor = c.args.cursor; standing = c.args.standing; dates = c.args.dates; items = k; frames = c.args.h.frames } }) c.wrapping_add_u64.ensures.value
