-- One item and one frame more are read.
use Rattle.std.specs.Prelude.{Ok, Some}
use Rattle.std.proofs.Common.{ℕ, ◌+◌, ap}
use Rattle.taking.proofs.stops_behind.Goals as goal

pub returns : goal.returns
returns c =
    ap
    (λ (k : ℕ). record {
      went = Ok (Some c.args.frame);
      head = record { cursor = c.args.cursor; standing = c.args.after; dates = c.args.h.dates; items = k; frames = c.args.h.frames + 1 };
    })
    c.wrapping_add_u64.ensures.value
