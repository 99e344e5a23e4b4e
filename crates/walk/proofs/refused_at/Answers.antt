-- The place is that of the item.
use Rattle.std.specs.Prelude.{Err}
use Rattle.std.proofs.Common.{ℕ, ap}
use Rattle.items.specs.Walk.{refusal}
use Rattle.walk.proofs.refused_at.Goals as goal

pub returns : goal.returns
returns c = ap (λ (p : ℕ). Err (refusal c.args.fault p)) c.place_of.ensures
