-- Bits whose lowest octets are all of them.
use mathlib.Core.Path.{ap, ◌∙◌}
use Prim.Native.Nat.{ℕ}
use lib.Dec.{eqb}
use Rattle.maker.proofs.Channels.{lowest_fits}
use Rattle.maker.proofs.rows.bits_fit.Goals as goal

pub returns : goal.returns
returns c =
    let a = c.args in
    ap (λ (n : ℕ). eqb n a.x) c.lowest.ensures ∙ lowest_fits a.width a.x
