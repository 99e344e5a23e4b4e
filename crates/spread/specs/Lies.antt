-- Samples that lie in a file. No public contract cites this.
use Rattle.std.specs.Prelude.{ℕ, ◌+◌, ◌*◌, ◌≤◌, ◌<◌}
use Rattle.standing.specs.Standing.{octets_limit}
use Rattle.spread.specs.declared.Spread.{Spread}
use Rattle.spread.specs.Spread.{width_spread}

-- The samples there lie in a file of `size` octets.
pub record Lies (size : ℕ) (x : Spread) : Type 0 where
  pub small : size ≤ octets_limit
  pub wide : 0 < width_spread x
  pub block : x.below + x.block * width_spread x ≤ x.octets
  pub inside : x.place + x.long ≤ size
