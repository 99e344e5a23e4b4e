-- The pair is made of the two.
use mathlib.Core.Path.{refl}
use Rattle.numbers.specs.Numbers.{bit_pair_of}
use Rattle.numbers.proofs.bit_pair_of.Goals as goal

pub returns : goal.returns
unfolding bit_pair_of
returns c = refl
