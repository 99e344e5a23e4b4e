-- Each number in its order.
use mathlib.Core.List.{[], ◌∷◌}
use Rattle.numbers.specs.Numbers.{frame_numbers_of}
use Rattle.numbers.proofs.frame_numbers.Goals as goal

pub returns : goal.returns
unfolding frame_numbers_of
returns c = let v = c.args.v in λ i. c.from.ensures i ∷ c.from-2.ensures i ∷ c.flag_number.ensures i ∷ v.place ∷ v.len ∷ v.octets ∷ []
