-- Samples of a channel laid into a buffer: the bits of many, and whether they can be laid.
use Rattle.std.specs.Prelude.{List, [], ◌∷◌, Bool, ℕ, zero, suc, ◌+◌, leb}
use Rattle.octets.specs.Pick.{both}
use Rattle.spread.specs.declared.Spread.{Spread}
use Rattle.spread.specs.Spread.{there_spread, lies_spread}

-- The bits of k samples from number n on, where g gives the bits of each by its number.
unfoldable pub bits_from : (ℕ → ℕ) → ℕ → ℕ → List ℕ
bits_from g n zero = []
bits_from g n (suc k) = g n ∷ bits_from g (suc n) k

-- n samples from number `first` on can be laid from place `at` on in a buffer of `room` words: they lie in a file of `size` octets, so many
-- are there, and the buffer holds them.
abbrev pub lays_in : ℕ → ℕ → Spread → ℕ → ℕ → ℕ → Bool
lays_in size room x first n at = both (leb (at + n) room) (both (leb (first + n) (there_spread x)) (lies_spread size x))
