-- How the loops walk samples. No public contract cites this.
use Rattle.std.specs.Prelude.{◌⊎◌, ◌≡◌, List, [], ◌∷◌, Bool, ℕ, zero, suc, ◌+◌, ◌*◌, ◌/◌, ◌%◌, ◌≤◌, ◌<◌, take, drop, set}
use Rattle.standing.specs.Standing.{octets_limit}
use Rattle.octets.specs.Number.{number_of}
use Rattle.spread.specs.declared.Spread.{Spread}
use Rattle.spread.specs.Spread.{there_spread}
use Rattle.spread.specs.Lies.{Lies}

-- The bits of the sample of w octets that lies at p.
abbrev pub bits_here : Bool → ℕ → List ℕ → ℕ → ℕ
bits_here little w s p = number_of little (take w (drop p s))

-- The bits of four samples, each `step` octets after the one before it, stored from p on.
abbrev pub four_laid : Bool → ℕ → List ℕ → ℕ → ℕ → List ℕ → ℕ → List ℕ
four_laid little w s step q out p =
    set (set (set (set out p (bits_here little w s q)) (p + 1) (bits_here little w s (q + step))) (p + 2) (bits_here little w s (q + 2 * step))) (p + 3) (bits_here little w s (q + 3 * step))

-- The bits of n samples, each `step` octets after the one before it.
unfoldable pub spaced : Bool → ℕ → List ℕ → ℕ → ℕ → ℕ → List ℕ
spaced little w s step p zero = []
spaced little w s step p (suc n) = bits_here little w s p ∷ spaced little w s step (p + step) n

-- The bits of sample j of blocks of b samples that lie g octets apart, the first at `start`.
unfoldable pub blocked : Bool → ℕ → List ℕ → ℕ → ℕ → ℕ → ℕ → ℕ
blocked little w s start b g j = bits_here little w s (start + (j / b * g + j % b * w))

-- The widths of samples.
abbrev pub Wide : ℕ → Type 0
Wide w = (w ≡ 1) ⊎ ((w ≡ 2) ⊎ ((w ≡ 4) ⊎ (w ≡ 8)))

-- n samples of w octets, each `step` octets after the one before it, lie within `size` octets.
pub record InFile (size from step n w : ℕ) : Type 0 where
  pub small : size ≤ octets_limit
  pub apart : step ≤ octets_limit
  pub each : (j : ℕ) → j < n → from + j * step + w ≤ size

-- So do n samples from sample r of the first block on.
pub record InBlocks (size start r b g w n : ℕ) : Type 0 where
  pub small : size ≤ octets_limit
  pub apart : g ≤ octets_limit
  pub low : r < b
  pub starts : start + r * w ≤ size
  pub each : (j : ℕ) → j < n → start + ((r + j) / b * g + (r + j) % b * w) + w ≤ size

-- Samples of blocks of b that lie g octets apart are `step` octets apart: one to a block, or blocks one behind the other.
abbrev pub Even : ℕ → ℕ → ℕ → ℕ → Type 0
Even b g w step = ((b ≡ 1) × (step ≡ g)) ⊎ ((b * w ≡ g) × (step ≡ w))

-- Samples that can be laid from `at` on in a buffer of `room` words.
pub record Layable (size room : ℕ) (x : Spread) (first n at : ℕ) : Type 0 where
  pub fits : at + n ≤ room
  pub there : first + n ≤ there_spread x
  pub lies : Lies size x
