-- The line that the bench program writes for an answer of the check (document 01, "The canonical file").
use Rattle.std.specs.Prelude.{◌≡◌, List, [], ◌∷◌, ◌++◌, ℕ, zero, suc, ◌+◌, ◌/◌, ◌%◌, ltb, length}
use Prim.Native.Char.{code}
use Prim.Native.String.{String, [] as []ᵗ, ◌∷◌ as ◌∷ᵗ◌}
use Rattle.octets.specs.Pick.{pick}
use Rattle.heads.specs.Faults.{number_of}
use Rattle.heads.specs.Answer.{Answer, answered, refused_as, left_by}

-- A number in decimal, in ASCII; no more digits than are allowed.
unfoldable pub decimal_in : ℕ → ℕ → List ℕ
decimal_in zero n = []
decimal_in (suc allowed) n =
    let more = decimal_in allowed (n / 10) in
    pick (ltb n 10) ((48 + n) ∷ []) (more ++ ((48 + n % 10) ∷ []))

-- A number of 64 bits has at most 20 digits.
unfoldable pub decimal_of : ℕ → List ℕ
decimal_of n = decimal_in 20 n

-- The octets of a text in ASCII.
abbrev pub ascii : String → List ℕ
ascii []ᵗ = []
ascii (c ∷ᵗ more) = code c ∷ ascii more

-- `frames N` or `refused R at P`.
unfoldable pub line_of : Answer ℕ → List ℕ
line_of (answered n) = ascii "frames " ++ decimal_of n ++ ascii "\n"
line_of (refused_as fault place) = ascii "refused " ++ decimal_of (number_of fault) ++ ascii " at " ++ decimal_of place ++ ascii "\n"

-- The line of an answer stands at the start of the buffer d, and octets past it keep what they held: r is its length, and e the buffer then.
pub record Lined (a : Answer ℕ) (d : List ℕ) (r : ℕ) (e : List ℕ) : Type 0 where
  pub long : r ≡ length (line_of a)
  pub left : e ≡ left_by (answered (line_of a)) d
