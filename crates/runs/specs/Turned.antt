-- Samples with their octets turned round.
use Rattle.std.specs.Prelude.{List, [], ◌++◌, reverse, ℕ, zero, suc, ◌*◌, leb, length, take, drop}
use Rattle.octets.specs.Pick.{pick}

-- n samples of w octets from the front of xs, each with its octets in reverse order.
unfoldable pub turned : ℕ → ℕ → List ℕ → List ℕ
turned w zero xs = []
turned w (suc n) xs = reverse (take w xs) ++ turned w n (drop w xs)

-- The same where xs has that many octets, and nothing where it has not.
unfoldable pub turned_run : ℕ → ℕ → List ℕ → List ℕ
turned_run w n xs = pick (leb (n * w) (length xs)) (turned w n xs) []
