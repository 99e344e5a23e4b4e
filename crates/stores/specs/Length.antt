-- The shortest form of a length.
use Rattle.std.specs.Prelude.{◌≡◌, List, [], ◌∷◌, ℕ, ◌+◌, ◌≤◌, ◌<◌, ltb, length}
use Rattle.std.proofs.Common.{arith, lt-ltb, le-ltb}
use Rattle.stores.specs.Number.{be, length-be}
use Rattle.octets.specs.Number.{range}
use Rattle.octets.specs.Pick.{pick}

-- How many octets n, below 2 ^ 32, takes: the least of 1 to 4 that hold it.
unfoldable pub holding : ℕ → ℕ
holding n = pick (ltb n (range 1)) 1 (pick (ltb n (range 2)) 2 (pick (ltb n (range 3)) 3 4))

pub holding_one : (n : ℕ) → n < range 1 → holding n ≡ 1
unfolding holding
holding_one n h = simp lt-ltb

pub holding_two : (n : ℕ) → range 1 ≤ n → n < range 2 → holding n ≡ 2
unfolding holding
holding_two n l h = simp (le-ltb, lt-ltb)

pub holding_three : (n : ℕ) → range 2 ≤ n → n < range 3 → holding n ≡ 3
unfolding holding
holding_three n l h = let k : range 1 ≤ n = omega arith in simp (le-ltb, lt-ltb)

pub holding_four : (n : ℕ) → range 3 ≤ n → holding n ≡ 4
unfolding holding
holding_four n l =
    let k : range 1 ≤ n = omega arith in
    let m : range 2 ≤ n = omega arith in
    simp le-ltb

-- The shortest form of the length n, below 2 ^ 32: n itself below 128, and else 80h + k and the k octets that n takes.
unfoldable pub shortest : ℕ → List ℕ
shortest n = pick (ltb n 128) (n ∷ []) ((128 + holding n) ∷ be (holding n) n)

pub shortest_short : (n : ℕ) → n < 128 → shortest n ≡ n ∷ []
unfolding shortest
shortest_short n h = simp lt-ltb

pub shortest-long : (n : ℕ) → 128 ≤ n → shortest n ≡ (128 + holding n) ∷ be (holding n) n
unfolding shortest
shortest-long n h = simp le-ltb

pub length_shortest_short : (n : ℕ) → n < 128 → length (shortest n) ≡ 1
length_shortest_short n h = simp shortest_short

pub length-shortest-long : (n : ℕ) → 128 ≤ n → length (shortest n) ≡ 1 + holding n
length-shortest-long n h = simp (shortest-long, length-be) (omega arith)
