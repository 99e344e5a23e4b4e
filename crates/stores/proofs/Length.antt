-- Laws of the shortest form of a length.
use mathlib.Core.Path.{◌≡◌, refl}
use mathlib.Core.Bool.{Bool, true, false}
use Prim.Native.Nat.{ℕ, ◌≤◌, ◌<◌, ◌^◌}
use native.Mathlib.Omega.{arith}
use lib.Dec.{ltb}
use lib.ListN.{length}
use borrow.Author.Tests.{ltb-true, ltb-false}
use Rattle.octets.proofs.Pick.{pick_cases}
use Rattle.stores.specs.Length.{holding, holding_one, holding_two, holding_three, holding_four}
use Rattle.stores.specs.Length.{shortest, length_shortest_short, length-shortest-long}

-- A length takes 1 to 4 octets.
pub holding-between : (n : ℕ) → (1 ≤ holding n) × (holding n ≤ 4)
unfolding holding
holding-between n =
    let P : ℕ → Type 0 = λ k. (1 ≤ k) × (k ≤ 4) in
    pick_cases P (ltb n 256) (λ _. (omega arith, omega arith))
    (λ _. pick_cases P (ltb n 65536) (λ _. (omega arith, omega arith))
    (λ _. pick_cases P (ltb n 16777216) (λ _. (omega arith, omega arith)) (λ _. (omega arith, omega arith))))

-- The shortest form has 1 to 5 octets.
pub length-shortest : (n : ℕ) → (1 ≤ length (shortest n)) × (length (shortest n) ≤ 5)
length-shortest n = by_size (ltb n 128) refl
  where
    by_size : (t : Bool) → ltb n 128 ≡ t → (1 ≤ length (shortest n)) × (length (shortest n) ≤ 5)
    by_size true e = let l = length_shortest_short n (ltb-true n 128 e) in (omega arith, omega arith)
    by_size false e =
        let l = length-shortest-long n (ltb-false n 128 e) in
        let h = holding-between n in
        (omega arith, omega arith)

-- They hold the length.
pub holding-holds : (n : ℕ) → n < 2 ^ 32 → n < 256 ^ holding n
holding-holds n top = one (ltb n 256) refl
  where
    three : (t : Bool) → 65536 ≤ n → ltb n 16777216 ≡ t → n < 256 ^ holding n
    three true l e = let h = ltb-true n 16777216 e in rw (holding_three n l h) h
    three false l e = let h = ltb-false n 16777216 e in rw (holding_four n h) top

    two : (t : Bool) → 256 ≤ n → ltb n 65536 ≡ t → n < 256 ^ holding n
    two true l e = let h = ltb-true n 65536 e in rw (holding_two n l h) h
    two false l e = three (ltb n 16777216) (ltb-false n 65536 e) refl

    one : (t : Bool) → ltb n 256 ≡ t → n < 256 ^ holding n
    one true e = let h = ltb-true n 256 e in rw (holding_one n h) h
    one false e = two (ltb n 65536) (ltb-false n 256 e) refl
