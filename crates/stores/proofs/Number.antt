-- Laws of numbers as octets: writing a number and reading it back, and reading octets and writing them again.
use mathlib.Core.Path.{◌≡◌, refl, sym, ap, ◌∙◌}
use mathlib.Core.List.{List, [], ◌∷◌, ◌++◌, append-nil, append_assoc}
use mathlib.Core.Bool.{false}
use Prim.Native.Nat.{ℕ, zero, suc, ◌+◌, ◌*◌, ◌/◌, ◌%◌, ◌^◌, ◌<◌}
use native.Mathlib.Nat.{div-add-mod', div-lt_iff_lt-mul, pow-suc, add-zero, zero-add, add-suc, suc-add}
use native.Mathlib.Omega.{arith}
use lib.ListN.{length}
use Rattle.octets.specs.Number.{Octets, big_from, number_of}
use Rattle.stores.specs.Number.{be}

big_append : (acc : ℕ) (u v : List ℕ) → big_from acc (u ++ v) ≡ big_from (big_from acc u) v
unfolding big_from
big_append acc [] v = refl
big_append acc (b ∷ u) v = big_append (acc * 256 + b) u v

-- The w octets of a number that they hold give it back.
pub number_back : (w n : ℕ) → n < 256 ^ w → number_of false (be w n) ≡ n
unfolding be big_from number_of
number_back zero n h = omega arith
number_back (suc w) n h =
    let k : n < 256 ^ w * 256 = rw pow-suc at h in
    let l : n / 256 < 256 ^ w = (div-lt_iff_lt-mul {k = 256} {x = n} {y = 256 ^ w} (omega arith)).1 k in
    rw (big_append, number_back w (n / 256) l) (div-add-mod' n 256)

be_from : (k a : ℕ) (v : List ℕ) → Octets v → be (k + length v) (big_from a v) ≡ be k a ++ v
unfolding be big_from
be_from k a [] o = rw add-zero (sym (append-nil (be k a)))
be_from k a (b ∷ v) o =
    let h : b < 256 = o 0 in
    let e : (a * 256 + b) / 256 ≡ a = omega arith in
    let f : (a * 256 + b) % 256 ≡ b = omega arith in
    ap (λ (j : ℕ). be j (big_from (a * 256 + b) v)) (add-suc k (length v) ∙ sym (suc-add k (length v)))
    ∙ be_from (suc k) (a * 256 + b) v (λ i. o (suc i))
    ∙ rw (e, f, append_assoc)

-- Octets give the number whose octets they are.
pub octets_back : (v : List ℕ) → Octets v → be (length v) (number_of false v) ≡ v
unfolding be number_of
octets_back v o = rw zero-add at (be_from 0 0 v o)
