-- Octets read one by one from a place on, for any width.
--     here_one, here_big, here-little    a number made of them, highest first, is theirs in a byte order
--     first_read                         the number of all octets, where they are few
-- Assumes nothing.
use mathlib.Core.Path.{◌≡◌, refl, sym, ap, ◌∙◌}
use mathlib.Core.List.{List, [], ◌∷◌, reverse, reverse_aux}
use mathlib.Core.Bool.{Bool, true, false}
use Prim.Native.Nat.{ℕ, zero, suc, ◌+◌, ◌≤◌, ◌<◌}
use native.Mathlib.Nat.{add-suc}
use native.Mathlib.Numerals.{add-one}
use native.Mathlib.Omega.{arith}
use lib.ListN.{length, get_or, take, drop}
use lib.Seq.{drop-cons, take_all}
use Rattle.octets.specs.Number.{Octets, big_from, little_of, number_of, NumberRead}
use Rattle.octets.proofs.Laws.{number_one, number-below}

-- w octets from the i-th after a place on. It computes to the places that the code reads.
abbrev pub rest_from : List ℕ → ℕ → ℕ → ℕ → List ℕ
rest_from s at i zero = []
rest_from s at i (suc w) = get_or s (at + i) 0 ∷ rest_from s at (suc i) w

rest-taken : (s : List ℕ) (at i w : ℕ) → at + i + w ≤ length s → take w (drop (at + i) s) ≡ rest_from s at i w
rest-taken s at i zero h = refl
rest-taken s at i (suc w) h =
    let k : at + i < length s = omega arith in
    rw (drop-cons s (at + i) 0 k) (rw (← add-suc at i) (ap (λ (l : List ℕ). get_or s (at + i) 0 ∷ l) (rest-taken s at (suc i) w (omega arith))))

taken : (s : List ℕ) (at w : ℕ) → at + suc w ≤ length s → take (suc w) (drop at s) ≡ get_or s at 0 ∷ rest_from s at 1 w
taken s at w h =
    let k : at < length s = omega arith in
    rw (drop-cons s at 0 k) (rw (← add-one at) (ap (λ (l : List ℕ). get_or s at 0 ∷ l) (rest-taken s at 1 w (omega arith))))

-- The first octet needs no product.
first_octet : (a : ℕ) (xs : List ℕ) → big_from a xs ≡ number_of false (a ∷ xs)
unfolding number_of big_from
first_octet a xs = ap (λ (n : ℕ). big_from n xs) (omega arith)

-- Lowest octet first is highest octet first from the back.
little_reversed : (xs r : List ℕ) → big_from 0 (reverse_aux xs r) ≡ big_from (little_of xs) r
unfolding big_from little_of
little_reversed [] r = refl
little_reversed (x ∷ xs) r = little_reversed xs (x ∷ r)

from_back : (xs : List ℕ) → number_of false (reverse xs) ≡ number_of true xs
unfolding number_of big_from
from_back xs = little_reversed xs []

pub here_one : (little : Bool) (s : List ℕ) (at : ℕ) {r : ℕ} → at + 1 ≤ length s → r ≡ get_or s at 0 → r ≡ number_of little (take 1 (drop at s))
here_one little s at h f = f ∙ sym (number_one little _) ∙ ap (number_of little) (sym (taken s at 0 h))

module _ (w : ℕ) (s : List ℕ) (at : ℕ) {little : Bool} {r : ℕ} (h : at + suc w ≤ length s) where
  pub here_big : little ≡ false → r ≡ big_from (get_or s at 0) (rest_from s at 1 w) → r ≡ number_of little (take (suc w) (drop at s))
  here_big e f = f ∙ first_octet _ _ ∙ (λ i. number_of (sym e i) (sym (taken s at w h) i))

  pub here-little : {a : ℕ} {xs : List ℕ} → little ≡ true → reverse (get_or s at 0 ∷ rest_from s at 1 w) ≡ a ∷ xs → r ≡ big_from a xs → r ≡ number_of little (take (suc w) (drop at s))
  here-little e q f = f ∙ first_octet _ _ ∙ ap (number_of false) (sym q) ∙ from_back _ ∙ (λ i. number_of (sym e i) (sym (taken s at w h) i))

-- Octets that are no more than eight have the number of their first eight.
pub first_read : (little : Bool) (w : ℕ) (s : List ℕ) {r : ℕ} →
    length s ≡ w → w ≤ 8 → Octets s → r ≡ number_of little (take w s) → NumberRead little (take 8 s) r
first_read little w s e h o q =
    let v = q ∙ ap (number_of little) (take_all w s (omega arith)) in
    rw (take_all 8 s (omega arith)) (record { value = v; below = rw v (number-below little s o) })
