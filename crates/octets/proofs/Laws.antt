-- Laws of the numbers of octets, each stated once for any width.
--     part_past, part_rest, part_whole, take-length-le, part_short    a part that runs past the end
--     drop-take, part_of    a part of a part
--     take-octets, drop-octets, read_all    a part of octets, and octets that are no more than eight
--     range-suc, range-bits, range_pos, push, cap, push_fits    one octet more
--     big_turn, big_end, back_octet, little-start, little_turn, little_end    a loop that reads octets from the front, and from the back
--     big_below, little-below, number-below, number_first    a number is one of its width
--     number_one    the number of one octet
--     twos-low, twos_high, twos-whole    what the machine reads back from a signed local's bits is the two's complement number
-- Assumes nothing.
use mathlib.Core.Path.{◌≡◌, refl, sym, ap, ◌∙◌}
use mathlib.Core.List.{List, [], ◌∷◌, reverse}
use mathlib.Core.Bool.{Bool, true, false}
use Prim.Native.Nat.{ℕ, zero, suc, ◌+◌, ◌*◌, ◌-◌, ◌^◌, ◌<◌, ◌≤◌}
use native.Mathlib.Nat.{lt_of_lt_of_le, min-le_left, one-le-pow, pow-suc, pow-le-pow_right, le_trans}
use native.Mathlib.Numerals.{add-one}
use native.Mathlib.Omega.{arith}
use borrow.Author.Tests.{lt-ltb, le-ltb, ltb-true, ltb-false}
use lib.Arith.{digits_lt}
use lib.Dec.{ltb, lit<}
use lib.Pow.{pow-add}
use lib.ListN.{length, get_or, take, drop, length-take, length-drop, drop_of_length-le}
use lib.Seq.{drop-cons, drop-length, get_or-drop, take_all, take-nil, take-take}
use mir.Syntax.{Width}
use mir.Val.{bits, hbits, to_z}
use mir.Facts.{to_z_pos, to_z-neg}
use Rattle.std.proofs.lemmas.List.{get_or-reverse, length-reverse}
use Rattle.std.proofs.lemmas.Grind.{get_or_default_zero}
use Rattle.octets.specs.Number.{Octets, range, big_from, little_of, number_of, twos, NumberRead}

-- What lies past the end is not there, so a part is at most as long as asked for.
module _ (s : List ℕ) (at n : ℕ) where
  pub part_past : length s ≤ at → take (length s - length s) (drop (length s) s) ≡ take n (drop at s)
  part_past h = simp (drop-length, drop_of_length-le s h, take-nil)

  pub part_rest : length s - at ≤ n → take (length s - at) (drop at s) ≡ take n (drop at s)
  part_rest h =
      let e : length (drop at s) ≡ length s - at = length-drop at s in
      take_all (length s - at) (drop at s) (omega arith) ∙ sym (take_all n (drop at s) (omega arith))

  pub part_whole : take (at + n - at) (drop at s) ≡ take n (drop at s)
  part_whole =
      let e : at + n - at ≡ n = omega arith in
      rw e

pub take-length-le : (n : ℕ) (s : List ℕ) → length (take n s) ≤ n
take-length-le n s = rw length-take (min-le_left n (length s))

pub part_short : (n : ℕ) (s x : List ℕ) → x ≡ take n s → length x ≤ n
part_short n s x e = rw e (take-length-le n s)

-- What stands behind k in the first m octets.
pub drop-take : (k m : ℕ) (l : List ℕ) → drop k (take m l) ≡ take (m - k) (drop k l)
drop-take zero m l = ap (λ (j : ℕ). take j l) (let e : m ≡ m - 0 = omega arith in e)
drop-take (suc k) zero l = ap (λ (j : ℕ). take j (drop (suc k) l)) (let e : 0 ≡ 0 - suc k = omega arith in e)
drop-take (suc k) (suc m) [] = sym (take-nil (suc m - suc k))
drop-take (suc k) (suc m) (x ∷ l) = drop-take k m l ∙ ap (λ (j : ℕ). take j (drop k l)) (let e : m - k ≡ suc m - suc k = omega arith in e)

-- A part of the first m octets that does not run past their end.
pub part_of : (n k m : ℕ) (l : List ℕ) → k + n ≤ m → take n (drop k (take m l)) ≡ take n (drop k l)
part_of n k m l h = ap (take n) (drop-take k m l) ∙ take-take n (m - k) (drop k l) (omega arith)

-- A part of octets is octets.
pub take-octets : (n : ℕ) (s : List ℕ) → Octets s → Octets (take n s)
take-octets zero s h i = lit< tt
take-octets (suc n) [] h i = lit< tt
take-octets (suc n) (b ∷ s) h zero = h 0
take-octets (suc n) (b ∷ s) h (suc i) = take-octets n s (λ j. h (suc j)) i

pub drop-octets : (n : ℕ) (s : List ℕ) → Octets s → Octets (drop n s)
drop-octets n s h i = rw get_or-drop (h (n + i))

-- Octets that are no more than eight are all looked at.
pub read_all : (little : Bool) (x : List ℕ) (n : ℕ) → length x ≤ 8 → NumberRead little (take 8 x) n → NumberRead little x n
read_all little x n h r = rw (take_all 8 x h) at r

-- One octet more.
pub range-suc : (i : ℕ) → range (i + 1) ≡ range i * 256
range-suc i = rw (add-one, pow-suc)

pub range-bits : (i : ℕ) → range i ≡ 2 ^ (8 * i)
range-bits zero = refl
range-bits (suc i) =
    let e : 8 * suc i ≡ 8 * i + 8 = omega arith in
    rw (e, pow-suc, range-bits i, pow-add)

pub range_pos : (i : ℕ) → 0 < range i
range_pos i = one-le-pow i 256 (lit< tt)

pub push : (i n b : ℕ) → n < range i → b < 256 → n * 256 + b < range (i + 1)
push i n b h k = rw range-suc (digits_lt h k)

pub cap : (i j : ℕ) → i ≤ j → range i ≤ range j
cap i j h = pow-le-pow_right (lit< tt) h

pub push_fits : (i n b : ℕ) → i < 8 → n < range i → b < 256 → n * 256 + b < 2 ^ 64
push_fits i n b h k l =
    let e : i + 1 ≤ 8 = omega arith in
    lt_of_lt_of_le (push i n b k l) (cap (i + 1) 8 e)

-- From the front: what is left to read gives the answer.
pub big_turn : (s : List ℕ) (i n b e : ℕ) →
    i < length s → big_from n (drop i s) ≡ e → b ≡ get_or s i 0 → big_from (n * 256 + b) (drop (i + 1) s) ≡ e
unfolding big_from
big_turn s i n b e h q p = rw p (rw add-one (rw (drop-cons s i 0 h) at q))

pub big_end : (s : List ℕ) (i n e : ℕ) → length s ≤ i → big_from n (drop i s) ≡ e → n ≡ e
unfolding big_from
big_end s i n e h q = rw (drop_of_length-le s h) at q

-- From the back: what has been read. The k-th octet from the back stands behind all that come before it from the front.
pub back_octet : (s : List ℕ) (k b : ℕ) → k < length (reverse s) → b ≡ get_or (reverse s) k b → (k < length s) × (b ≡ get_or s (length s - (k + 1)) 0)
back_octet s k b h e =
    let q : k < length s = omega (arith, length-reverse s) in
    let at : length s - 1 - k ≡ length s - (k + 1) = omega arith in
    let l : length s - (k + 1) < length s = omega arith in
    (q, e ∙ get_or-reverse s k b q ∙ ap (λ (i : ℕ). get_or s i b) at ∙ get_or_default_zero s _ b l)

pub little-start : (s : List ℕ) (i : ℕ) → length s ≤ i → 0 ≡ little_of (drop i s)
unfolding little_of
little-start s i h = rw (drop_of_length-le s h)

pub little_turn : (s : List ℕ) (i j n b : ℕ) →
    i < length s → j ≡ i + 1 → n ≡ little_of (drop j s) → b ≡ get_or s i 0 → n * 256 + b ≡ little_of (drop i s)
unfolding little_of
little_turn s i j n b h f q p = rw (drop-cons s i 0 h) (rw (q, p, f, add-one))

pub little_end : (s : List ℕ) (i n : ℕ) → i ≤ 0 → n ≡ little_of (drop i s) → n ≡ little_of s
little_end s i n h q =
    let e : i ≡ 0 = omega arith in
    rw e at q

-- The number of octets is one of their width.
pub big_below : (s : List ℕ) (w n : ℕ) → Octets s → n < range w → big_from n s < range (w + length s)
unfolding big_from
big_below [] w n h k =
    let e : w + 0 ≡ w = omega arith in
    rw e k
big_below (b ∷ s) w n h k =
    let e : w + 1 + length s ≡ w + suc (length s) = omega arith in
    rw e at (big_below s (w + 1) (n * 256 + b) (λ i. h (suc i)) (push w n b k (h 0)))

pub little-below : (s : List ℕ) → Octets s → little_of s < range (length s)
unfolding little_of
little-below [] h = lit< tt
little-below (b ∷ s) h = rw (← add-one (length s)) (push (length s) (little_of s) b (little-below s (λ i. h (suc i))) (h 0))

pub number-below : (little : Bool) (s : List ℕ) → Octets s → number_of little s < range (length s)
unfolding number_of
number-below true s h = little-below s h
number-below false s h =
    let e : 0 + length s ≡ length s = omega arith in
    rw e at (big_below s 0 0 h (lit< tt))

-- So is the number of the first n.
pub number_first : (little : Bool) (s : List ℕ) → Octets s → (n : ℕ) → number_of little (take n s) < range n
number_first little s h n = lt_of_lt_of_le (number-below little (take n s) (take-octets n s h)) (cap (length (take n s)) n (take-length-le n s))

-- The number of one octet, in either byte order.
pub number_one : (little : Bool) (b : ℕ) → number_of little (b ∷ []) ≡ b
unfolding number_of big_from little_of
number_one true b = omega arith
number_one false b = omega arith

-- The bits of a signed local, read back at the machine's width W, are the two's complement number of w octets.
pub twos-low : (W : Width) (w n : ℕ) → 2 * n < range w → n < 2 ^ hbits W → to_z W n ≡ twos w n
unfolding twos
twos-low W w n h f = to_z_pos W f ∙ simp (lt-ltb _ _ h)

pub twos_high : (W : Width) (w n x : ℕ) →
    range w ≤ 2 * n → range w - suc n < 2 ^ hbits W → x ≡ 2 ^ bits W - suc (range w - suc n) → to_z W x ≡ twos w n
unfolding twos
twos_high W w n x h f e = ap (to_z W) e ∙ to_z-neg W (range w - suc n) f ∙ simp (le-ltb _ _ h)

-- The same of all bits of a local of w octets.
pub twos-whole : (W : Width) (w n : ℕ) → range w ≡ 2 ^ bits W → range w ≡ 2 * 2 ^ hbits W → n < range w → to_z W n ≡ twos w n
twos-whole W w n e f h = by (ltb (2 * n) (range w)) refl
  where
    by : (t : Bool) → ltb (2 * n) (range w) ≡ t → to_z W n ≡ twos w n
    by true q = let k = ltb-true (2 * n) (range w) q in twos-low W w n k (omega arith)
    by false q = let k = ltb-false (2 * n) (range w) q in twos_high W w n n k (omega arith) (omega arith)

-- The number of a part of at most eight octets, as it was read.
module _ (little : Bool) (n : ℕ) (v x : List ℕ) {r : ℕ} (h : n ≤ 8) (e : x ≡ take n v) (q : NumberRead little (take 8 x) r) where
  pub part_read : r ≡ number_of little (take n v)
  part_read = (read_all little x r (le_trans (part_short n v x e) h) q).value ∙ ap (number_of little) e

  pub part_fits : r < range n
  part_fits = lt_of_lt_of_le (read_all little x r (le_trans (part_short n v x e) h) q).below (cap (length x) n (part_short n v x e))
