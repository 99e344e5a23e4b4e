-- How many samples of a channel are there, by numbers.
--     count-all, count-some, count-block    the count, by how much of a block is there
--     count-few        no more than are declared
--     count-inside     a declared sample ends in the waveform exactly when its number is below the count
-- Assumes nothing.
use Prim.Native.Nat.{ℕ, suc, ◌+◌, ◌-◌, ◌*◌, ◌/◌, ◌%◌, ◌≤◌, ◌<◌, min}
use mathlib.Core.Path.{◌≡◌, sym, ◌∙◌, ap}
use mathlib.Core.Logic.{◌↔◌}
use native.Mathlib.Nat.{suc-mul, mul-le-mul_right, div-add-mod', mod-lt, le-div_iff_mul-le, min-le_left, min-le_right, le-min, min-eq_left, min-eq_right}
use native.Mathlib.Decide.{dec_lt}
use native.Mathlib.Omega.{arith}
use Rattle.layout.proofs.Rows.{row_fits, cells_some}
use Rattle.there.specs.There.{count_there}

-- Cell r is one of those that x octets hold where r cells and one more are in x.
pub cell_in : (w r x : ℕ) → 0 < w → (r < x / w) ↔ (r * w + w ≤ x)
cell_in w r x p =
    let e = le-div_iff_mul-le {k = w} {x = suc r} {y = x} p in
    (λ h. rw suc-mul at (e.0 h), λ h. e.1 (rw suc-mul h))

module _ (S b w G below long : ℕ) where
  -- Whole sequences, and the samples of one more that are in what is left.
  abbrev Q : ℕ
  Q = long / G

  abbrev some : ℕ
  some = (long % G - below) / w

  pub count-all : S ≤ Q → S * b ≡ count_there S b w G below long
  unfolding count_there
  count-all h = sym (min-eq_left (omega (arith, mul-le-mul_right b h)))

  pub count-few : count_there S b w G below long ≤ S * b
  unfolding count_there
  count-few = min-le_left _ _

  -- Where more sequences are declared.
  module _ (h : Q < S) where
    -- The count, where m samples of the block that is cut off are there.
    by_part : (m : ℕ) → m ≡ min b some → Q * b + m ≡ count_there S b w G below long
    unfolding count_there
    by_part m e =
        let k : Q * b + m ≤ S * b = omega (arith, row_fits b Q S h, min-le_left b some) in
        ap (λ (x : ℕ). Q * b + x) e ∙ sym (min-eq_right (rw e at k))

    pub count-some : some ≤ b → Q * b + some ≡ count_there S b w G below long
    count-some l = by_part _ (sym (min-eq_right l))

    pub count-block : b ≤ some → Q * b + b ≡ count_there S b w G below long
    count-block l = by_part b (sym (min-eq_left l))

  module _ (p : 0 < w) (fits : below + b * w ≤ G) (n : ℕ) (h : n < S * b) where
    abbrev q : ℕ
    q = n / b

    abbrev r : ℕ
    r = n % b

    abbrev end : ℕ
    end = q * G + below + r * w + w

    parts : q * b + r ≡ n
    parts = div-add-mod' n b

    rest : r < b
    rest = mod-lt n (cells_some S b n h)

    -- The sample ends in its sequence, and so a sequence has octets.
    ends : below + r * w + w ≤ G
    ends = omega (arith, row_fits w r b rest)

    sum : Q * G + long % G ≡ long
    sum = div-add-mod' long G

    -- In the sequence that is cut off.
    module _ (e : q ≡ Q) where
      row : q * G ≡ Q * G
      row = ap (λ (t : ℕ). t * G) e

      cells : q * b ≡ Q * b
      cells = ap (λ (t : ℕ). t * b) e

      to_part : end ≤ long → n < Q * b + min b some
      to_part k =
          let j : r < some = (cell_in w r (long % G - below) p).1 (omega (arith, row, sum)) in
          let i : r < min b some = le-min rest j in
          omega (arith, parts, cells)

      from_part : n < Q * b + min b some → end ≤ long
      from_part k =
          let i : r < some = omega (arith, parts, cells, min-le_right b some) in
          omega (arith, row, sum, (cell_in w r (long % G - below) p).0 i)

    pub count-inside : (end ≤ long) ↔ (n < count_there S b w G below long)
    unfolding count_there
    count-inside = (λ k. le-min h (to k (dec_lt q Q) (dec_lt Q q)), λ k. back (omega (arith, min-le_right (S * b) (Q * b + min b some))) (dec_lt q Q) (dec_lt Q q))
      where
        to : end ≤ long → Dec (q < Q) → Dec (Q < q) → n < Q * b + min b some
        to k (yes a) d = omega (arith, parts, rest, row_fits b q Q a)
        to k (no a) (yes d) = let some : 0 < G = omega (arith, ends) in let z : ⊥ = omega (arith, ends, row_fits G Q q d, sum, mod-lt long some) in absurd z
        to k (no a) (no d) = to_part (omega arith) k

        back : n < Q * b + min b some → Dec (q < Q) → Dec (Q < q) → end ≤ long
        back k (yes a) d = omega (arith, ends, row_fits G q Q a, sum)
        back k (no a) (yes d) = let z : ⊥ = omega (arith, parts, row_fits b Q q d, min-le_left b some) in absurd z
        back k (no a) (no d) = from_part (omega arith) k
