-- What a loop over samples keeps, and what a turn of it does.
use mathlib.Core.Path.{◌≡◌, sym, ap, ◌∙◌}
use mathlib.Core.List.{List, append-nil, reverse}
use Prim.Native.Nat.{ℕ, ◌+◌, ◌-◌, ◌*◌, ◌≤◌, ◌<◌}
use native.Mathlib.Nat.{one-mul, add-mul, add-sub_of_le}
use native.Mathlib.Omega.{arith}
use lib.ListN.{length, take, drop, length-drop}
use lib.Seq.{sets, drop-drop, length-sets}
use Rattle.runs.specs.Turned.{turned}
use Rattle.stores.proofs.Stores.{sets_append}
use Rattle.runs.proofs.Turned.{turned-add, length-turned}

-- `left` samples from q on are still to be stored from p on, and give the buffer that is wanted.
pub record Left (src : List ℕ) (from n w : ℕ) (dst₀ : List ℕ) (at : ℕ) (dst : List ℕ) (q p left : ℕ) : Type 0 where
  pub there : q + left * w ≤ length src
  pub room : p + left * w ≤ length dst
  pub long : length dst ≡ length dst₀
  pub rest : sets dst p (turned w left (drop q src)) ≡ sets dst₀ at (turned w n (drop from src))

-- A turn stores k samples, which have b octets.
pub left_less : {s : List ℕ} {from n w : ℕ} {d₀ : List ℕ} {at : ℕ} {d e : List ℕ} {q p left : ℕ} (k b : ℕ)
    → k * w ≡ b → k ≤ left → e ≡ sets d p (turned w k (drop q s)) → Left s from n w d₀ at d q p left
    → Left s from n w d₀ at e (q + b) (p + b) (left - k)
left_less {s} {from} {n} {w} {d₀} {at} {d} {e} {q} {p} {left} k b size h stored l =
    let xs = drop q s in
    let m : k + (left - k) ≡ left = add-sub_of_le h in
    let t : left * w ≡ k * w + (left - k) * w = ap (λ (j : ℕ). j * w) (sym m) ∙ add-mul k (left - k) w in
    let long = ap length stored ∙ length-sets d p (turned w k xs) in
    let few : length (turned w k xs) ≡ b = length-turned w k xs (omega (arith, length-drop q s)) ∙ size in
    record {
      there = omega arith;
      room = omega arith;
      long = long ∙ l.long;
      rest = rw (stored, ← drop-drop b q s)
          (rw few at (sets_append (turned w k xs) (turned w (left - k) (drop b xs)) d p)
          ∙ ap (sets d p) (rw size at (sym (turned-add w k (left - k) xs)))
          ∙ rw m l.rest);
    }

pub turned-sample : (w : ℕ) (xs : List ℕ) → turned w 1 xs ≡ reverse (take w xs)
unfolding turned
turned-sample w xs = append-nil (reverse (take w xs))

-- A turn stores one sample.
pub one_less : {s : List ℕ} {from n w : ℕ} {d₀ : List ℕ} {at : ℕ} {d e : List ℕ} {q p left : ℕ} → 0 < left
    → e ≡ sets d p (reverse (take w (drop q s))) → Left s from n w d₀ at d q p left
    → Left s from n w d₀ at e (q + w) (p + w) (left - 1)
one_less {s} {w = w} {d = d} {q = q} {p = p} h stored l =
    left_less 1 w (one-mul w) h (stored ∙ ap (sets d p) (sym (turned-sample w (drop q s)))) l
