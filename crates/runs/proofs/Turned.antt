-- Laws of samples turned round.
use mathlib.Core.Path.{◌≡◌, refl, sym, ap, ◌∙◌}
use mathlib.Core.List.{List, [], ◌∷◌, ◌++◌, append_assoc}
use Prim.Native.Nat.{ℕ, zero, suc, ◌+◌, ◌*◌, ◌-◌, ◌≤◌, ◌<◌}
use native.Mathlib.Nat.{zero-add, suc-add, add_comm, zero-mul, suc-mul}
use native.Mathlib.Omega.{arith}
use lib.ListN.{length, take, drop, length-append, length-reverse, length-drop, take-append-drop}
use lib.Seq.{drop-drop, take-nil, take-append-le, drop-append-le, length-take-le}
use borrow.Author.Tests.{le-leb, lt-leb}
use Rattle.runs.specs.Turned.{turned, turned_run}

-- k samples, then n more.
pub turned-add : (w k n : ℕ) (xs : List ℕ) → turned w (k + n) xs ≡ turned w k xs ++ turned w n (drop (k * w) xs)
unfolding turned
turned-add w zero n xs = rw (zero-add, zero-mul)
turned-add w (suc k) n xs =
    rw (suc-add, suc-mul, add_comm (k * w) w, ← drop-drop (k * w) w xs, append_assoc, turned-add w k n (drop w xs))

-- Samples that are there are turned round from them alone.
turned_front : (w n : ℕ) (xs ys : List ℕ) → n * w ≤ length xs → turned w n (xs ++ ys) ≡ turned w n xs
unfolding turned
turned_front w zero xs ys h = refl
turned_front w (suc n) xs ys h =
    let m : suc n * w ≡ n * w + w = suc-mul n w in
    let l : length (drop w xs) ≡ length xs - w = length-drop w xs in
    rw (take-append-le w xs ys (omega arith), drop-append-le w xs ys (omega arith), turned_front w n (drop w xs) ys (omega arith))

pub turned-take : (w n m : ℕ) (xs : List ℕ) → n * w ≤ m → m ≤ length xs → turned w n (take m xs) ≡ turned w n xs
turned-take w n m xs h l =
    let k = length-take-le m xs l in
    sym (turned_front w n (take m xs) (drop m xs) (omega arith)) ∙ ap (turned w n) (take-append-drop m xs)

-- One octet turned round is itself.
pub turned_one : (n : ℕ) (xs : List ℕ) → turned 1 n xs ≡ take n xs
unfolding turned
turned_one zero xs = refl
turned_one (suc n) [] = turned_one n [] ∙ take-nil n
turned_one (suc n) (x ∷ xs) = ap (λ (l : List ℕ). x ∷ l) (turned_one n xs)

-- The length of n samples that are there.
pub length-turned : (w n : ℕ) (xs : List ℕ) → n * w ≤ length xs → length (turned w n xs) ≡ n * w
unfolding turned
length-turned w zero xs h = rw zero-mul
length-turned w (suc n) xs h =
    let m : suc n * w ≡ n * w + w = suc-mul n w in
    let l : length (drop w xs) ≡ length xs - w = length-drop w xs in
    rw (length-append, length-reverse, length-take-le w xs (omega arith), length-turned w n (drop w xs) (omega arith))
    (omega arith)

-- Where the samples are there, the run is them, and else it is empty.
pub run_turned : (w n : ℕ) (xs : List ℕ) → n * w ≤ length xs → turned_run w n xs ≡ turned w n xs
unfolding turned_run
run_turned w n xs h = simp le-leb

pub run_missing : (w n : ℕ) (xs : List ℕ) → length xs < n * w → turned_run w n xs ≡ []
unfolding turned_run
run_missing w n xs h = simp lt-leb
