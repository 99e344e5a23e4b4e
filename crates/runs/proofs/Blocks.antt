-- Blocks of 16 octets, and samples that are turned round in their place.
--     Whole, whole    what the widths of the fast way have in common
--     pasted          a write to a part of a buffer is a run of stores
--     here_begins, here_turns    a loop over samples that are turned round in their place
--     block_stored    a block that was read, turned round and stored
-- Assumes nothing.
use mathlib.Core.Path.{◌≡◌, refl, sym, ap, ◌∙◌}
use mathlib.Core.Logic.{◌⊎◌, ⊎_elim}
use mathlib.Core.List.{List, ◌++◌, reverse, append_assoc}
use Prim.Native.Nat.{ℕ, ◌+◌, ◌*◌, ◌/◌, ◌≤◌, ◌<◌}
use native.Mathlib.Nat.{add-mul, one-mul, zero-mul}
use native.Mathlib.Omega.{arith}
use lib.ListN.{length, take, drop, length-drop}
use lib.Seq.{sets, sets-eq, drop-drop, take_at, drop_at}
use borrow.Rule.Slice.PartMut.{put_mid}
use Rattle.runs.specs.Turned.{turned}
use Rattle.runs.proofs.Turned.{turned-add, turned-take, length-turned}
use Rattle.runs.proofs.Samples.{turned-sample}

pub record Whole (w : ℕ) : Type 0 where
  pub some : 0 < w
  pub each : 0 < 16 / w
  pub size : 16 / w * w ≡ 16

pub whole : {w : ℕ} → (w ≡ 2) ⊎ ((w ≡ 4) ⊎ (w ≡ 8)) → Whole w
whole =
    ⊎_elim
    (λ e. rw e (record { some = omega arith; each = omega arith; size = refl }))
    (⊎_elim
    (λ e. rw e (record { some = omega arith; each = omega arith; size = refl }))
    (λ e. rw e (record { some = omega arith; each = omega arith; size = refl })))

pub pasted : (xs ys : List ℕ) (a k : ℕ) → length ys ≡ k → a + k ≤ length xs → put_mid a k xs ys ≡ sets xs a ys
pasted xs ys a k e h =
    let rest : drop k (drop a xs) ≡ drop (a + length ys) xs = drop-drop k a xs ∙ ap (λ (m : ℕ). drop (a + m) xs) (sym e) in
    ap (λ (l : List ℕ). take a xs ++ (ys ++ l)) rest ∙ sym (append_assoc (take a xs) ys (drop (a + length ys) xs)) ∙ sym (sets-eq ys xs a (omega arith))

-- The first k samples are turned round, and what stands behind them is as it was.
pub here_begins : (w : ℕ) (xs : List ℕ) → xs ≡ turned w 0 xs ++ drop (0 * w) xs
unfolding turned
here_begins w xs = rw zero-mul

pub here_turns : (w k m : ℕ) (xs₀ xs ys : List ℕ) → k * w + w ≤ length xs₀ → m ≡ w → xs ≡ turned w k xs₀ ++ drop (k * w) xs₀
    → ys ≡ reverse (take m (drop (k * w) xs)) → put_mid (k * w) m xs ys ≡ turned w (k + 1) xs₀ ++ drop ((k + 1) * w) xs₀
here_turns w k m xs₀ xs ys h e is turns =
    let u = turned w k xs₀ in
    let r = drop (k * w) xs₀ in
    let few : length u ≡ k * w = length-turned w k xs₀ (omega arith) in
    let front : take (k * w) xs ≡ u = ap (take (k * w)) is ∙ take_at u r (k * w) few in
    let back : drop (k * w) xs ≡ r = ap (drop (k * w)) is ∙ drop_at u r (k * w) few in
    let next : (k + 1) * w ≡ k * w + w = add-mul k 1 w ∙ rw one-mul in
    rw (turns, front, back, e, turned-add w k 1 xs₀, turned-sample w r, next, ← drop-drop w (k * w) xs₀, append_assoc)

-- A block that is read, turned round and stored is as many samples stored.
pub block_stored : {w : ℕ} (s d : List ℕ) (q p m k : ℕ) {xs ys : List ℕ} → Whole w → q + 16 ≤ length s → p + 16 ≤ length d → m ≡ 16 → k ≡ 16
    → xs ≡ take m (drop q s) → ys ≡ turned w (16 / w) xs → put_mid p k d ys ≡ sets d p (turned w (16 / w) (drop q s))
block_stored {w} s d q p m k {xs} {ys} a h r em ek read turns =
    let l = length-drop q s in
    let there : ys ≡ turned w (16 / w) (drop q s) = turns ∙ ap (turned w (16 / w)) (read ∙ ap (λ (j : ℕ). take j (drop q s)) em) ∙ turned-take w (16 / w) 16 (drop q s) (omega (arith, a.size)) (omega arith) in
    let few : length ys ≡ 16 = ap length there ∙ length-turned w (16 / w) (drop q s) (omega (arith, a.size)) ∙ a.size in
    rw ek (pasted d ys p 16 few r) ∙ ap (sets d p) there
