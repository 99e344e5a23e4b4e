-- `stores::overruns` meets its contract: a place past the size overruns, and else what is left behind the place is compared.
use mathlib.Core.Path.{◌≡◌, refl, sym}
use mathlib.Core.Bool.{Bool, true, false}
use Prim.Native.Nat.{ℕ, ◌+◌, ◌-◌, ◌<◌, ◌≤◌}
use native.Mathlib.Omega.{arith}
use lib.Dec.{ltb}
use borrow.Author.Tests.{lt-ltb, le-ltb, ltb-true, ltb-false}
use Rattle.stores.proofs.overruns.Goals as goal

-- Two tests are equal where either outcome of the first gives that of the second.
same_test : (t : Bool) (a b x y : ℕ) → ltb a b ≡ t → (a < b → x < y) → (b ≤ a → y ≤ x) → t ≡ ltb x y
same_test true a b x y e f g = sym (lt-ltb x y (f (ltb-true a b e)))
same_test false a b x y e f g = sym (le-ltb x y (g (ltb-false a b e)))

pub returns-then-size-at : goal.returns-then-size-at
returns-then-size-at c = let a = c.args in sym (lt-ltb a.size (a.at + a.n) (omega arith))

pub returns : goal.returns
returns c =
    let a = c.args in
    same_test _ (a.size - a.at) a.n a.size (a.at + a.n) refl (λ h. omega arith) (λ h. omega arith)
