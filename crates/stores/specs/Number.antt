-- Numbers as octets, the highest octet first.
use Rattle.std.specs.Prelude.{◌≡◌, refl, List, [], ◌∷◌, ◌++◌, ℕ, zero, suc, ◌+◌, ◌/◌, ◌%◌, length}
use Rattle.std.proofs.Common.{add-one, arith, length-append}

-- The w low octets of n.
unfoldable pub be : ℕ → ℕ → List ℕ
be zero n = []
be (suc w) n = be w (n / 256) ++ (n % 256 ∷ [])

pub length-be : (w n : ℕ) → length (be w n) ≡ w
unfolding be
length-be zero n = refl
length-be (suc w) n = rw (length-append, length-be w (n / 256), add-one)

-- The item of a number: its tag, its width, and that many low octets.
unfoldable pub field : ℕ → ℕ → ℕ → List ℕ
field tag w x = tag ∷ w ∷ be w x

pub length-field : (tag w x : ℕ) → length (field tag w x) ≡ 2 + w
unfolding field
length-field tag w x = omega (arith, length-be w x)
