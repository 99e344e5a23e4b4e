-- What a value keeps of its sample's bits.
--     said_back     what a value says tells which value it is: nothing is lost
--     value-some    no bits have no data for their value
--     value-bits    a status, a single, a double and a float that is no number have exactly the sample's bits
--     null_first, null_only    null is answered exactly where the bits are null's
-- Assumes nothing.
use mathlib.Core.Path.{◌≡◌, refl, sym, ap, subst, ◌∙◌}
use mathlib.Core.List.{[], ◌∷◌}
use mathlib.Core.Bool.{true}
use Prim.Native.Nat.{ℕ, ◌<◌}
use native.Mathlib.Omega.{arith}
use lib.Dec.{T}
use lib.Ieee.{binary32, binary64, fits, nan_bits, of_bits}
use lib.Ieee.Bits.{of_bits-to_bits}
use lib.IntN.{pos}
use lib.ListN.{get_or}
use Rattle.octets.proofs.Pick.{pick_cases}
use Rattle.values.specs.declared.Bits.{Bits}
use Rattle.values.specs.declared.Value.{Value}
use Rattle.values.specs.declared.Value.TheVariants.{Whole, Status, Single, Double, NotNumber, Null, NoData}
use Rattle.values.proofs.Laws.{type_cases, plain_other}
use Rattle.values.specs.Sample.{Said, whole_said, null_said, no_data_said, value_says, single_of, double_of, plain_of, is_null, value_of}

-- ---- what a value says

-- The value that says so.
abbrev saying : Said → Value
saying x =
    get_or (Whole x.whole ∷ Status x.bits ∷ Single (of_bits binary32 x.bits) ∷ Double (of_bits binary64 x.bits) ∷ NotNumber x.bits ∷ Null ∷ []) x.kind NoData

-- A single is one of its format, and so is a double; every value that a program has is.
abbrev pub Held : Value → Type 0
Held (Whole z) = Unit {0}
Held (Status n) = Unit {0}
Held (Single x) = T (fits binary32 x)
Held (Double x) = T (fits binary64 x)
Held (NotNumber n) = Unit {0}
Held Null = Unit {0}
Held NoData = Unit {0}

back : (v : Value) → Held v → saying (value_says v) ≡ v
unfolding value_says
back (Whole z) h = refl
back (Status n) h = refl
back (Single x) h = ap Single (of_bits-to_bits binary32 x h)
back (Double x) h = ap Double (of_bits-to_bits binary64 x h)
back (NotNumber n) h = refl
back Null h = refl
back NoData h = refl

pub said_back : (a b : Value) → Held a → Held b → value_says a ≡ value_says b → a ≡ b
said_back a b h k e = sym (back a h) ∙ ap saying e ∙ back b k

-- ---- the value of some bits

-- A value that is not whole says these bits, and it is not null.
abbrev HasBits : ℕ → Said → Type 0
HasBits n x = (x.kind < 5) × (0 < x.kind → x.bits ≡ n)

single_has : (n : ℕ) → HasBits n (single_of n)
unfolding single_of
single_has n = pick_cases (HasBits n) (nan_bits binary32 n) (λ e. (omega arith, λ h. refl)) (λ e. (omega arith, λ h. refl))

double_has : (n : ℕ) → HasBits n (double_of n)
unfolding double_of
double_has n = pick_cases (HasBits n) (nan_bits binary64 n) (λ e. (omega arith, λ h. refl)) (λ e. (omega arith, λ h. refl))

whole_has : (n : ℕ) → HasBits n (whole_said (pos 0))
whole_has n = (omega arith, λ h. let w : ⊥ = omega arith in absurd w)

plain_has : (k n : ℕ) → HasBits n (plain_of k n)
unfolding plain_of
plain_has k n =
    let w = whole_has n in
    type_cases (λ (j : ℕ). HasBits n (plain_of j n)) w w w w (omega arith, λ h. refl) w w (single_has n) (double_has n)
    (λ j h. subst (HasBits n) (plain_other j n h) w) k

module _ (datatype : ℕ) (null : Bits) (bits : ℕ) where
  -- A value that is neither whole nor null.
  pub value-bits : 0 < (value_of datatype null bits).kind → (value_of datatype null bits).kind < 5 → (value_of datatype null bits).bits ≡ bits
  unfolding value_of
  value-bits =
      pick_cases (λ (x : Said). 0 < x.kind → x.kind < 5 → x.bits ≡ bits) (is_null null bits)
      (λ t l h. let z : ⊥ = omega arith in absurd z)
      (λ t l h. (plain_has datatype bits).1 l)

  -- No bits have no data for their value.
  pub value-some : (value_of datatype null bits).kind < no_data_said.kind
  unfolding value_of
  value-some =
      pick_cases (λ (x : Said). x.kind < no_data_said.kind) (is_null null bits) (λ t. omega arith) (λ t. omega (arith, (plain_has datatype bits).0))

  -- Null is answered where the sample's bits are null's, and nowhere else.
  pub null_first : is_null null bits ≡ true → value_of datatype null bits ≡ null_said
  unfolding value_of
  null_first h = rw h

  pub null_only : (value_of datatype null bits).kind ≡ 5 → is_null null bits ≡ true
  unfolding value_of
  null_only =
      pick_cases (λ (x : Said). x.kind ≡ 5 → is_null null bits ≡ true) (is_null null bits)
      (λ t e. t)
      (λ t e. let z : ⊥ = omega (arith, (plain_has datatype bits).0) in absurd z)
