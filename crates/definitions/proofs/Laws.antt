-- Laws of definitions.
--     define-..    the ways of a definition
-- Assumes nothing.
use Rattle.std.specs.Prelude.{Ok, Err}
use mathlib.Core.Path.{◌≡◌}
use mathlib.Core.List.{List}
use mathlib.Core.Bool.{Bool, true, false}
use Prim.Native.Nat.{ℕ}
use borrow.Author.Tests.{eq-eqb, ne_eqb}
use lib.ListN.{length}
use Rattle.heads.specs.declared.Fault.TheVariants.{UnfitLength, UnfitValue}
use Rattle.settings.specs.declared.Settings.{Settings}
use Rattle.definitions.specs.declared.Attribute.{Attribute}
use Rattle.definitions.specs.Define.{length_fits, standing_in, change_of, in_range, defined}

module _ (a : Attribute) (little : Bool) (base : Settings) (v : List ℕ) where
  pub define_length : length_fits a (length v) ≡ false → Err UnfitLength ≡ defined a little base v
  unfolding defined
  define_length f = simp f

  pub define_back : length_fits a (length v) ≡ true → length v ≡ 0 → Ok (standing_in a base) ≡ defined a little base v
  unfolding defined
  define_back f z = simp (f, eq-eqb (length v) 0 z)

  pub define_changed : length_fits a (length v) ≡ true → (length v ≡ 0 → ⊥) → in_range (change_of a little v) ≡ true → Ok (change_of a little v) ≡ defined a little base v
  unfolding defined
  define_changed f z r = simp (f, ne_eqb (length v) 0 z, r)

  pub define_value : length_fits a (length v) ≡ true → (length v ≡ 0 → ⊥) → in_range (change_of a little v) ≡ false → Err UnfitValue ≡ defined a little base v
  unfolding defined
  define_value f z r = simp (f, ne_eqb (length v) 0 z, r)
