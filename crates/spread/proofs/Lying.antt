-- Laws of where the samples of a channel lie.
--     rest_test       a sum that fits
--     lies_in_lem, in_lies            the test whether samples lie in a file
--     there-named, spread_inside    a sample that is there is declared, and ends in the file
-- Assumes nothing.
use mathlib.Core.Path.{◌≡◌, refl, sym}
use mathlib.Core.Bool.{Bool, true, false}
use Prim.Native.Nat.{ℕ, ◌+◌, ◌-◌, ◌*◌, ◌≤◌, ◌<◌}
use native.Mathlib.Omega.{arith}
use borrow.Author.Tests.{ltb-true, leb-true, leb-false, lt-ltb, le-leb, lt-leb}
use lib.Dec.{ltb, leb}
use Rattle.octets.proofs.Pick.{both_split}
use Rattle.there.proofs.Counts.{count-few, count-inside}
use Rattle.standing.specs.Standing.{octets_limit}
use Rattle.spread.specs.declared.Spread.{Spread}
use Rattle.spread.specs.Spread.{width_spread, count_spread, there_spread, place_spread, lies_spread}
use Rattle.spread.specs.Lies.{Lies}

-- What is left of n behind b holds a where n holds both.
pub rest_test : (a b n : ℕ) → b ≤ n → leb a (n - b) ≡ leb (a + b) n
rest_test a b n h = by (leb a (n - b)) refl
  where
    by : (t : Bool) → leb a (n - b) ≡ t → t ≡ leb (a + b) n
    by true e = sym (le-leb (a + b) n (omega (arith, leb-true a (n - b) e)))
    by false e = sym (lt-leb (a + b) n (omega (arith, leb-false a (n - b) e)))

module _ {size : ℕ} {x : Spread} where
  pub lies_in_lem : lies_spread size x ≡ true → Lies size x
  lies_in_lem e =
      let a = both_split (leb size octets_limit) _ e in
      let b = both_split (ltb 0 (width_spread x)) _ a.1 in
      let c = both_split (leb (x.below + x.block * width_spread x) x.octets) _ b.1 in
      record { small = leb-true _ _ a.0; wide = ltb-true _ _ b.0; block = leb-true _ _ c.0; inside = leb-true _ _ c.1 }

  pub in_lies : Lies size x → lies_spread size x ≡ true
  in_lies l = simp (le-leb _ _ l.small, lt-ltb _ _ l.wide, le-leb _ _ l.block, le-leb _ _ l.inside)

-- A sample that is there is declared.
pub there-named : (x : Spread) (n : ℕ) → n < there_spread x → n < count_spread x
there-named x n h = omega (arith, count-few x.sequences x.block (width_spread x) x.octets x.below x.long)

-- Where the samples there lie in a file, it ends there.
pub spread_inside : {size : ℕ} {x : Spread} → Lies size x → (n : ℕ) → n < there_spread x → place_spread x n + width_spread x ≤ size
spread_inside {x = x} l n h =
    let e = (count-inside x.sequences x.block (width_spread x) x.octets x.below x.long l.wide l.block n (there-named x n h)).1 h in
    omega (arith, l.inside)
