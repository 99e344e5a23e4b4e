-- Each number is read back from its bits.
use borrow.Author.Rules.{rules}
use mathlib.Core.Path.{◌≡◌, ◌∙◌}
use mathlib.Core.List.{[], ◌∷◌}
use lib.IntN.{ℤ}
use mir.Syntax.{w8, w32, w64}
use mir.Val.{SFits, to_z, of_z}
use mir.Facts.{to_z-of_z}
use Rattle.reader.specs.declared.Attributes.{Attributes}
use Rattle.numbers.specs.Numbers.{numbers_of}
use Rattle.numbers.proofs.numbers_of.Goals as goal
use Rattle.numbers.proofs.numbers_of.Goals.{After-from}

-- The signed numbers that go in are of their types.
record Typed (a : Attributes) : Type 0 where
  start : SFits w64 a.start
  exponent : SFits w8 a.settings.interval.exponent
  mantissa : SFits w32 a.settings.interval.mantissa
  exponent2 : SFits w8 a.settings.resolution.exponent
  mantissa2 : SFits w32 a.settings.resolution.mantissa

typed : (c : After-from) → Typed c.args.a
typed c = search rules

-- A number of 64 bits is read back.
back : {r z : ℤ} → SFits w64 r → r ≡ z → to_z w64 (of_z w64 r) ≡ z
back f e = to_z-of_z f ∙ e

pub returns : goal.returns
unfolding numbers_of
returns c =
    let t = typed (goal.at.returns c).After-from in
    λ i.
    to_z-of_z t.start i
    ∷ back (record { sfits = c.from.type_inv }) c.from.ensures i
    ∷ back (record { sfits = c.from-2.type_inv }) c.from-2.ensures i
    ∷ back (record { sfits = c.from-3.type_inv }) c.from-3.ensures i
    ∷ back (record { sfits = c.from-4.type_inv }) c.from-4.ensures i
    ∷ back (record { sfits = c.from-5.type_inv }) c.from-5.ensures i
    ∷ back (record { sfits = c.from-6.type_inv }) c.from-6.ensures i
    ∷ back (record { sfits = c.from-7.type_inv }) c.from-7.ensures i
    ∷ back (record { sfits = c.from-8.type_inv }) (c.from-8.ensures ∙ to_z-of_z t.exponent) i
    ∷ back (record { sfits = c.from-9.type_inv }) (c.from-9.ensures ∙ to_z-of_z t.mantissa) i
    ∷ back (record { sfits = c.from-10.type_inv }) c.from-10.ensures i
    ∷ back (record { sfits = c.from-11.type_inv }) (c.from-11.ensures ∙ to_z-of_z t.exponent2) i
    ∷ back (record { sfits = c.from-12.type_inv }) (c.from-12.ensures ∙ to_z-of_z t.mantissa2) i
    ∷ back (record { sfits = c.from-13.type_inv }) c.from-13.ensures i
    ∷ back (record { sfits = c.from-14.type_inv }) c.from-14.ensures i
    ∷ []
