-- Whole numbers, what is no number, and any other.
use mathlib.Core.Path.{sym, ap, ◌∙◌}
use lib.Dec.{ltb}
use mir.Syntax.{w64}
use mir.Val.{SFits}
use mir.Facts.{to_z-of_z}
use borrow.Author.Tests.{lt-ltb, le-ltb}
use borrow.Author.Rules.{rules}
use Rattle.values.specs.declared.Shape.{Shape}
use Rattle.values.specs.Told.{telling, number_told}
use Rattle.values.proofs.Shape.number.Goals as goal

pub returns-in-Whole : goal.returns-in-Whole
unfolding number_told
returns-in-Whole c =
    let in64 : SFits w64 c.whole_told.result =
    search rules in
    ap (telling 0) (to_z-of_z in64 ∙ c.whole_told.ensures) ∙ ap (λ (x : Shape). number_told x c.args.bits) (sym c.in-Whole.is)

pub returns-then-infinity-signless : goal.returns-then-infinity-signless
unfolding number_told
returns-then-infinity-signless c =
    simp (c.in-Other.is, ap (ltb _) (sym c.signless.ensures) ∙ lt-ltb _ _ c.if-infinity-signless.true)

pub returns-else-infinity-signless : goal.returns-else-infinity-signless
unfolding number_told
returns-else-infinity-signless c =
    simp (c.in-Other.is, ap (ltb _) (sym c.signless.ensures) ∙ le-ltb _ _ c.if-infinity-signless.false)
