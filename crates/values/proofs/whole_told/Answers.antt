-- By the two tests; the complement of a distance from the top is the number less the range.
use mathlib.Core.Path.{◌≡◌, ap, ◌∙◌}
use Prim.Native.Nat.{suc, ◌-◌, ◌^◌}
use native.Mathlib.Omega.{arith}
use borrow.Author.Tests.{le-leb, lt-leb}
use mir.Syntax.{w64}
use mir.Val.{to_z}
use mir.Facts.{to_z_pos, to_z-neg}
use Rattle.values.specs.Told.{whole_told}
use Rattle.values.proofs.whole_told.Goals as goal

pub returns-then-bits-last : goal.returns-then-bits-last
unfolding whole_told
returns-then-bits-last c =
    let a = c.args in
    to_z_pos w64 {n = a.bits} (omega arith) ∙ simp (le-leb _ _ c.if-bits-last.true)

pub returns-then-bits-top : goal.returns-then-bits-top
unfolding whole_told
returns-then-bits-top c =
    let a = c.args in
    let e : 18446744073709551615 - (a.top - a.bits) ≡ 2 ^ 64 - suc (a.top - a.bits) = omega arith in
    ap (to_z w64) e ∙ to_z-neg w64 (a.top - a.bits) (omega arith) ∙ simp (lt-leb _ _ c.if-bits-last.false, le-leb _ _ c.if-bits-top.true)

pub returns : goal.returns
unfolding whole_told
returns c = simp (lt-leb _ _ c.if-bits-last.false, lt-leb _ _ c.if-bits-top.false)
