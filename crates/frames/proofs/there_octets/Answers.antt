-- All declared octets where the waveform has them, else all but those of a sample that is cut off.
use Rattle.frames.specs.Channels.{settings_of}
use mathlib.Core.Path.{sym, ap, ◌∙◌}
use native.Mathlib.Omega.{arith}
use borrow.Author.Tests.{leb-true, leb-false}
use Prim.Native.Nat.{ℕ, ◌-◌, ◌*◌, ◌≤◌}
use Rattle.frames.proofs.Parting.{width_some, octets-whole, octets_cut, partial_few}
use Rattle.frames.proofs.there_octets.Goals as goal

pub overflow_mul-result : goal.overflow_mul-result
overflow_mul-result c =
    let a = c.args in
    let h : a.sequences * a.sequence ≤ a.long = leb-true _ _ (sym c.holds.ensures ∙ c.if-holds.true) in
    omega (arith, c.ranges.long)

pub returns-then-holds : goal.returns-then-holds
returns-then-holds c =
    let a = c.args in
    octets-whole (settings_of a.channels) _ _ c.requires (leb-true _ _ (sym c.holds.ensures ∙ c.if-holds.true))

pub nonzero_rem-long : goal.nonzero_rem-long
nonzero_rem-long c =
    let a = c.args in
    width_some a.sequences _ _ (leb-false _ _ (sym c.holds.ensures ∙ c.if-holds.false))

pub overflow_sub-result : goal.overflow_sub-result
overflow_sub-result c =
    let a = c.args in
    omega (arith, c.partial_octets.ensures, partial_few (settings_of a.channels) a.sequences a.long c.requires)

pub returns : goal.returns
returns c =
    let a = c.args in
    ap (λ (n : ℕ). a.long - n) c.partial_octets.ensures ∙ octets_cut (settings_of a.channels) _ _ c.requires (leb-false _ _ (sym c.holds.ensures ∙ c.if-holds.false))
