-- Each way out is a law of what a waveform gives: the first three are for numbers that no file has, and past them the answer is document 01's.
use Rattle.std.specs.Prelude.{Ok}
use lib.IntN.{ℤ, pos, ◌+ℤ◌}
use Prim.Native.Nat.{◌*◌, ◌<◌}
use mir.Syntax.{w64}
use mir.Val.{SFits}
use mir.Facts.{to_z-of_z}
use mathlib.Core.Bool.{true, not}
use mathlib.Core.Path.{◌≡◌, ap, sym, ◌∙◌}
use native.Mathlib.Omega.{arith}
use borrow.Author.Rules.{rules}
use Rattle.octets.specs.Number.{range}
use Rattle.standing.specs.declared.Standing.{Standing}
use Rattle.standing.specs.Standing.{with_continued}
use Rattle.framing.specs.Framing.{pointer_fits, pointer_after, framed_as}
use Rattle.framing.specs.AnyNumbers.{framed_by}
use Rattle.framing.proofs.Framings.{sequences-small, framed_empty, framed_large, framed_block, framed_same, framed_limit, framed_width, framed_pointer, framed_taken}
use Rattle.framing.proofs.frame_of.Goals as goal

-- ---- what is known at the places on the way

-- ---- the needs

pub returns-then-octets-eq0 : goal.returns-then-octets-eq0
returns-then-octets-eq0 c = framed_empty _ _ _ _ _ c.if-octets-eq0.true

pub returns-then-long-gt-OCTETS : goal.returns-then-long-gt-OCTETS
returns-then-long-gt-OCTETS c = framed_large _ _ _ _ _ (omega arith) c.if-long-gt-OCTETS.true

pub returns-then-st-gt-BLOCK_LIMIT : goal.returns-then-st-gt-BLOCK_LIMIT
returns-then-st-gt-BLOCK_LIMIT c = framed_block _ _ _ _ _ (omega arith) c.if-long-gt-OCTETS.false c.if-st-gt-BLOCK_LIMIT.true

pub returns-then-frames-ge-FRAMES : goal.returns-then-frames-ge-FRAMES
returns-then-frames-ge-FRAMES c =
    let same : let a = c.args in framed_as a.frames a.st a.agree a.octets a.long ≡ framed_by a.frames a.st a.agree a.octets a.long =
    sym (framed_same _ _ _ _ _ (omega arith) c.if-long-gt-OCTETS.false c.if-st-gt-BLOCK_LIMIT.false) in
    framed_limit _ _ _ _ _ c.if-frames-ge-FRAMES.true ∙ same

pub returns-then-not-agree : goal.returns-then-not-agree
returns-then-not-agree c =
    let same : let a = c.args in framed_as a.frames a.st a.agree a.octets a.long ≡ framed_by a.frames a.st a.agree a.octets a.long =
    sym (framed_same _ _ _ _ _ (omega arith) c.if-long-gt-OCTETS.false c.if-st-gt-BLOCK_LIMIT.false) in
    framed_width _ _ _ _ _ c.if-frames-ge-FRAMES.false (ap not c.if-not-agree.true) ∙ same

pub returns-then-not-pointer_fits : goal.returns-then-not-pointer_fits
returns-then-not-pointer_fits c =
    let same : let a = c.args in framed_as a.frames a.st a.agree a.octets a.long ≡ framed_by a.frames a.st a.agree a.octets a.long =
    sym (framed_same _ _ _ _ _ (omega arith) c.if-long-gt-OCTETS.false c.if-st-gt-BLOCK_LIMIT.false) in
    let in64 : SFits w64 c.args.st.start =
    search rules in
    let looked : pointer_fits c.args.st.start ≡ c.pointer_fits.result =
    ap pointer_fits (sym (to_z-of_z (in64))) ∙ sym c.pointer_fits.ensures in
    framed_pointer _ _ _ _ _ c.if-frames-ge-FRAMES.false (ap not c.if-not-agree.false) (looked ∙ c.if-not-pointer_fits.true) ∙ same

pub pointer_after-z-requires : goal.pointer_after-z-requires
pointer_after-z-requires c =
    let small : c.sequences_of-sequences.result < range 4 =
    let a = c.args in
    rw c.sequences_of-sequences.ensures (sequences-small a.st.sequences a.long a.octets (omega arith) (omega arith)) in
    (sym c.pointer_fits.ensures ∙ c.if-not-pointer_fits.false, c.if-st-gt-BLOCK_LIMIT.false, small)

pub overflow_cast-result : goal.overflow_cast-result
overflow_cast-result c =
    let small : c.sequences_of-sequences.result < range 4 =
    let a = c.args in
    rw c.sequences_of-sequences.ensures (sequences-small a.st.sequences a.long a.octets (omega arith) (omega arith)) in
    omega (arith, small)

pub returns : goal.returns
unfolding pointer_after
returns c =
    let same : let a = c.args in framed_as a.frames a.st a.agree a.octets a.long ≡ framed_by a.frames a.st a.agree a.octets a.long =
    sym (framed_same _ _ _ _ _ (omega arith) c.if-long-gt-OCTETS.false c.if-st-gt-BLOCK_LIMIT.false) in
    let in64 : SFits w64 c.args.st.start =
    search rules in
    let looked : pointer_fits c.args.st.start ≡ c.pointer_fits.result =
    ap pointer_fits (sym (to_z-of_z (in64))) ∙ sym c.pointer_fits.ensures in
    let fits : pointer_fits c.args.st.start ≡ true =
    looked ∙ c.if-not-pointer_fits.false in
    let in64_after : SFits w64 c.pointer_after-z.result =
    search rules in
    let after : c.pointer_after-z.result ≡ pointer_after c.args.st c.sequences_of-sequences.result =
    c.pointer_after-z.ensures ∙ ap (λ (z : ℤ). z +ℤ pos (c.args.st.root.block * c.sequences_of-sequences.result)) (to_z-of_z (in64)) in
    let n = c.sequences_of-sequences.result in
    ap (λ (x : Standing). Ok (n, x)) (c.with_continued.ensures ∙ ap (λ (z : ℤ). with_continued z c.args.st) (to_z-of_z (in64_after) ∙ after))
    ∙ framed_taken _ _ _ _ _ c.if-frames-ge-FRAMES.false (ap not c.if-not-agree.false) (fits) n c.sequences_of-sequences.ensures
    ∙ same
