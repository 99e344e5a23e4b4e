-- The loop's invariant, for each buffer: what is told of the samples that are left gives the buffer that is wanted.
use mathlib.Core.Path.{sym, ap, ◌∙◌}
use mathlib.Core.List.{List}
use Prim.Native.Nat.{ℕ, ◌+◌, ◌≤◌}
use native.Mathlib.Omega.{arith}
use lib.ListN.{length, length-replicate}
use lib.Seq.{sets}
use Rattle.values.specs.declared.Meaning.{Meaning}
use Rattle.view.proofs.Lying.{seen_lies}
use Rattle.strides.specs.Laying.{bits_from}
use Rattle.bulk.specs.Samples.{bits_seen}
use Rattle.bulk.specs.Walked.{kinds_told, wholes_told}
use Rattle.bulk.proofs.Telling.{pieces_begin, pieces_turn, pieces_end, seen_piece, seen_long}
use Rattle.bulk.proofs.tell_samples.Goals as goal

pub loop-done-init : goal.loop-done-init
loop-done-init c =
    (pieces_begin _ _ _ _ c.requires.kinds_fit, (pieces_begin _ _ _ _ c.requires.wholes_fit, length-replicate {A = ℕ} 256 0))

pub overflow_add-first : goal.overflow_add-first
overflow_add-first c =
    omega (arith, c.requires.small, c.loop-done-test.true)

pub slice_bounds-seen-end : goal.slice_bounds-seen-end
slice_bounds-seen-end c =
    sym c.loop-done.invariant.1.1

pub slice_bounds-tell-end : goal.slice_bounds-tell-end
slice_bounds-tell-end c =
    let a = c.args in
    sym (seen_long a.s.now a.v _ c.loop-done.bits c.seen.ensures.out_after ∙ c.loop-done.invariant.1.1)

pub tell-requires : goal.tell-requires
tell-requires c =
    let a = c.args in
    let long = seen_long a.s.now a.v _ c.loop-done.bits c.seen.ensures.out_after ∙ c.loop-done.invariant.1.1 in
    record {
      n_in_bounds = omega (arith, c.smaller-k.ensures);
      n_in_bounds_2 = (omega (arith, c.smaller-k.ensures, c.loop-done.invariant.0.room), omega (arith, c.smaller-k.ensures, c.loop-done.invariant.1.0.room));
    }

pub loop-done-preserved : goal.loop-done-preserved
loop-done-preserved c =
    let a = c.args in
    let done = c.loop-done.done in
    let k = c.smaller-k.result in
    let long = seen_long a.s.now a.v _ c.loop-done.bits c.seen.ensures.out_after ∙ c.loop-done.invariant.1.1 in
    let fits : done + k ≤ a.n = omega (arith, c.smaller-k.ensures, c.loop-done-test.true) in
    let bits = seen_piece a.s.now a.v (a.first + done) (length c.loop-done.bits) k c.loop-done.bits (seen_lies c.requires.lies) (omega (arith, c.requires.number, c.loop-done-test.true)) (omega (arith, c.smaller-k.ensures, c.requires.number, c.loop-done-test.true, c.loop-done.invariant.1.1)) c.seen.ensures.out_after in (
      pieces_turn _ _ _ _ k fits (c.tell.ensures.kinds_after ∙ ap (λ (l : List ℕ). sets c.loop-done.kinds done (kinds_told c.of_type-m.result l)) bits) c.loop-done.invariant.0,
      (pieces_turn _ _ _ _ k fits (c.tell.ensures.wholes_after ∙ ap (λ (l : List ℕ). sets c.loop-done.wholes done (wholes_told c.of_type-m.result l)) bits) c.loop-done.invariant.1.0, long),
    )

pub shape_of-kinds : goal.shape_of-kinds
shape_of-kinds c = c.loop-done.invariant.0.long

pub shape_of-wholes : goal.shape_of-wholes
shape_of-wholes c = c.loop-done.invariant.1.0.long

pub returns : goal.returns
returns c =
    let e = c.of_type-m.ensures in
    let a = c.args in
    record {
      kinds_after = pieces_end _ _ _ _ c.loop-done-test.false c.loop-done.invariant.0 ∙ ap (λ (m : Meaning). sets a.kinds.now 0 (kinds_told m (bits_from (bits_seen a.s.now a.v) a.first a.n))) e;
      wholes_after = pieces_end _ _ _ _ c.loop-done-test.false c.loop-done.invariant.1.0 ∙ ap (λ (m : Meaning). sets a.wholes.now 0 (wholes_told m (bits_from (bits_seen a.s.now a.v) a.first a.n))) e;
    }
