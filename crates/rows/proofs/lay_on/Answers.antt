-- The loop's invariant: the samples before the one at hand are laid.
use mathlib.Core.Path.{sym, ◌∙◌}
use Prim.Native.Nat.{◌-◌, ◌*◌, ◌^◌, ◌<◌}
use native.Mathlib.Omega.{arith}
use lib.ListN.{length}
use borrow.Author.Rules.{rules}
use Rattle.rows.specs.Rows.{row_words}
use Rattle.rows.proofs.Laying.{Fitting, onward-none, onward-more, tests_true, tests_false}
use Rattle.rows.proofs.lay_on.Goals as goal

pub loop-bits-init : goal.loop-bits-init
loop-bits-init c = onward-none _ _ _ _ _ _ (omega arith) (omega arith)

pub bits_at-bits-requires : goal.bits_at-bits-requires
bits_at-bits-requires c =
    let fits-here : (let a = c.args in
    Fitting c.loop-bits.x.sequence a.v.sequences c.width-w.result (length a.u.now - c.loop-bits.i) (length a.out.now - row_words * c.loop-bits.n)) =
    let sampling = c.sampling_at-c in
    let a = c.args in
    let l = c.loop-bits in
    tests_true a.t.now a.v a.count a.u.now a.from a.out.now l.x l.i l.n l.out
    sampling.result c.width-w.result sampling.ensures c.width-w.ensures l.invariant (sym c.lays.ensures ∙ c.if-lays.true) in
    let h = fits-here in (h.narrow, omega (arith, h.fit, h.some))

pub overflow_add-count : goal.overflow_add-count
overflow_add-count c =
    let fits-here : (let a = c.args in
    Fitting c.loop-bits.x.sequence a.v.sequences c.width-w.result (length a.u.now - c.loop-bits.i) (length a.out.now - row_words * c.loop-bits.n)) =
    let sampling = c.sampling_at-c in
    let a = c.args in
    let l = c.loop-bits in
    tests_true a.t.now a.v a.count a.u.now a.from a.out.now l.x l.i l.n l.out
    sampling.result c.width-w.result sampling.ensures c.width-w.ensures l.invariant (sym c.lays.ensures ∙ c.if-lays.true) in
    omega (arith, fits-here)

pub put_row-requires : goal.put_row-requires
put_row-requires c =
    let fits-here : (let a = c.args in
    Fitting c.loop-bits.x.sequence a.v.sequences c.width-w.result (length a.u.now - c.loop-bits.i) (length a.out.now - row_words * c.loop-bits.n)) =
    let sampling = c.sampling_at-c in
    let a = c.args in
    let l = c.loop-bits in
    tests_true a.t.now a.v a.count a.u.now a.from a.out.now l.x l.i l.n l.out
    sampling.result c.width-w.result sampling.ensures c.width-w.ensures l.invariant (sym c.lays.ensures ∙ c.if-lays.true) in
    record {
      bits_bound = rw c.width-w.ensures at c.bits_at-bits.ensures.1;
      row_words_in_bounds = omega (arith, fits-here, c.loop-bits.invariant.long);
    }

pub overflow_add-i : goal.overflow_add-i
overflow_add-i c =
    let fits-here : (let a = c.args in
    Fitting c.loop-bits.x.sequence a.v.sequences c.width-w.result (length a.u.now - c.loop-bits.i) (length a.out.now - row_words * c.loop-bits.n)) =
    let sampling = c.sampling_at-c in
    let a = c.args in
    let l = c.loop-bits in
    tests_true a.t.now a.v a.count a.u.now a.from a.out.now l.x l.i l.n l.out
    sampling.result c.width-w.result sampling.ensures c.width-w.ensures l.invariant (sym c.lays.ensures ∙ c.if-lays.true) in
    omega (arith, fits-here, c.requires.u_bound)

pub overflow_add-n : goal.overflow_add-n
overflow_add-n c =
    let fits-here : (let a = c.args in
    Fitting c.loop-bits.x.sequence a.v.sequences c.width-w.result (length a.u.now - c.loop-bits.i) (length a.out.now - row_words * c.loop-bits.n)) =
    let sampling = c.sampling_at-c in
    let a = c.args in
    let l = c.loop-bits in
    tests_true a.t.now a.v a.count a.u.now a.from a.out.now l.x l.i l.n l.out
    sampling.result c.width-w.result sampling.ensures c.width-w.ensures l.invariant (sym c.lays.ensures ∙ c.if-lays.true) in
    omega (arith, fits-here)

pub next-x-requires : goal.next-x-requires
next-x-requires c =
    let few : c.args.v.sequences < 2 ^ 32 =
    search rules in
    let fits-here : (let a = c.args in
    Fitting c.loop-bits.x.sequence a.v.sequences c.width-w.result (length a.u.now - c.loop-bits.i) (length a.out.now - row_words * c.loop-bits.n)) =
    let sampling = c.sampling_at-c in
    let a = c.args in
    let l = c.loop-bits in
    tests_true a.t.now a.v a.count a.u.now a.from a.out.now l.x l.i l.n l.out
    sampling.result c.width-w.result sampling.ensures c.width-w.ensures l.invariant (sym c.lays.ensures ∙ c.if-lays.true) in
    omega (arith, fits-here, few)

pub loop-bits-smaller : goal.loop-bits-smaller
loop-bits-smaller c =
    let fits-here : (let a = c.args in
    Fitting c.loop-bits.x.sequence a.v.sequences c.width-w.result (length a.u.now - c.loop-bits.i) (length a.out.now - row_words * c.loop-bits.n)) =
    let sampling = c.sampling_at-c in
    let a = c.args in
    let l = c.loop-bits in
    tests_true a.t.now a.v a.count a.u.now a.from a.out.now l.x l.i l.n l.out
    sampling.result c.width-w.result sampling.ensures c.width-w.ensures l.invariant (sym c.lays.ensures ∙ c.if-lays.true) in
    omega (arith, fits-here)

pub loop-bits-preserved : goal.loop-bits-preserved
loop-bits-preserved c =
    let sampling = c.sampling_at-c in
    let a = c.args in
    let l = c.loop-bits in
    onward-more a.t.now a.v a.count a.u.now a.from a.out.now l.x l.i l.n l.out
    sampling.result c.width-w.result sampling.ensures c.width-w.ensures l.invariant (sym c.lays.ensures ∙ c.if-lays.true)
    c.bits_at-bits.result c.bits_at-bits.ensures.0 c.next-x.result c.next-x.ensures _ c.put_row.ensures

pub shape_of-out-else-lays : goal.shape_of-out-else-lays
shape_of-out-else-lays c = c.loop-bits.invariant.long

pub returns-else-lays : goal.returns-else-lays
returns-else-lays c =
    let sampling = c.sampling_at-c in
    let a = c.args in
    let l = c.loop-bits in
    record {
      onward = l.invariant;
      given_value = tests_false a.t.now a.v a.count a.u.now a.from a.out.now l.x l.i l.n l.out
          sampling.result c.width-w.result sampling.ensures c.width-w.ensures l.invariant (sym c.lays.ensures ∙ c.if-lays.false);
    }
