-- The loop's invariant: the samples before the one at hand are laid. The data type says that the width is 2.
use mathlib.Core.Path.{◌≡◌, sym, ap, ◌∙◌}
use mathlib.Core.Bool.{true}
use Prim.Native.Nat.{◌-◌, ◌*◌, ◌^◌, ◌<◌}
use native.Mathlib.Omega.{arith}
use borrow.Author.Tests.{eqb-true}
use lib.Dec.{ltb, leb, eqb}
use lib.ListN.{length}
use Rattle.octets.specs.Pick.{both}
use Rattle.octets.proofs.Pick.{both_split}
use Rattle.values.specs.Sample.{width_of}
use borrow.Author.Rules.{rules}
use Rattle.rows.specs.Rows.{row_words, laid}
use Rattle.rows.proofs.Laying.{Fitting, onward-none, onward-more, tests_true}
use Rattle.rows.proofs.lay_twos.Goals as goal

pub loop-two-init : goal.loop-two-init
loop-two-init c = onward-none _ _ _ _ _ _ (omega arith) (omega arith)

pub two_at-two-requires : goal.two_at-two-requires
unfolding width_of
two_at-two-requires c =
    let tested_here : (let l = c.loop-two in let a = c.args in
    (eqb c.sampling_at-c.result.datatype 0 ≡ true)
    × (both (ltb l.x.sequence a.v.sequences) (both (ltb 0 2) (both (leb 2 (length a.u.now - l.i)) (leb row_words (length l.out - row_words * l.n)))) ≡ true)) =
    both_split (eqb c.sampling_at-c.result.datatype 0) _ (both_split (ltb c.loop-two.x.channel _) _ (sym c.lays_two.ensures ∙ c.if-lays_two.true)).1 in
    let width_here : 2 ≡ width_of c.sampling_at-c.result.datatype =
    sym (ap width_of (eqb-true c.sampling_at-c.result.datatype 0 (tested_here).0)) in
    let fits-here : (let a = c.args in
    Fitting c.loop-two.x.sequence a.v.sequences 2 (length a.u.now - c.loop-two.i) (length a.out.now - row_words * c.loop-two.n)) =
    let sampling = c.sampling_at-c in
    let a = c.args in
    let l = c.loop-two in
    tests_true a.t.now a.v a.count a.u.now (laid a.at 0 0) a.out.now l.x l.i l.n l.out
    sampling.result 2 sampling.ensures (width_here) l.invariant (tested_here).1 in
    omega (arith, fits-here)

pub overflow_add-count : goal.overflow_add-count
unfolding width_of
overflow_add-count c =
    let tested_here : (let l = c.loop-two in let a = c.args in
    (eqb c.sampling_at-c.result.datatype 0 ≡ true)
    × (both (ltb l.x.sequence a.v.sequences) (both (ltb 0 2) (both (leb 2 (length a.u.now - l.i)) (leb row_words (length l.out - row_words * l.n)))) ≡ true)) =
    both_split (eqb c.sampling_at-c.result.datatype 0) _ (both_split (ltb c.loop-two.x.channel _) _ (sym c.lays_two.ensures ∙ c.if-lays_two.true)).1 in
    let width_here : 2 ≡ width_of c.sampling_at-c.result.datatype =
    sym (ap width_of (eqb-true c.sampling_at-c.result.datatype 0 (tested_here).0)) in
    let fits-here : (let a = c.args in
    Fitting c.loop-two.x.sequence a.v.sequences 2 (length a.u.now - c.loop-two.i) (length a.out.now - row_words * c.loop-two.n)) =
    let sampling = c.sampling_at-c in
    let a = c.args in
    let l = c.loop-two in
    tests_true a.t.now a.v a.count a.u.now (laid a.at 0 0) a.out.now l.x l.i l.n l.out
    sampling.result 2 sampling.ensures (width_here) l.invariant (tested_here).1 in
    omega (arith, fits-here)

pub put_row-requires : goal.put_row-requires
unfolding width_of
put_row-requires c =
    let tested_here : (let l = c.loop-two in let a = c.args in
    (eqb c.sampling_at-c.result.datatype 0 ≡ true)
    × (both (ltb l.x.sequence a.v.sequences) (both (ltb 0 2) (both (leb 2 (length a.u.now - l.i)) (leb row_words (length l.out - row_words * l.n)))) ≡ true)) =
    both_split (eqb c.sampling_at-c.result.datatype 0) _ (both_split (ltb c.loop-two.x.channel _) _ (sym c.lays_two.ensures ∙ c.if-lays_two.true)).1 in
    let width_here : 2 ≡ width_of c.sampling_at-c.result.datatype =
    sym (ap width_of (eqb-true c.sampling_at-c.result.datatype 0 (tested_here).0)) in
    let fits-here : (let a = c.args in
    Fitting c.loop-two.x.sequence a.v.sequences 2 (length a.u.now - c.loop-two.i) (length a.out.now - row_words * c.loop-two.n)) =
    let sampling = c.sampling_at-c in
    let a = c.args in
    let l = c.loop-two in
    tests_true a.t.now a.v a.count a.u.now (laid a.at 0 0) a.out.now l.x l.i l.n l.out
    sampling.result 2 sampling.ensures (width_here) l.invariant (tested_here).1 in
    record {
      bits_bound = rw (← width_here) c.two_at-two.ensures.1;
      row_words_in_bounds = omega (arith, fits-here, c.loop-two.invariant.long);
    }

pub overflow_add-i : goal.overflow_add-i
unfolding width_of
overflow_add-i c =
    let tested_here : (let l = c.loop-two in let a = c.args in
    (eqb c.sampling_at-c.result.datatype 0 ≡ true)
    × (both (ltb l.x.sequence a.v.sequences) (both (ltb 0 2) (both (leb 2 (length a.u.now - l.i)) (leb row_words (length l.out - row_words * l.n)))) ≡ true)) =
    both_split (eqb c.sampling_at-c.result.datatype 0) _ (both_split (ltb c.loop-two.x.channel _) _ (sym c.lays_two.ensures ∙ c.if-lays_two.true)).1 in
    let width_here : 2 ≡ width_of c.sampling_at-c.result.datatype =
    sym (ap width_of (eqb-true c.sampling_at-c.result.datatype 0 (tested_here).0)) in
    let fits-here : (let a = c.args in
    Fitting c.loop-two.x.sequence a.v.sequences 2 (length a.u.now - c.loop-two.i) (length a.out.now - row_words * c.loop-two.n)) =
    let sampling = c.sampling_at-c in
    let a = c.args in
    let l = c.loop-two in
    tests_true a.t.now a.v a.count a.u.now (laid a.at 0 0) a.out.now l.x l.i l.n l.out
    sampling.result 2 sampling.ensures (width_here) l.invariant (tested_here).1 in
    omega (arith, fits-here, c.requires)

pub overflow_add-n : goal.overflow_add-n
unfolding width_of
overflow_add-n c =
    let tested_here : (let l = c.loop-two in let a = c.args in
    (eqb c.sampling_at-c.result.datatype 0 ≡ true)
    × (both (ltb l.x.sequence a.v.sequences) (both (ltb 0 2) (both (leb 2 (length a.u.now - l.i)) (leb row_words (length l.out - row_words * l.n)))) ≡ true)) =
    both_split (eqb c.sampling_at-c.result.datatype 0) _ (both_split (ltb c.loop-two.x.channel _) _ (sym c.lays_two.ensures ∙ c.if-lays_two.true)).1 in
    let width_here : 2 ≡ width_of c.sampling_at-c.result.datatype =
    sym (ap width_of (eqb-true c.sampling_at-c.result.datatype 0 (tested_here).0)) in
    let fits-here : (let a = c.args in
    Fitting c.loop-two.x.sequence a.v.sequences 2 (length a.u.now - c.loop-two.i) (length a.out.now - row_words * c.loop-two.n)) =
    let sampling = c.sampling_at-c in
    let a = c.args in
    let l = c.loop-two in
    tests_true a.t.now a.v a.count a.u.now (laid a.at 0 0) a.out.now l.x l.i l.n l.out
    sampling.result 2 sampling.ensures (width_here) l.invariant (tested_here).1 in
    omega (arith, fits-here)

pub next-x-requires : goal.next-x-requires
unfolding width_of
next-x-requires c =
    let few : c.args.v.sequences < 2 ^ 32 =
    search rules in
    let tested_here : (let l = c.loop-two in let a = c.args in
    (eqb c.sampling_at-c.result.datatype 0 ≡ true)
    × (both (ltb l.x.sequence a.v.sequences) (both (ltb 0 2) (both (leb 2 (length a.u.now - l.i)) (leb row_words (length l.out - row_words * l.n)))) ≡ true)) =
    both_split (eqb c.sampling_at-c.result.datatype 0) _ (both_split (ltb c.loop-two.x.channel _) _ (sym c.lays_two.ensures ∙ c.if-lays_two.true)).1 in
    let width_here : 2 ≡ width_of c.sampling_at-c.result.datatype =
    sym (ap width_of (eqb-true c.sampling_at-c.result.datatype 0 (tested_here).0)) in
    let fits-here : (let a = c.args in
    Fitting c.loop-two.x.sequence a.v.sequences 2 (length a.u.now - c.loop-two.i) (length a.out.now - row_words * c.loop-two.n)) =
    let sampling = c.sampling_at-c in
    let a = c.args in
    let l = c.loop-two in
    tests_true a.t.now a.v a.count a.u.now (laid a.at 0 0) a.out.now l.x l.i l.n l.out
    sampling.result 2 sampling.ensures (width_here) l.invariant (tested_here).1 in
    omega (arith, fits-here, few)

pub loop-two-smaller : goal.loop-two-smaller
unfolding width_of
loop-two-smaller c =
    let tested_here : (let l = c.loop-two in let a = c.args in
    (eqb c.sampling_at-c.result.datatype 0 ≡ true)
    × (both (ltb l.x.sequence a.v.sequences) (both (ltb 0 2) (both (leb 2 (length a.u.now - l.i)) (leb row_words (length l.out - row_words * l.n)))) ≡ true)) =
    both_split (eqb c.sampling_at-c.result.datatype 0) _ (both_split (ltb c.loop-two.x.channel _) _ (sym c.lays_two.ensures ∙ c.if-lays_two.true)).1 in
    let width_here : 2 ≡ width_of c.sampling_at-c.result.datatype =
    sym (ap width_of (eqb-true c.sampling_at-c.result.datatype 0 (tested_here).0)) in
    let fits-here : (let a = c.args in
    Fitting c.loop-two.x.sequence a.v.sequences 2 (length a.u.now - c.loop-two.i) (length a.out.now - row_words * c.loop-two.n)) =
    let sampling = c.sampling_at-c in
    let a = c.args in
    let l = c.loop-two in
    tests_true a.t.now a.v a.count a.u.now (laid a.at 0 0) a.out.now l.x l.i l.n l.out
    sampling.result 2 sampling.ensures (width_here) l.invariant (tested_here).1 in
    omega (arith, fits-here)

pub loop-two-preserved : goal.loop-two-preserved
unfolding width_of
loop-two-preserved c =
    let tested_here : (let l = c.loop-two in let a = c.args in
    (eqb c.sampling_at-c.result.datatype 0 ≡ true)
    × (both (ltb l.x.sequence a.v.sequences) (both (ltb 0 2) (both (leb 2 (length a.u.now - l.i)) (leb row_words (length l.out - row_words * l.n)))) ≡ true)) =
    both_split (eqb c.sampling_at-c.result.datatype 0) _ (both_split (ltb c.loop-two.x.channel _) _ (sym c.lays_two.ensures ∙ c.if-lays_two.true)).1 in
    let width_here : 2 ≡ width_of c.sampling_at-c.result.datatype =
    sym (ap width_of (eqb-true c.sampling_at-c.result.datatype 0 (tested_here).0)) in
    let sampling = c.sampling_at-c in
    let a = c.args in
    let l = c.loop-two in
    onward-more a.t.now a.v a.count a.u.now (laid a.at 0 0) a.out.now l.x l.i l.n l.out
    sampling.result 2 sampling.ensures (width_here) l.invariant (tested_here).1
    c.two_at-two.result c.two_at-two.ensures.0 c.next-x.result c.next-x.ensures _ c.put_row.ensures

pub shape_of-out-else-lays_two : goal.shape_of-out-else-lays_two
shape_of-out-else-lays_two c = c.loop-two.invariant.long

pub returns-else-lays_two : goal.returns-else-lays_two
returns-else-lays_two c = c.loop-two.invariant
