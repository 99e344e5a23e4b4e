-- Six words, one after the other.
use mathlib.Core.Path.{ap, ◌∙◌}
use mathlib.Core.List.{[], ◌∷◌}
use Prim.Native.Nat.{◌+◌, ◌*◌, ◌^◌, ◌<◌}
use native.Mathlib.Omega.{arith}
use lib.Seq.{sets}
use Rattle.rows.specs.declared.Shown.{Shown}
use lib.ListN.{length-set}
use Rattle.rows.proofs.Laws.{number_fits, six_stored}
use borrow.Author.Rules.{rules}
use Rattle.rows.proofs.put_row.Goals as goal

pub overflow_mul-out : goal.overflow_mul-out
overflow_mul-out c =
    let number-here : c.args.at.sequence * c.args.c.block + c.args.at.index < 2 ^ 64 =
    number_fits c.args.at.sequence c.args.c.block c.args.at.index (search rules) (search rules) (search rules) in
    rw (c.from-2.ensures, c.from-3.ensures) (omega (arith, number-here))

pub overflow_add-out : goal.overflow_add-out
overflow_add-out c =
    let number-here : c.args.at.sequence * c.args.c.block + c.args.at.index < 2 ^ 64 =
    number_fits c.args.at.sequence c.args.c.block c.args.at.index (search rules) (search rules) (search rules) in
    rw (c.from-2.ensures, c.from-3.ensures, c.from-4.ensures) (omega (arith, number-here))

pub bounds-out-p-2 : goal.bounds-out-p-2
bounds-out-p-2 c = simp length-set (omega arith)

pub bounds-out-p-3 : goal.bounds-out-p-3
bounds-out-p-3 c = simp length-set (omega arith)

pub bounds-out-p-4 : goal.bounds-out-p-4
bounds-out-p-4 c = simp length-set (omega arith)

pub bounds-out-p-5 : goal.bounds-out-p-5
bounds-out-p-5 c = simp length-set (omega arith)

pub bounds-out-p-6 : goal.bounds-out-p-6
bounds-out-p-6 c = simp length-set (omega arith)

pub shape_of-out : goal.shape_of-out
shape_of-out c = simp length-set

pub returns : goal.returns
returns c =
    let a = c.args in
    let number = a.at.sequence * a.c.block + a.at.index in
    rw (c.from.ensures, c.from-2.ensures, c.from-3.ensures, c.from-4.ensures)
    (six_stored a.out.now a.p _ _ _ _ _ _
    ∙ ap (λ (x : Shown). sets a.out.now a.p (a.at.channel ∷ number ∷ a.place ∷ x.kind ∷ x.whole ∷ a.bits ∷ [])) c.told-x.ensures)
