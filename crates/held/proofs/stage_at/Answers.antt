-- By the kind.
use Rattle.std.specs.Prelude.{Ok, Err}
use mathlib.Core.Path.{◌≡◌, sym, ◌∙◌}
use mathlib.Core.Bool.{false}
use Prim.Native.Nat.{ℕ}
use borrow.Author.Tests.{ne_eqb}
use lib.Dec.{eqb}
use lib.ListN.{get_or}
use Rattle.held.specs.declared.Stage.{Stage}
use Rattle.held.proofs.stage_at.Goals as goal

pub returns-in-0 : goal.returns-in-0
returns-in-0 c =
    simp (sym c.word-kind.ensures ∙ c.in-0.is)

pub returns-in-1 : goal.returns-in-1
returns-in-1 c =
    simp (sym c.word-kind.ensures ∙ c.in-1.is) (λ i. Stage.Value (c.one_at.ensures i) (c.word-left.ensures i))

pub returns-in-2 : goal.returns-in-2
returns-in-2 c =
    simp (sym c.word-kind.ensures ∙ c.in-2.is)
    (λ i. Stage.Waveform (c.word-left.ensures i) (c.four_at.ensures i) (c.four_at-in-2.ensures i) (c.four_at-in-2-2.ensures i))

pub returns-in-3 : goal.returns-in-3
returns-in-3 c =
    simp (sym c.word-kind.ensures ∙ c.in-3.is) (λ i. Stage.Waits (c.word-left.ensures i) (c.refusal_at.ensures i))

pub returns-in-4 : goal.returns-in-4
returns-in-4 c =
    simp (sym c.word-kind.ensures ∙ c.in-4.is) (λ i. Stage.Decided (Ok (c.four_at-in-4.ensures i)))

pub returns-in_default : goal.returns-in_default
returns-in_default c =
    let other : (n : ℕ) → (c.word-kind.result ≡ n → ⊥) → eqb (get_or c.args.w.now 3 0) n ≡ false =
    λ n ne. ne_eqb _ n (λ e. ne (c.word-kind.ensures ∙ e)) in
    let others = c.in_default.in_default-own.rest in
    simp (other 0 others.0.0.0.0.1, other 1 others.0.0.0.1, other 2 others.0.0.1, other 3 others.0.1, other 4 others.1)
    (λ i. Stage.Decided (Err (c.refusal_at-in_default.ensures i)))
