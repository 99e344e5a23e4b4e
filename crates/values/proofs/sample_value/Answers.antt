-- `values::sample_value` meets its contract: it looks at the bits of the sample's width alone, compares null first, and else answers by data
-- type. Assumes nothing.
use Prim.Native.Nat.{ℕ}
use mathlib.Core.Path.{◌≡◌, ap, ◌∙◌}
use mathlib.Core.Logic.{◌⊎◌, inl, inr}
use Rattle.octets.specs.Number.{low_of}
use Rattle.values.specs.Sample.{value_says, low_bits, value_of}
use Rattle.values.proofs.Laws.{low_below, null_yes, null_no}
use Rattle.values.proofs.sample_value.Goals as goal
use Rattle.values.proofs.sample_value.Goals.{then-null-ne0+else-null-n, else-null-ne0}

pub returns-then-null-n : goal.returns-then-null-n
unfolding value_says
returns-then-null-n c =
    let looked_at : c.lowest-n.result ≡ low_bits c.args.datatype c.args.bits =
    c.lowest-n.ensures ∙ ap (λ (w : ℕ). low_of w c.args.bits) c.width.ensures in
    null_yes _ _ _ c.if-null-ne0.true c.if-null-n.true ∙ ap (value_of c.args.datatype c.args.null) (looked_at)

pub plain-requires : goal.plain-requires
plain-requires c =
    let looked_at : c.lowest-n.result ≡ low_bits c.args.datatype c.args.bits =
    c.lowest-n.ensures ∙ ap (λ (w : ℕ). low_of w c.args.bits) c.width.ensures in
    rw (looked_at) (low_below _ _)

pub returns : goal.returns
returns c =
    let looked_at : c.lowest-n.result ≡ low_bits c.args.datatype c.args.bits =
    c.lowest-n.ensures ∙ ap (λ (w : ℕ). low_of w c.args.bits) c.width.ensures in
    let not_null : (c.args.null.width ≡ 0) ⊎ (c.args.null.bits ≡ c.lowest-n.result → ⊥) =
    elim c.if-null-ne0.branch [
      | then-null-ne0+else-null-n w ↦ inr w.if-null-n.false
      | else-null-ne0 w ↦ inl w.if-null-ne0.false
    ] in
    c.plain.ensures ∙ null_no _ _ _ (not_null) ∙ ap (value_of c.args.datatype c.args.null) (looked_at)
