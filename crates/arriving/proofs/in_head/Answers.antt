-- The octet behind those that are kept.
use Rattle.arriving.proofs.Laws.{head_takes, bounded}
use Rattle.std.proofs.Common.{◌≡◌, ℕ, ◌+◌, ◌<◌, ◌≤◌, length, sym, ap, ◌∙◌, subst, arith, length-set, length-take, rules}
use Rattle.standing.specs.Standing.{octets_limit}
use Rattle.link.specs.Link.{kept_limit}
use Rattle.arriving.specs.declared.Link.{Link}
use Rattle.arriving.specs.Arriving.{SmallForm}
use Rattle.arriving.proofs.in_head.Goals as goal

pub headed-link-requires : goal.headed-link-requires
headed-link-requires c =
    let long_enough : kept_limit < length c.args.p =
    search rules in
    let n = c.at_most_kept-n.result in
    let part_long : length c.part.result.now ≡ n + 1 = ap length c.part.ensures ∙ simp (length-take, length-set) (omega (arith, c.at_most_kept-n.ensures, long_enough)) in
    bounded c.untold-y.result _ c.seen-form.result (subst (λ (y : Link). y.core.count ≤ octets_limit) (sym c.untold-y.ensures) c.requires) (subst (λ (k : ℕ). SmallForm k c.seen-form.result) part_long c.seen-form.ensures.small)

pub returns : goal.returns
returns c =
    let long_enough : kept_limit < length c.args.p =
    search rules in
    head_takes c.args.x c.args.t.now c.args.p c.args.b c.at_most_kept-n.ensures (long_enough) c.untold-y.ensures c.within_of.ensures c.part.ensures c.seen-form.ensures c.headed-link.ensures
