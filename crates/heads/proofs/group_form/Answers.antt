-- By the answer of `channel_from`; the length stands behind its octets.
use Rattle.std.proofs.lemmas.Result.{err_from_is_err_and}
use mathlib.Core.Path.{sym, ap, ◌∙◌}
use Rattle.std.specs.Prelude.{Ok}
use native.Mathlib.Omega.{arith}
use Rattle.heads.specs.Head.{group_form}
use Rattle.heads.proofs.Heads.{channel_found, rest-is}
use Rattle.heads.proofs.group_form.Goals as goal

pub slice_bounds-group_length-count : goal.slice_bounds-group_length-count
slice_bounds-group_length-count c = omega (arith, channel_found _ c.channel_from.ensures (c.in_ok-channel.was ∙ ap Ok c.in-Some.is))

pub slice_bounds-group_length-start : goal.slice_bounds-group_length-start
slice_bounds-group_length-start c = omega (arith, channel_found _ c.channel_from.ensures (c.in_ok-channel.was ∙ ap Ok c.in-Some.is))

pub group_length-requires : goal.group_length-requires
group_length-requires c = omega (arith, channel_found _ c.channel_from.ensures (c.in_ok-channel.was ∙ ap Ok c.in-Some.is))

pub returns-in-Some : goal.returns-in-Some
unfolding group_form
returns-in-Some c = c.group_length.ensures ∙ simp (rest-is, sym c.channel_from.ensures ∙ c.in_ok-channel.was ∙ ap Ok c.in-Some.is)

pub returns-in-None : goal.returns-in-None
unfolding group_form
returns-in-None c = simp (sym c.channel_from.ensures ∙ c.in_ok-channel.was ∙ ap Ok c.in-None.is)

pub returns-in_err-channel : goal.returns-in_err-channel
unfolding group_form
returns-in_err-channel c =
    let p = err_from_is_err_and c.from_residual.result c.from_residual.ensures.1 in
    rw (p.1, p.2) (simp (sym c.channel_from.ensures ∙ c.in_err-channel.was))
