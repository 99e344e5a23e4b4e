-- By the tests, one after the other.
use mathlib.Core.Path.{ap, ◌∙◌}
use native.Mathlib.Omega.{arith}
use Rattle.heads.specs.Answer.{answered}
use Rattle.walk.specs.declared.Waveform.{Waveform}
use Rattle.walking.proofs.Views.{view_few, view_none, view_past, view_there}
use Rattle.walking.proofs.view_at.Goals as goal

pub returns-then-w-lt-HEAD : goal.returns-then-w-lt-HEAD
returns-then-w-lt-HEAD c =
    let a = c.args in
    view_few a.w.now a.channel (omega arith)

pub returns-then-v-eq0 : goal.returns-then-v-eq0
returns-then-v-eq0 c =
    let a = c.args in
    view_none a.w.now a.channel (omega arith) (omega (arith, ap (λ (x : Waveform). x.channels) c.waveform_at-v.ensures))

pub returns-then-v-channel : goal.returns-then-v-channel
returns-then-v-channel c =
    let a = c.args in
    let n = ap (λ (x : Waveform). x.channels) c.waveform_at-v.ensures in
    view_past a.w.now a.channel (omega arith) (omega (arith, n)) (omega (arith, n))

pub returns : goal.returns
returns c =
    let a = c.args in
    let n = ap (λ (x : Waveform). x.channels) c.waveform_at-v.ensures in
    ap answered c.view_kept.ensures ∙ view_there a.w.now a.channel (omega arith) (omega (arith, n)) (omega (arith, n))
