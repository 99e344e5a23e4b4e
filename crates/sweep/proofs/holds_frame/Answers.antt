-- By the tests, one after the other.
use mathlib.Core.Path.{ap}
use native.Mathlib.Omega.{arith}
use lib.ListN.{length-drop}
use Rattle.walk.specs.declared.Waveform.{Waveform}
use Rattle.kept.specs.Words.{head_words}
use Rattle.sweep.proofs.Sweeping.{frame-few, frame-none, frame-held}
use Rattle.sweep.proofs.holds_frame.Goals as goal

pub returns-then-w-lt-HEAD : goal.returns-then-w-lt-HEAD
returns-then-w-lt-HEAD c = frame-few c.args.w.now c.if-w-lt-HEAD.true

pub returns-then-v-eq0 : goal.returns-then-v-eq0
returns-then-v-eq0 c =
    let n = ap (λ (x : Waveform). x.channels) c.waveform_at-v.ensures in
    frame-none c.args.w.now c.if-w-lt-HEAD.false (omega (arith, n, c.if-v-eq0.true))

pub returns : goal.returns
returns c =
    let n = ap (λ (x : Waveform). x.channels) c.waveform_at-v.ensures in
    (rw (← n, length-drop head_words c.args.w.now) at (frame-held c.args.w.now c.if-w-lt-HEAD.false (λ e. omega (arith, n, c.if-v-eq0.false))))
