-- By the test; the records stand behind the head.
use mathlib.Core.Path.{◌≡◌, sym, ap, ◌∙◌}
use mathlib.Core.List.{List}
use native.Mathlib.Omega.{arith}
use lib.ListN.{length}
use Rattle.heads.specs.Answer.{Answer, map_answer, left_by}
use Rattle.spread.specs.declared.Spread.{Spread}
use Rattle.strides.specs.Channels.{spreads_from, swept_of}
use Rattle.strides.proofs.Channels.{kept}
use Rattle.kept.specs.Words.{head_words}
use Rattle.kept.proofs.Laws.{lent_all}
use Rattle.sweep.specs.Sweep.{sequences_by, spreads_in}
use Rattle.sweep.proofs.Sweeping.{frame-room, sweep_none, sweep_held}
use Rattle.sweep.proofs.sweep.Goals as goal

pub slice_bounds-lay_channels-count : goal.slice_bounds-lay_channels-count
slice_bounds-lay_channels-count c = omega (arith, frame-room c.args.w.now (sym c.holds_frame.ensures ∙ c.if-holds_frame.true))

pub slice_bounds-lay_channels-start : goal.slice_bounds-lay_channels-start
slice_bounds-lay_channels-start c = omega (arith, frame-room c.args.w.now (sym c.holds_frame.ensures ∙ c.if-holds_frame.true))

pub returns-then-holds_frame : goal.returns-then-holds_frame
returns-then-holds_frame c =
    let s = c.args.s.now in
    let w = c.args.w.now in
    let room = length c.args.out.now in
    let rest = lent_all head_words w in
    let told = c.waveform_at-v.ensures in
    let same : ◌≡◌ {A = List Spread} _ (spreads_in w) = λ i. spreads_from (rest i) (sequences_by (told i)) 0 (told i).channels in
    let e = ap (swept_of s room) same ∙ sweep_held s w room (sym c.holds_frame.ensures ∙ c.if-holds_frame.true) in
    record {
      result_value = c.lay_channels.ensures.result_value ∙ ap (map_answer length) e;
      out_after = c.lay_channels.ensures.out_after ∙ ap (λ (a : Answer (List _)). left_by a c.args.out.now) e;
    }

pub returns : goal.returns
returns c =
    let e = sweep_none c.args.s.now c.args.w.now (length c.args.out.now) (sym c.holds_frame.ensures ∙ c.if-holds_frame.false) in
    record {
      result_value = ap (map_answer length) e;
      out_after = kept _ e;
    }
