-- Each way out is a law of a look-up.
use mathlib.Core.Path.{◌∙◌}
use Rattle.reader.proofs.Answers.{look_refused, look_no_frame, look_nothing, look_no_channel, look_found}
use Rattle.reader.proofs.look_up.Goals as goal

pub returns-in_default : goal.returns-in_default
returns-in_default c = look_refused _ _ _ _ c.scan_file-pass.ensures _ (c.in_default.is ∙ c.in-Err.is)

pub returns-then-n-frame : goal.returns-then-n-frame
returns-then-n-frame c = look_no_frame _ _ _ _ c.scan_file-pass.ensures _ c.in-Ok.is c.if-n-frame.true

pub returns-in_default-found : goal.returns-in_default-found
returns-in_default-found c =
    absurd (look_nothing _ _ _ _ c.scan_file-pass.ensures _ c.in-Ok.is c.if-n-frame.false c.in_default-found.is)

pub returns-then-view-channel : goal.returns-then-view-channel
returns-then-view-channel c =
    look_no_channel _ _ _ _ c.scan_file-pass.ensures _ c.in-Ok.is _ c.if-n-frame.false c.in-Some.is
    c.if-view-channel.true

pub returns : goal.returns
returns c =
    look_found _ _ _ _ c.scan_file-pass.ensures _ c.in-Ok.is _ c.if-n-frame.false c.in-Some.is
    c.if-view-channel.false
