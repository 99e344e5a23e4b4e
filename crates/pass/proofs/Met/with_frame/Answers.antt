-- The frame is kept where it is the one that is asked for, and its octets are added up.
use Rattle.std.specs.Prelude.{Some}
use mathlib.Core.Path.{◌∙◌, ap}
use Prim.Native.Nat.{◌+◌}
use Rattle.layout.proofs.Laws.{frame-few}
use Rattle.pass.specs.Passing.{view_met}
use Rattle.pass.proofs.Scans.{kept_this, kept_before}
use native.Mathlib.Omega.{arith}
use Rattle.pass.proofs.Met.with_frame.Goals as goal

pub returns-then-self-asked : goal.returns-then-self-asked
returns-then-self-asked c =
    let a = c.args in (
      λ k. record {
        frames = a.self.frames + 1;
        found = (ap Some c.view_of.ensures ∙ kept_this _ a.self.found c.if-self-asked.true) k;
        size = a.self.size + c.frame_size.ensures.0 k;
      },
      frame-few a.sequences a.l.groups a.there c.requires.groups (omega (arith, c.requires.waveform)),
    )

pub returns : goal.returns
returns c =
    let a = c.args in (
      λ k. record {
        frames = a.self.frames + 1;
        found = kept_before (Some (view_met a.asked.channel a.st a.sequences a.start a.len a.l a.c)) a.self.found c.if-self-asked.false k;
        size = a.self.size + c.frame_size.ensures.0 k;
      },
      frame-few a.sequences a.l.groups a.there c.requires.groups (omega (arith, c.requires.waveform)),
    )
