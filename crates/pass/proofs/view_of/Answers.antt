-- Each part is the frame's; the channel count and the channel's settings are what the two calls answer.
use mathlib.Core.Path.{◌∙◌, ap}
use Prim.Native.Nat.{ℕ}
use lib.Dec.{ltb}
use mir.Syntax.{w64}
use mir.Val.{SFits}
use mir.Facts.{to_z-of_z}
use Rattle.octets.specs.Pick.{pick}
use Rattle.settings.specs.Settings.{default_settings}
use borrow.Author.Rules.{rules}
use Rattle.pass.proofs.view_of.Goals as goal

pub returns : goal.returns
returns c =
    let start_fits : SFits w64 c.args.st.start =
    search rules in
    let a = c.args in
    let n = c.channels_of-channels.ensures in
    λ k. record {
      start = to_z-of_z (start_fits) k;
      channels = n k;
      sequences = a.sequences;
      little = a.st.little;
      place = a.start;
      long = a.len;
      octets = a.l.octets;
      below = a.l.below;
      settings = (c.seen.ensures ∙ ap (λ (m : ℕ). pick (ltb a.channel m) a.c default_settings) n) k;
    }
