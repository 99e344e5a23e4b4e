-- One run as it stands, one run turned round, or block by block.
use Rattle.frames.specs.Channels.{settings_of}
use mathlib.Core.Path.{subst, ◌≡◌, ◌∙◌}
use mathlib.Core.List.{List}
use native.Mathlib.Omega.{arith}
use Prim.Native.Nat.{ℕ, ◌<◌}
use Rattle.settings.specs.declared.Settings.{Settings}
use Rattle.laid.specs.Turned.{Even}
use Rattle.stores.specs.Storing.{put_fits}
use Rattle.groups.proofs.Puts.{put_as}
use Rattle.frames.proofs.Samples.{samples_big, samples-little, samples_narrow, samples_even, even_room, taken-room}
use Rattle.frames.proofs.put_samples.Goals as goal

one_wide : (cs : List Settings) (v : ℕ) → (0 < v → Even v cs) → v ≡ 1 → Even 1 cs
one_wide cs v f e = subst (λ (w : ℕ). Even w cs) e (f (omega arith))

pub returns-then-not-little : goal.returns-then-not-little
returns-then-not-little c =
    let a = c.args in
    let cs = settings_of a.channels in
    put_as (samples_big {little = a.little} cs _ _ (c.if-not-little.true))
    (put_fits (taken-room a.octets a.at a.w.now a.out.now c.requires.octets_in_bounds.2) c.copy.ensures)

pub returns-then-v-eq1 : goal.returns-then-v-eq1
returns-then-v-eq1 c =
    let a = c.args in
    let cs = settings_of a.channels in
    let one = one_wide cs _ c.even_width-v.ensures c.if-v-eq1.true in
    let little = c.if-not-little.false in
    put_as (samples_narrow cs a.octets a.w.now c.requires.whole c.requires.octets_in_bounds.1 one ∙ samples-little {little = a.little} cs _ _ little)
    (put_fits (taken-room a.octets a.at a.w.now a.out.now c.requires.octets_in_bounds.2) c.copy-then-v-eq1.ensures)

pub returns-then-v-eq0 : goal.returns-then-v-eq0
returns-then-v-eq0 c =
    let a = c.args in
    put_as (samples-little {little = a.little} (settings_of a.channels) _ _ (c.if-not-little.false)) c.put_mixed.ensures

pub returns : goal.returns
returns c =
    let a = c.args in
    let cs = settings_of a.channels in
    let v = c.even_width-v in
    let p : 0 < v.result = omega arith in
    let long = even_room cs a.octets a.w.now c.requires.whole c.requires.octets_in_bounds.1 c.requires.octets_in_bounds.0 v.result p (v.ensures p) in
    let little = c.if-not-little.false in
    put_as (samples_even cs a.octets a.w.now c.requires.whole c.requires.octets_in_bounds.1 c.requires.octets_in_bounds.0 _ p (v.ensures p) ∙ samples-little {little = a.little} cs _ _ little)
    (put_fits (omega (arith, c.requires.octets_in_bounds.2)) c.turn.ensures)
