-- Whole sequences, and then the part of one that is cut off.
use Rattle.frames.specs.Channels.{settings_of}
use native.Mathlib.Nat.{div-mul-le_self, div-add-mod'}
use native.Mathlib.Omega.{arith}
use Rattle.frames.proofs.Samples.{mixed_whole, mixed_room, mixed_put, mixed_none}
use Rattle.frames.proofs.put_mixed.Goals as goal

pub returns-then-sequence-eq0 : goal.returns-then-sequence-eq0
returns-then-sequence-eq0 c =
    let a = c.args in
    mixed_none (settings_of a.channels) a.octets a.w.now c.requires.whole c.requires.octets_in_bounds.1 c.if-sequence-eq0.true _ _

pub put_blocks-next-requires : goal.put_blocks-next-requires
put_blocks-next-requires c =
    let a = c.args in
    let whole = mixed_whole (settings_of a.channels) a.octets a.w.now c.requires.whole c.requires.octets_in_bounds.1 in
    record {
      inside = omega (arith, whole, c.requires.octets_in_bounds.0);
      sequences_in_bounds = omega (arith, whole, c.requires.octets_in_bounds.2);
    }

pub overflow_mul-whole : goal.overflow_mul-whole
overflow_mul-whole c =
    let a = c.args in
    omega (arith, div-mul-le_self a.octets a.sequence)

pub put_part-requires : goal.put_part-requires
put_part-requires c =
    let a = c.args in
    let cs = settings_of a.channels in
    let room = mixed_room cs a.octets a.w.now c.requires.whole c.requires.octets_in_bounds.1 c.requires.octets_in_bounds.0 c.requires.octets_in_bounds.2 c.put_blocks-next.ensures in
    record {
      inside = omega (arith, div-add-mod' a.octets a.sequence, c.requires.octets_in_bounds.0);
      rest_in_bounds = room;
    }

pub returns : goal.returns
returns c =
    let a = c.args in
    mixed_put (settings_of a.channels) a.octets a.w.now c.requires.whole c.requires.octets_in_bounds.1 c.put_blocks-next.ensures c.put_part.ensures
