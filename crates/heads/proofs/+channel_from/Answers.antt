-- Each way out is a law of one octet of a channel number. The octets still allowed fall, and the value leaves room for them below 2 ^ 28.
use Prim.Native.Nat.{◌<◌, ◌%◌, ◌^◌}
use native.Mathlib.Omega.{arith}
use native.Mathlib.Nat.{mod-lt}
use mathlib.Core.Path.{◌∙◌}
use lib.ListN.{get_or}
use lib.Dec.{lit<}
use Rattle.heads.proofs.Heads.{channel-none, channel-past, channel_last, channel-more, room, room_fits, rest-is}
use Rattle.heads.proofs.+channel_from.Goals as goal

pub returns-then-allowed-eq0 : goal.returns-then-allowed-eq0
returns-then-allowed-eq0 t c = channel-none _ _ _ _ c.if-allowed-eq0.true

pub returns-then-u-eq0 : goal.returns-then-u-eq0
returns-then-u-eq0 t c = channel-past _ _ _ _ c.if-allowed-eq0.false c.if-u-eq0.true

pub overflow_mul-more : goal.overflow_mul-more
overflow_mul-more t c = omega (arith, room_fits 128 (2 ^ 28) _ _ 0 c.if-allowed-eq0.false (lit< tt) c.requires.allowed_bound_2)

pub overflow_add-more : goal.overflow_add-more
overflow_add-more t c =
    omega (arith, room_fits 128 (2 ^ 28) _ _ (get_or c.args.u.now 0 0 % 128) c.if-allowed-eq0.false (mod-lt _ (lit< tt)) c.requires.allowed_bound_2)

pub returns-then-b-lt128 : goal.returns-then-b-lt128
returns-then-b-lt128 t c = channel_last _ _ _ _ c.if-allowed-eq0.false c.if-u-eq0.false c.if-b-lt128.true

pub channel_from-rest-requires : goal.channel_from-rest-requires
channel_from-rest-requires t c =
    (omega arith, (omega arith, room 128 (2 ^ 28) _ _ _ c.if-allowed-eq0.false (mod-lt _ (lit< tt)) c.requires.allowed_bound_2))

pub returns : goal.returns
returns t c =
    c.channel_from-rest.ensures
    ∙ simp rest-is (channel-more _ _ _ _ c.if-allowed-eq0.false c.if-u-eq0.false c.if-b-lt128.false)
