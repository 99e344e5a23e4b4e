-- One octet or two, by the test.
use borrow.Author.Tests.{lt-ltb, le-ltb}
use Rattle.groups.specs.Group.{channel_octets}
use Rattle.groups.proofs.put_channel.Goals as goal

pub returns-then-k-lt128 : goal.returns-then-k-lt128
unfolding channel_octets
returns-then-k-lt128 c = simp (lt-ltb _ 128 c.if-k-lt128.true) c.put_octet.ensures

pub returns : goal.returns
unfolding channel_octets
returns c = simp (le-ltb _ 128 c.if-k-lt128.false) c.put_two.ensures
