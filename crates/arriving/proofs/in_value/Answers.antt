-- The octet behind those that are kept.
use Rattle.arriving.proofs.Laws.{value_takes}
use Rattle.std.proofs.Common.{◌<◌, length, rules}
use Rattle.link.specs.Link.{kept_limit}
use Rattle.arriving.proofs.in_value.Goals as goal

pub returns : goal.returns
returns c =
    let long_enough : kept_limit < length c.args.p =
    search rules in
    value_takes c.args.x c.args.t.now c.args.p c.args.b c.at_most_kept-n.ensures (long_enough) c.args.tag c.args.left c.less.ensures c.at_most_kept.ensures c.valued-link.ensures
