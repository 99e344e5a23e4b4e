-- `rewrite::say_refused` meets its contract: the line stands at the start of the buffer.
use Rattle.std.proofs.Common.{◌∙◌}
use Rattle.line.proofs.Laws.{line_taken}
use Rattle.rewrite.proofs.say_refused.Goals as goal

pub returns : goal.returns
returns g c = rw (c.part.ensures ∙ line_taken c.put_line-k.ensures) at c.write_all.ensures.bytes
