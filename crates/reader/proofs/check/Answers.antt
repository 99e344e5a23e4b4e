-- The pass's count or refusal.
use Rattle.reader.proofs.Answers.{checked_is}
use Rattle.reader.proofs.check.Goals as goal

pub returns : goal.returns
returns c = checked_is _ _ _ c.scan_file-pass.ensures
