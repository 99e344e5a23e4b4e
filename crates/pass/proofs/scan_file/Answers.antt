-- 15 comes first; else the pass from the front.
use mathlib.Core.Path.{◌∙◌}
use Rattle.pass.proofs.Scans.{scanned_large}
use Rattle.pass.proofs.scan_file.Goals as goal

pub returns-then-s-gt-OCTETS : goal.returns-then-s-gt-OCTETS
returns-then-s-gt-OCTETS c = c.refused_scan.ensures ∙ scanned_large _ _ c.if-s-gt-OCTETS.true
