-- What the bench program writes for a file (document 01): the line of the check's answer, or `too long` for one of more than 60,000 octets.
use Rattle.std.specs.Prelude.{List, ℕ, ltb, length}
use Rattle.octets.specs.Pick.{pick}
use Rattle.verdict.specs.Verdict.{check_of}
use Rattle.line.specs.Line.{ascii, line_of}

unfoldable pub said_of : List ℕ → List ℕ
said_of file = pick (ltb 60000 (length file)) (ascii "too long\n") (line_of (check_of file))
