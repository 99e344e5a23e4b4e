-- What the program writes for a file: its canonical file, or the line of its refusal; and what it says of one of more than 60,000 octets.
use Rattle.std.specs.Prelude.{List, [], ℕ, ltb, length}
use Rattle.octets.specs.Pick.{pick}
use Rattle.heads.specs.Answer.{Answer, answered, refused_as}
use Rattle.verdict.specs.Verdict.{verdict}
use Rattle.canonical.specs.Write.{output_in}
use Rattle.line.specs.Line.{ascii, line_of}

-- What is written, or the line of the refusal.
abbrev pub written_or_line : Answer (List ℕ) → List ℕ
written_or_line (answered octets) = octets
written_or_line (refused_as fault place) = line_of (refused_as fault place)

-- On the output. There is room for a canonical file of 120,000 octets.
unfoldable pub rewritten : List ℕ → List ℕ
rewritten file = pick (ltb 60000 (length file)) [] (written_or_line (output_in 120000 (verdict file)))

-- On the output for errors.
unfoldable pub complaint : List ℕ → List ℕ
complaint file = pick (ltb 60000 (length file)) (ascii "too long\n") []
