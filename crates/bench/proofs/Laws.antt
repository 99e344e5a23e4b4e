-- Laws of what the program writes: of a file longer than the limit, and of one that was read whole.
use Rattle.std.proofs.Common.{◌≡◌, ◌≤◌, ◌<◌, List, ℕ, Result, IfSome, OnOk, sym, ap, ◌∙◌, subst, arith, length}
use borrow.Author.Tests.{lt-ltb, le-ltb}
use Rattle.std.specs.declared.option.Option.{Option}
use Rattle.std.specs.Io.KnownBytes.{Consumes, Appends, IsAtEnd}
use Rattle.input.proofs.Reading.{if_some, on_ok, read_all, read_much}
use Rattle.octets.specs.Pick.{pick}
use Rattle.verdict.specs.Verdict.{check_of}
use Rattle.line.specs.Line.{ascii, line_of}
use Rattle.bench.specs.Said.{said_of}

-- A longer file.
pub said_long : {E : Type 0} (a b c d : Option (List ℕ)) (read : List ℕ) (r : Result (Unit {0}) E) → Consumes a b read → 60000 < length read
    → OnOk r (Appends c d (ascii "too long\n")) → OnOk r (IfSome a (λ file. Appends c d (said_of file)))
unfolding said_of
said_long a b c d read r given many =
    on_ok r (λ p. if_some a (λ file l. let t : 60000 < length file = omega arith in rw (lt-ltb _ _ t) p) (read_much a b read given))

-- A file that was read whole.
pub said_short : {E : Type 0} (a b c d : Option (List ℕ)) (read said : List ℕ) (r : Result (Unit {0}) E) → Consumes a b read → IsAtEnd b → length read ≤ 60000
    → said ≡ line_of (check_of read)
    → OnOk r (Appends c d said) → OnOk r (IfSome a (λ file. Appends c d (said_of file)))
unfolding said_of
said_short a b c d read said r given end few same =
    let line = ap (λ t. pick t (ascii "too long\n") (line_of (check_of read))) (le-ltb _ _ few) ∙ sym same in
    on_ok r (λ p. if_some a (λ file whole. subst (λ f. Appends c d (said_of f)) (sym whole) (subst (Appends c d) (sym line) p)) (read_all a b read given end))
