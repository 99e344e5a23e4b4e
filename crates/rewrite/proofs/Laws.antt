-- Laws of what the program writes: of a file longer than the limit, and of one that was read whole.
use Rattle.std.proofs.Common.{◌≡◌, ◌≤◌, ◌<◌, List, [], ◌++◌, ℕ, Result, Ok, Err, IfSome, OnOk, sym, ap, ◌∙◌, subst, arith, length, take, drop}
use borrow.Author.Tests.{lt-ltb, le-ltb}
use lib.Seq.{take-append_seam}
use Rattle.std.specs.declared.option.Option.{Option}
use Rattle.std.specs.Io.KnownBytes.{Consumes, Appends, IsAtEnd}
use Rattle.std.proofs.KnownBytes.{Appends-nil}
use Rattle.input.proofs.Reading.{if_some, on_ok, read_all, read_much}
use Rattle.octets.specs.Pick.{pick}
use Rattle.heads.specs.declared.Refusal.{Refusal}
use Rattle.heads.specs.Answer.{Answer, answered, refused_as, refused_by, map_answer, left_by}
use Rattle.verdict.specs.Verdict.{verdict}
use Rattle.canonical.specs.Write.{output_in, written_of, left_of, Wrote}
use Rattle.line.specs.Line.{ascii, line_of}
use Rattle.rewrite.specs.Rewritten.{written_or_line, rewritten, complaint}

-- Nothing is written for a longer file, and it is said.
module _ (a b : Option (List ℕ)) (read : List ℕ) (given : Consumes a b read) (many : 60000 < length read) where
  pub nothing : IfSome a (λ file. rewritten file ≡ [])
  unfolding rewritten
  nothing = if_some a (λ file l. ap (λ t. pick t [] (written_or_line (output_in 120000 (verdict file)))) (lt-ltb 60000 (length file) (omega arith))) (read_much a b read given)

  pub too_long : IfSome a (λ file. complaint file ≡ ascii "too long\n")
  unfolding complaint
  too_long = if_some a (λ file l. ap (λ t. pick t (ascii "too long\n") []) (lt-ltb 60000 (length file) (omega arith))) (read_much a b read given)

-- A file that was read whole is written, and nothing is said.
module _ (a b : Option (List ℕ)) (read : List ℕ) (given : Consumes a b read) (end : IsAtEnd b) (few : length read ≤ 60000) where
  pub whole : IfSome a (λ file. rewritten file ≡ written_or_line (output_in 120000 (verdict read)))
  unfolding rewritten
  whole =
      let same = ap (λ t. pick t [] (written_or_line (output_in 120000 (verdict read)))) (le-ltb 60000 (length read) few) in
      if_some a (λ file e. ap rewritten e ∙ same) (read_all a b read given end)

  pub no_word : IfSome a (λ file. complaint file ≡ [])
  unfolding complaint
  no_word =
      let same = ap (λ t. pick t (ascii "too long\n") []) (le-ltb 60000 (length read) few) in
      if_some a (λ file e. ap complaint e ∙ same) (read_all a b read given end)

-- What is written, where it is what the file asks for.
pub appended : {E : Type 0} (a c d : Option (List ℕ)) (octets : List ℕ) (asked : List ℕ → List ℕ) (r : Result (Unit {0}) E) → IfSome a (λ file. asked file ≡ octets)
    → OnOk r (Appends c d octets) → OnOk r (IfSome a (λ file. Appends c d (asked file)))
appended a c d octets asked r same = on_ok r (λ p. if_some a (λ file e. subst (Appends c d) (sym e) p) same)

-- Nothing is written, where the file asks for nothing.
pub kept : {E : Type 0} (a c : Option (List ℕ)) (asked : List ℕ → List ℕ) (r : Result (Unit {0}) E) → IfSome a (λ file. asked file ≡ [])
    → OnOk r (IfSome a (λ file. Appends c c (asked file)))
kept a c asked r none = appended a c c [] asked r none (always r (Appends-nil c))
  where
    always : {E : Type 0} {P : Type 0} (r : Result (Unit {0}) E) → P → OnOk r P
    always (Ok x) p = p
    always (Err e) p = tt

-- The canonical file, at the start of the buffer.
pub octets_written : {s d e : List ℕ} {k : ℕ} → 120000 ≡ length d → Wrote s d (answered k) e → take k e ≡ written_or_line (output_in 120000 (verdict s))
unfolding written_of left_of left_by
octets_written {s} {d} {e} {k} room w = by (output_in 120000 (verdict s)) (w.answers ∙ ap (λ n. map_answer length (output_in n (verdict s))) (sym room)) (w.leaves ∙ ap (λ n. left_by (output_in n (verdict s)) d) (sym room))
  where
    by : (o : Answer (List ℕ)) → answered k ≡ map_answer length o → e ≡ left_by o d → take k e ≡ written_or_line o
    by (answered x) long left =
        let n : k ≡ length x = cc in
        ap (take k) left ∙ ap (λ m. take m (x ++ drop (length x) d)) n ∙ take-append_seam x (drop (length x) d)
    by (refused_as fault place) long left = let z : ◌≡◌ {A = ℕ} 0 1 = cc in absurd (omega arith)

-- The refusal.
pub refusal_written : {s d e : List ℕ} (x : Refusal) → 120000 ≡ length d → Wrote s d (refused_by x) e → line_of (refused_by x) ≡ written_or_line (output_in 120000 (verdict s))
unfolding written_of
refusal_written {s} {d} x room w = by (output_in 120000 (verdict s)) (w.answers ∙ ap (λ n. map_answer length (output_in n (verdict s))) (sym room))
  where
    by : (o : Answer (List ℕ)) → refused_by x ≡ map_answer length o → line_of (refused_by x) ≡ written_or_line o
    by (answered y) same = let z : ◌≡◌ {A = ℕ} 0 1 = cc in absurd (omega arith)
    by (refused_as fault place) same = ap line_of same
