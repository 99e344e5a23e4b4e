-- By what the pass over the file says, and by whether the canonical file is longer than a file may be.
use mathlib.Core.Path.{◌∙◌}
use native.Mathlib.Omega.{arith}
use Rattle.std.proofs.lemmas.Result.{err_from_is_err_and}
use Rattle.canonical.proofs.Lengths.{sized-refused, sized-none, sized-long, sized-whole}
use Rattle.canonical.proofs.canonical_length.Goals as goal

pub returns-in_err-n : goal.returns-in_err-n
returns-in_err-n c =
    let p = err_from_is_err_and c.from_residual.result c.from_residual.ensures.1 in
    rw (p.1, p.2) (sized-refused _ _ _ c.scan_file-pass.ensures _ c.in_err-n.was)

pub returns-then-n-eq0 : goal.returns-then-n-eq0
returns-then-n-eq0 c =
    sized-none _ _ _ c.scan_file-pass.ensures _ c.in_ok-n.was c.if-n-eq0.true

pub returns-then-size : goal.returns-then-size
returns-then-size c =
    c.no_room.ensures
    ∙ sized-long _ _ _ c.scan_file-pass.ensures _ c.in_ok-n.was c.if-n-eq0.false (omega (arith, c.if-size.true))

pub returns : goal.returns
returns c =
    sized-whole _ _ _ c.scan_file-pass.ensures _ c.in_ok-n.was c.if-n-eq0.false (omega (arith, c.if-size.false))
