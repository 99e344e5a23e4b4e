-- `line::put_line` meets its contract: each part is stored after the one before it, and 64 octets hold the longest line.
use native.Mathlib.Omega.{arith}
use Rattle.line.proofs.Laws.{frames_line, refused_line}
use Rattle.line.proofs.put_line.Goals as goal

pub returns-in-Ok : goal.returns-in-Ok
returns-in-Ok c =
    rw c.in-Ok.is (frames_line c.in-Ok.n (omega arith) c.put_text-a.ensures (rw c.from.ensures at c.put_decimal-b.ensures) c.put_text.ensures)

pub returns-in-Err : goal.returns-in-Err
returns-in-Err c =
    rw c.in-Err.is
    (refused_line c.in-Err.x (omega arith) c.put_text-a-in-Err.ensures (rw (c.from-in-Err.ensures, c.number.ensures) at c.put_decimal-b-in-Err.ensures)
    c.put_text-c.ensures c.put_decimal-d.ensures c.put_text-in-Err.ensures)
