-- By the canonical file's length, and by whether the buffer has as many octets.
use Rattle.std.proofs.lemmas.Result.{err_from_is_err_and}
use Rattle.canonical.proofs.Lengths.{written_refused, written_none, written_short, ready, written_whole}
use Rattle.canonical.proofs.write_canonical.Goals as goal

pub returns-in_err-octets : goal.returns-in_err-octets
returns-in_err-octets c =
    let p = err_from_is_err_and c.from_residual.result c.from_residual.ensures.1 in
    rw (p.1, p.2) (written_refused (λ i. (c.type_inv.s i).fits) _ c.in_err-octets.ensures)

pub returns-then-octets-eq0 : goal.returns-then-octets-eq0
returns-then-octets-eq0 c =
    written_none (λ i. (c.type_inv.s i).fits) c.in_ok-octets.ensures c.if-octets-eq0.true

pub returns-then-out-octets : goal.returns-then-out-octets
returns-then-out-octets c =
    written_short (λ i. (c.type_inv.s i).fits) c.in_ok-octets.ensures c.no_room.ensures c.if-out-octets.true

pub write_frames-requires : goal.write_frames-requires
write_frames-requires c =
    ready (λ i. (c.type_inv.s i).fits) c.in_ok-octets.ensures c.if-octets-eq0.false c.if-out-octets.false

pub returns : goal.returns
returns c =
    written_whole (λ i. (c.type_inv.s i).fits) c.in_ok-octets.ensures
    c.if-octets-eq0.false c.if-out-octets.false c.write_frames.ensures
