-- By how many samples are read: what is told of them are their values.
use Rattle.std.proofs.lemmas.Result.{err_from_is_err_and}
use mathlib.Core.Path.{sym, ap, ◌∙◌}
use Prim.Native.Nat.{min}
use native.Mathlib.Omega.{arith}
use lib.ListN.{length, length-map}
use lib.Seq.{sets}
use Rattle.octets.specs.Number.{Octets}
use Rattle.heads.specs.Answer.{answered, map_answer}
use Rattle.view.proofs.Lying.{lies_seen}
use Rattle.strides.proofs.Walks.{length-bits}
use Rattle.strides.proofs.Channels.{kept, filled}
use Rattle.bulk.specs.Samples.{bits_seen, values_by, values_seen, kinds_in, wholes_in}
use Rattle.bulk.proofs.Reading.{read_refused, read_asked, read_bits}
use Rattle.bulk.proofs.Telling.{there-small, kinds_told, wholes_told}
use Rattle.bulk.proofs.values_seen.Goals as goal

pub tell_samples-requires : goal.tell_samples-requires
tell_samples-requires c =
    let a = c.args in
    let small = there-small a.v (omega arith) (omega arith) in
    let room = min (length a.kinds.now) (length a.wholes.now) in
    let k = read_asked a.s.now a.v a.first room (rw c.smaller-room.ensures at c.readable.ensures) c.in_ok-n.was in
    let n = k.1 in
    record { lies = lies_seen k.0.lies; number = omega arith; small = omega (arith, small); kinds_fit = omega arith; wholes_fit = omega arith }

pub returns-in_err-n : goal.returns-in_err-n
unfolding values_seen
returns-in_err-n c =
    let p = err_from_is_err_and c.from_residual.result c.from_residual.ensures.1 in
    let a = c.args in
    let room = min (length a.kinds.now) (length a.wholes.now) in
    let read = read_refused a.s.now a.v a.first room (rw c.smaller-room.ensures at c.readable.ensures) c.in_err-n.was in
    let e = ap (map_answer (values_by a.v.settings)) read in
    record {
      result_value = rw (p.1, p.2) (ap (map_answer length) e);
      kinds_after = kept _ (ap kinds_in e);
      wholes_after = kept _ (ap wholes_in e);
    }

pub returns : goal.returns
unfolding values_seen
returns c =
    let a = c.args in
    let room = min (length a.kinds.now) (length a.wholes.now) in
    let many = rw c.smaller-room.ensures at c.readable.ensures in
    let some = c.in_ok-n.was in
    let fits = (read_asked a.s.now a.v a.first room many some).1 in
    let e = ap (map_answer (values_by a.v.settings)) (read_bits a.s.now a.v a.first room many some) in
    let n = c.in_ok-n.n in
    let long = length-bits (bits_seen a.s.now a.v) a.first n in
    let octets : Octets a.s.now = λ i. (c.type_inv.s i).fits in
    let kinds = c.tell_samples.ensures.kinds_after ∙ ap (sets a.kinds.now 0) (kinds_told a.s.now octets a.v a.first n) in
    let wholes = c.tell_samples.ensures.wholes_after ∙ ap (sets a.wholes.now 0) (wholes_told a.s.now octets a.v a.first n) in
    record {
      result_value = ap answered (sym (simp length-map long)) ∙ ap (map_answer length) e;
      kinds_after = filled _ (ap kinds_in e) (simp length-map (omega arith)) kinds;
      wholes_after = filled _ (ap wholes_in e) (simp length-map (omega arith)) wholes;
    }
