-- Where 1E and its length fit they are stored, and else nothing is.
use mathlib.Core.Path.{sym, ◌∙◌}
use native.Mathlib.Omega.{arith}
use borrow.Author.Tests.{ltb-true, ltb-false}
use Rattle.stores.proofs.Length.{length-shortest}
use Rattle.stores.proofs.Stores.{putting_kept, putting_then}
use Rattle.frames.proofs.open_waveform.Goals as goal

pub overflow_add-length_octets : goal.overflow_add-length_octets
overflow_add-length_octets c =
    let few = (length-shortest c.args.octets).1 in
    record { fits = omega (arith, c.length_octets.ensures) }

pub returns-then-overruns : goal.returns-then-overruns
returns-then-overruns c =
    let h = sym c.overruns.ensures ∙ c.if-overruns.true in
    putting_kept (omega (arith, ltb-true, c.length_octets.ensures))

pub returns : goal.returns
returns c =
    let h = sym c.overruns.ensures ∙ c.if-overruns.false in
    putting_then (omega (arith, ltb-false, c.length_octets.ensures)) c.put_octet-a.ensures c.put_length.ensures
