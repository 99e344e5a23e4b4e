-- `runs::copy` meets its contract: the octets that are there are stored where they fit.
use mathlib.Core.Path.{◌≡◌, refl, sym, ap, ◌∙◌}
use Prim.Native.Nat.{◌+◌, ◌-◌, ◌≤◌}
use native.Mathlib.Omega.{arith}
use lib.ListN.{length}
use lib.Seq.{sets}
use borrow.Author.Tests.{ltb-true, ltb-false}
use Rattle.stores.proofs.Stores.{putting, putting_kept}
use Rattle.runs.proofs.Blocks.{pasted}
use Rattle.runs.proofs.copy.Goals as goal

pub returns-then-overruns : goal.returns-then-overruns
returns-then-overruns c =
    let h = sym c.overruns.ensures ∙ c.if-overruns.true in
    rw (← c.part-part.ensures) (putting_kept (omega (arith, ltb-true)))

pub returns : goal.returns
returns c =
    let a = c.args in
    let part = c.part-part.result.now in
    let h = sym c.overruns.ensures ∙ c.if-overruns.false in
    let fits : a.at + length part ≤ length a.dst.now = omega (arith, ltb-false) in
    let size : a.at + length part - a.at ≡ length part = omega arith in
    rw (← c.part-part.ensures)
    (putting fits (record { next = refl; stored = rw size (pasted a.dst.now c.copy_from_slice.new.self a.at (length part) (ap length c.copy_from_slice.ensures.after) fits) ∙ ap (sets a.dst.now a.at) c.copy_from_slice.ensures.after }))
