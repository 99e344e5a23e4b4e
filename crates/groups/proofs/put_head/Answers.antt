-- Where 05, 06 and 07 fit they are stored, and else nothing is.
use mathlib.Core.Path.{sym, ap, ◌∙◌}
use mir.Facts.{to_z-of_z}
use native.Mathlib.Omega.{arith}
use borrow.Author.Tests.{ltb-true, ltb-false}
use Rattle.stores.proofs.Stores.{putting, putting_kept}
use Rattle.groups.specs.Head.{head_items}
use Rattle.groups.proofs.Sizes.{head-long}
use Rattle.groups.proofs.Puts.{put_as}
use Rattle.groups.proofs.put_head.Goals as goal

pub returns-then-overruns : goal.returns-then-overruns
returns-then-overruns c =
    let a = c.args in
    let h = sym c.overruns.ensures ∙ c.if-overruns.true in
    putting_kept (omega (arith, ltb-true, c.head_size.ensures, head-long a.count a.sequences a.start))

pub store_head-requires : goal.store_head-requires
store_head-requires c =
    let a = c.args in
    let h = sym c.overruns.ensures ∙ c.if-overruns.false in
    rw (to_z-of_z c.ranges.start) (omega (arith, ltb-false, c.head_size.ensures, head-long a.count a.sequences a.start))

pub returns : goal.returns
returns c =
    let a = c.args in
    let h = sym c.overruns.ensures ∙ c.if-overruns.false in
    let long = head-long a.count a.sequences a.start in
    let start = to_z-of_z c.ranges.start in
    putting (omega (arith, ltb-false, c.head_size.ensures)) (put_as (ap (head_items a.count a.sequences) start) c.store_head.ensures)
