-- Where the group fits it is stored, and else nothing is.
use mathlib.Core.Path.{◌≡◌, sym, ap, ◌∙◌}
use Prim.Native.Nat.{ℕ}
use native.Mathlib.Omega.{arith}
use borrow.Author.Tests.{ltb-true, ltb-false}
use lib.ListN.{length}
use Rattle.values.proofs.Laws.{width_le}
use Rattle.stores.proofs.Stores.{putting, putting_kept}
use Rattle.settings.specs.declared.Settings.{Settings}
use Rattle.layout.specs.Frame.{width_in, reported}
use Rattle.sizes.specs.Size.{content_size, group_size}
use Rattle.groups.specs.Group.{group_octets}
use Rattle.groups.proofs.Sizes.{content_few, group_long}
use Rattle.groups.proofs.put_group.Goals as goal

sized : (k : ℕ) (c : Settings) {w n : ℕ} → w ≡ width_in c → n ≡ group_size k w c.null → n ≡ length (group_octets k (reported c))
sized k c w n = n ∙ ap (λ (m : ℕ). group_size k m c.null) w ∙ sym (group_long k c)

content : (c : Settings) {w n : ℕ} → w ≡ width_in c → n ≡ content_size w c.null → n ≡ content_size (width_in c) c.null
content c w n = n ∙ ap (λ (m : ℕ). content_size m c.null) w

pub overflow_cast-w : goal.overflow_cast-w
overflow_cast-w c =
    omega (arith, c.width-w.ensures, width_le c.args.c.datatype)

pub returns-then-overruns : goal.returns-then-overruns
returns-then-overruns c =
    let a = c.args in
    let h = sym c.overruns.ensures ∙ c.if-overruns.true in
    putting_kept (omega (arith, ltb-true, sized a.k a.c c.width-w.ensures (rw c.from.ensures at c.group_size.ensures)))

pub overflow_cast-content_size : goal.overflow_cast-content_size
overflow_cast-content_size c =
    let x = c.args.c in
    omega (arith, content x c.width-w.ensures c.content_size.ensures, content_few x)

pub store_group-requires : goal.store_group-requires
store_group-requires c =
    let a = c.args in
    let h = sym c.overruns.ensures ∙ c.if-overruns.false in
    let size = sized a.k a.c c.width-w.ensures (rw c.from.ensures at c.group_size.ensures) in
    (content a.c c.width-w.ensures c.content_size.ensures, omega (arith, ltb-false))

pub returns : goal.returns
returns c =
    let a = c.args in
    let h = sym c.overruns.ensures ∙ c.if-overruns.false in
    let size = sized a.k a.c c.width-w.ensures (rw c.from.ensures at c.group_size.ensures) in
    putting (omega (arith, ltb-false)) c.store_group.ensures
