-- Each turn is a law of the pass, where no record is laid down: the items up to the cursor behind the item lead to what stands then.
use Rattle.std.specs.Prelude.{Ok}
use mathlib.Core.Path.{refl, ap, ◌∙◌}
use mathlib.Core.List.{[], ◌∷◌}
use mathlib.Core.Logic.{inr}
use native.Mathlib.Omega.{arith}
use Rattle.items.specs.declared.Cursor.{Cursor}
use Rattle.items.specs.Walk.{cursor}
use Rattle.pass.proofs.Scans.{scanning_counted, scanned_end, scanned_fault}
use Rattle.pass.proofs.Turns.{facing_at, facing_later, facing_stands, facing_refused, facing_framing, framing_refused, framing_octets, framing_room}
use Rattle.pass.proofs.Stretches.{begins_root}
use Rattle.pass.proofs.Bare.{bare_first, bare_on, bare_at, bare_all, bare_root, bare_taken}
use borrow.Enum.Refused.{opened}
use Rattle.pass.proofs.scan_root.Goals as goal

pub loop-ahead-init : goal.loop-ahead-init
loop-ahead-init c =
    bare_first _ _ _ _ c.requires c.first-c.ensures c.first-st.ensures c.none-met.ensures

pub loop-ahead-smaller-then-c-ahead : goal.loop-ahead-smaller-then-c-ahead
loop-ahead-smaller-then-c-ahead c =
    omega (arith, (begins_root _ _ c.begins.ensures c.if-begins.true).1, c.if-c-ahead.true, ap (λ (d : Cursor). d.at) c.moved-c.ensures)

pub loop-ahead-preserved-then-c-ahead : goal.loop-ahead-preserved-then-c-ahead
loop-ahead-preserved-then-c-ahead c =
    let root = (begins_root _ _ c.begins.ensures c.if-begins.true).0 in
    bare_at (c.moved-c.ensures ∙ ap (cursor c.root_stretch-ahead.result.at) root)
    (bare_root c.loop-ahead.invariant root refl c.root_stretch-ahead.ensures c.with_root-st.ensures)

pub returns-in-Ok-None : goal.returns-in-Ok-None
returns-in-Ok-None c =
    c.scan.ensures ∙ scanned_end c.loop-ahead.invariant c.next_item.ensures (c.in-Ok-None.is ∙ ap Ok c.in-Ok-None.field-0-is)

pub returns-in-Err : goal.returns-in-Err
returns-in-Err c =
    c.refused_scan.ensures ∙ scanned_fault c.loop-ahead.invariant _ c.next_item.ensures c.in-Err.is

pub returns-in-Err-item_effect : goal.returns-in-Err-item_effect
returns-in-Err-item_effect c =
    let turn = facing_at c.loop-ahead.invariant c.next_item.ensures c.in-Ok-Some.is c.in-Ok-Some.field-0-is refl c.item_effect.ensures in
    c.refused_item.ensures ∙ facing_refused turn c.in-Err-item_effect.is

pub loop-ahead-smaller-in-All : goal.loop-ahead-smaller-in-All
loop-ahead-smaller-in-All c =
    let turn = facing_at c.loop-ahead.invariant c.next_item.ensures c.in-Ok-Some.is c.in-Ok-Some.field-0-is refl c.item_effect.ensures in
    omega (arith, facing_later turn, ap (λ (d : Cursor). d.at) c.renewed-c.ensures)

pub loop-ahead-preserved-in-All : goal.loop-ahead-preserved-in-All
loop-ahead-preserved-in-All c =
    let turn = facing_at c.loop-ahead.invariant c.next_item.ensures c.in-Ok-Some.is c.in-Ok-Some.field-0-is refl c.item_effect.ensures in
    bare_at c.renewed-c.ensures (bare_all turn c.in-Ok.is c.in-All.is c.standing_after-st.ensures)

pub scan_channels-requires : goal.scan_channels-requires
scan_channels-requires c = c.loop-ahead.invariant

pub returns-in-One : goal.returns-in-One
returns-in-One c = c.scan_channels.ensures

pub root_layout-l-requires : goal.root_layout-l-requires
root_layout-l-requires c = scanning_counted c.loop-ahead.invariant

pub returns-in-Err-frame_of : goal.returns-in-Err-frame_of
returns-in-Err-frame_of c =
    let turn = facing_at c.loop-ahead.invariant c.next_item.ensures c.in-Ok-Some.is c.in-Ok-Some.field-0-is refl c.item_effect.ensures in
    let framed = facing_framing turn c.in-Ok.is c.in-Frame.is c.root_layout-l.ensures c.frame_of.ensures in
    c.refused_item-in-Err-frame_of.ensures ∙ framing_refused framed c.in-Err-frame_of.is

pub root_there-there-requires : goal.root_there-there-requires
root_there-there-requires c =
    let turn = facing_at c.loop-ahead.invariant c.next_item.ensures c.in-Ok-Some.is c.in-Ok-Some.field-0-is refl c.item_effect.ensures in
    framing_octets (facing_framing turn c.in-Ok.is c.in-Frame.is c.root_layout-l.ensures c.frame_of.ensures)

pub with_frame-met-requires : goal.with_frame-met-requires
with_frame-met-requires c =
    let turn = facing_at c.loop-ahead.invariant c.next_item.ensures c.in-Ok-Some.is c.in-Ok-Some.field-0-is refl c.item_effect.ensures in
    let framed = facing_framing turn c.in-Ok.is c.in-Frame.is c.root_layout-l.ensures c.frame_of.ensures in
    framing_room framed c.in-Ok-frame_of.is c.root_there-there.ensures

pub loop-ahead-smaller-in-Ok-frame_of : goal.loop-ahead-smaller-in-Ok-frame_of
loop-ahead-smaller-in-Ok-frame_of c =
    let turn = facing_at c.loop-ahead.invariant c.next_item.ensures c.in-Ok-Some.is c.in-Ok-Some.field-0-is refl c.item_effect.ensures in
    omega (arith, facing_later turn, ap (λ (d : Cursor). d.at) c.renewed-c-in-Ok-frame_of.ensures)

pub loop-ahead-preserved-in-Ok-frame_of : goal.loop-ahead-preserved-in-Ok-frame_of
loop-ahead-preserved-in-Ok-frame_of c =
    let turn = facing_at c.loop-ahead.invariant c.next_item.ensures c.in-Ok-Some.is c.in-Ok-Some.field-0-is refl c.item_effect.ensures in
    let framed = facing_framing turn c.in-Ok.is c.in-Frame.is c.root_layout-l.ensures c.frame_of.ensures in
    bare_at c.renewed-c-in-Ok-frame_of.ensures (bare_taken framed c.in-Ok-frame_of.is c.root_there-there.ensures c.with_frame-met.ensures)

pub loop-ahead-smaller : goal.loop-ahead-smaller
loop-ahead-smaller c =
    let turn = facing_at c.loop-ahead.invariant c.next_item.ensures c.in-Ok-Some.is c.in-Ok-Some.field-0-is refl c.item_effect.ensures in
    omega (arith, facing_later turn, ap (λ (d : Cursor). d.at) c.renewed-c-in_default.ensures)

pub loop-ahead-preserved : goal.loop-ahead-preserved
loop-ahead-preserved c =
    let turn = facing_at c.loop-ahead.invariant c.next_item.ensures c.in-Ok-Some.is c.in-Ok-Some.field-0-is refl c.item_effect.ensures in
    bare_at c.renewed-c-in_default.ensures (bare_on (facing_stands turn (0 ∷ 1 ∷ 2 ∷ 3 ∷ 4 ∷ []) (tt, tt, tt) (inr refl) c.in-Ok.is (opened c.in_default.in_default-own.keys4) c.standing_after-st-in_default.ensures))
