-- Each turn is a law of the pass over the records: the items up to the cursor behind the item lead to what stands then.
use mathlib.Core.Path.{◌≡◌, refl, ap, ◌∙◌}
use mathlib.Core.List.{[], ◌∷◌}
use mathlib.Core.Logic.{inl}
use native.Mathlib.Omega.{arith}
use Prim.Native.Nat.{ℕ}
use lib.ListN.{take}
use Rattle.std.specs.Prelude.{Ok}
use Rattle.items.specs.declared.Cursor.{Cursor}
use Rattle.settings.specs.declared.Settings.{Settings}
use Rattle.stretch.specs.Stretch.{stretch_of}
use Rattle.dated.specs.Dated.{settled_in}
use Rattle.layout.proofs.Laws.{summing_none, summed_up}
use Rattle.framing.specs.Framing.{channels_of}
use Rattle.there.specs.There.{there_octets}
use Rattle.verdict.proofs.Bounds.{channels-between}
use Rattle.pass.proofs.Scans.{scanning_counted, scanned_end, scanned_fault}
use Rattle.pass.proofs.Turns.{facing_at, facing_later, facing_nothing, facing_stands, facing_refused, facing_framing, framing_refused, framing_octets, framing_small, framing_room, framing_taken}
use Rattle.pass.proofs.Stretches.{opened_group, opened_nothing, opened-counted, group_entered, stretch-on}
use Rattle.pass.proofs.Records.{passing_from, passing_at, passing_on, passing_count, passing_all, passing_one, passing_outside, passing_group, settled_more, settled_seen, stands-full}
use Rattle.pass.proofs.Cut.{held-there, held_cut, held_small}
use Rattle.pass.proofs.scan_channels.Goals as goal
use Rattle.pass.proofs.scan_channels.Goals.{then-holds, else-holds}

pub loop-item-init : goal.loop-item-init
loop-item-init c =
    passing_from c.table-table.ensures c.first-dates.ensures c.requires

pub returns-in-Ok-None : goal.returns-in-Ok-None
returns-in-Ok-None c =
    c.scan.ensures ∙ scanned_end c.loop-item.invariant.pass c.next_item.ensures (c.in-Ok-None.is ∙ ap Ok c.in-Ok-None.field-0-is)

pub returns-in-Err : goal.returns-in-Err
returns-in-Err c =
    c.refused_scan.ensures ∙ scanned_fault c.loop-item.invariant.pass _ c.next_item.ensures c.in-Err.is

pub offset_bounds-table-k : goal.offset_bounds-table-k
offset_bounds-table-k c = omega (arith, c.if-k-lt-CHANNELS.true)

pub offset_bounds-table-k-then-k-lt-CHANNELS : goal.offset_bounds-table-k-then-k-lt-CHANNELS
offset_bounds-table-k-then-k-lt-CHANNELS c =
    omega (arith, c.if-k-lt-CHANNELS.true)

pub bounds-table-k-then-k-lt-CHANNELS : goal.bounds-table-k-then-k-lt-CHANNELS
bounds-table-k-then-k-lt-CHANNELS c =
    omega (arith, c.if-k-lt-CHANNELS.true)

pub loop-item-smaller-then-k-lt-CHANNELS : goal.loop-item-smaller-then-k-lt-CHANNELS
loop-item-smaller-then-k-lt-CHANNELS c =
    let met = facing_at c.loop-item.invariant.pass c.next_item.ensures c.in-Ok-Some.is c.in-Ok-Some.field-0-is c.renewed-c.ensures refl in
    omega (arith, facing_later met, stretch-on _ _ _ _ _ c.along-ahead.ensures, ap (λ (d : Cursor). d.at) c.moved-c.ensures)

pub loop-item-preserved-then-k-lt-CHANNELS : goal.loop-item-preserved-then-k-lt-CHANNELS
loop-item-preserved-then-k-lt-CHANNELS c =
    let met = facing_at c.loop-item.invariant.pass c.next_item.ensures c.in-Ok-Some.is c.in-Ok-Some.field-0-is c.renewed-c.ensures refl in
    let opens = opened_group _ _ c.opened-k.ensures c.if-k-lt-CHANNELS.true in
    let entered = passing_on c.loop-item.invariant met (refl, facing_nothing met (opened_nothing _ _ opens)) in
    let held = ap (λ (x : Settings). stretch_of c.args.s.now c.renewed-c.result c.loop-item.st.little c.loop-item.st.root x) c.settle-stood.ensures in
    passing_at (passing_group entered c.opened-k.result (group_entered _ _ refl met.found opens) c.if-k-lt-CHANNELS.true (opened-counted opens) (c.along-ahead.ensures ∙ held) c.note.ensures)
    c.moved-c.ensures

pub returns-in-Err-item_effect : goal.returns-in-Err-item_effect
returns-in-Err-item_effect c =
    let turn = facing_at c.loop-item.invariant.pass c.next_item.ensures c.in-Ok-Some.is c.in-Ok-Some.field-0-is c.renewed-c.ensures c.item_effect.ensures in
    c.refused_item.ensures ∙ facing_refused turn c.in-Err-item_effect.is

pub loop-item-smaller-in-Count : goal.loop-item-smaller-in-Count
loop-item-smaller-in-Count c =
    let turn = facing_at c.loop-item.invariant.pass c.next_item.ensures c.in-Ok-Some.is c.in-Ok-Some.field-0-is c.renewed-c.ensures c.item_effect.ensures in
    omega (arith, facing_later turn)

pub loop-item-preserved-in-Count : goal.loop-item-preserved-in-Count
loop-item-preserved-in-Count c =
    let turn = facing_at c.loop-item.invariant.pass c.next_item.ensures c.in-Ok-Some.is c.in-Ok-Some.field-0-is c.renewed-c.ensures c.item_effect.ensures in
    passing_count c.loop-item.invariant turn c.in-Ok.is c.in-Count.is c.standing_after-st.ensures c.cleared-dates.ensures

pub loop-item-smaller-in-All : goal.loop-item-smaller-in-All
loop-item-smaller-in-All c =
    let turn = facing_at c.loop-item.invariant.pass c.next_item.ensures c.in-Ok-Some.is c.in-Ok-Some.field-0-is c.renewed-c.ensures c.item_effect.ensures in
    omega (arith, facing_later turn)

pub loop-item-preserved-in-All : goal.loop-item-preserved-in-All
loop-item-preserved-in-All c =
    let turn = facing_at c.loop-item.invariant.pass c.next_item.ensures c.in-Ok-Some.is c.in-Ok-Some.field-0-is c.renewed-c.ensures c.item_effect.ensures in
    passing_all c.loop-item.invariant turn c.in-Ok.is c.in-All.is c.standing_after-st-in-All.ensures c.defined-dates.ensures

pub loop-item-smaller-then-k-lt-CHANNELS-2 : goal.loop-item-smaller-then-k-lt-CHANNELS-2
loop-item-smaller-then-k-lt-CHANNELS-2 c =
    let turn = facing_at c.loop-item.invariant.pass c.next_item.ensures c.in-Ok-Some.is c.in-Ok-Some.field-0-is c.renewed-c.ensures c.item_effect.ensures in
    omega (arith, facing_later turn)

pub loop-item-preserved-then-k-lt-CHANNELS-2 : goal.loop-item-preserved-then-k-lt-CHANNELS-2
loop-item-preserved-then-k-lt-CHANNELS-2 c =
    let turn = facing_at c.loop-item.invariant.pass c.next_item.ensures c.in-Ok-Some.is c.in-Ok-Some.field-0-is c.renewed-c.ensures c.item_effect.ensures in
    passing_one c.loop-item.invariant turn c.in-Ok.is c.in-One.is c.settle-stood-then-k-lt-CHANNELS-2.ensures c.apply.ensures c.note-then-k-lt-CHANNELS-2.ensures

pub loop-item-smaller-else-k-lt-CHANNELS-2 : goal.loop-item-smaller-else-k-lt-CHANNELS-2
loop-item-smaller-else-k-lt-CHANNELS-2 c =
    let turn = facing_at c.loop-item.invariant.pass c.next_item.ensures c.in-Ok-Some.is c.in-Ok-Some.field-0-is c.renewed-c.ensures c.item_effect.ensures in
    omega (arith, facing_later turn)

pub loop-item-preserved-else-k-lt-CHANNELS-2 : goal.loop-item-preserved-else-k-lt-CHANNELS-2
loop-item-preserved-else-k-lt-CHANNELS-2 c =
    let turn = facing_at c.loop-item.invariant.pass c.next_item.ensures c.in-Ok-Some.is c.in-Ok-Some.field-0-is c.renewed-c.ensures c.item_effect.ensures in
    passing_outside c.loop-item.invariant turn c.in-Ok.is c.in-One.is c.if-k-lt-CHANNELS-2.false

pub loop-i-init : goal.loop-i-init
loop-i-init c =
    summing_none _ (stands-full c.loop-item.invariant) (rw c.channels_of-n.ensures (channels-between _ (scanning_counted c.loop-item.invariant.pass)).1) c.none-l.ensures

pub offset_bounds-table-i : goal.offset_bounds-table-i
offset_bounds-table-i c = omega (arith, c.loop-i.invariant.few, c.loop-i-test.true)

pub overflow_add-i : goal.overflow_add-i
overflow_add-i c =
    omega (arith, c.loop-i.invariant.few, c.loop-i-test.true)

pub loop-i-smaller : goal.loop-i-smaller
loop-i-smaller c = omega arith

pub loop-i-preserved : goal.loop-i-preserved
loop-i-preserved c =
    settled_more c.loop-item.invariant c.loop-i.invariant _ c.loop-i-test.true c.settle.ensures c.more-l.ensures

pub returns-in-Err-frame_of : goal.returns-in-Err-frame_of
returns-in-Err-frame_of c =
    let turn = facing_at c.loop-item.invariant.pass c.next_item.ensures c.in-Ok-Some.is c.in-Ok-Some.field-0-is c.renewed-c.ensures c.item_effect.ensures in
    let framing = facing_framing turn c.in-Ok.is c.in-Frame.is (summed_up c.loop-i.invariant _ c.channels_of-n.ensures c.loop-i-test.false) c.frame_of.ensures in
    c.refused_item-in-Err-frame_of.ensures ∙ framing_refused framing c.in-Err-frame_of.is

pub overflow_mul-there : goal.overflow_mul-there
overflow_mul-there c =
    let turn = facing_at c.loop-item.invariant.pass c.next_item.ensures c.in-Ok-Some.is c.in-Ok-Some.field-0-is c.renewed-c.ensures c.item_effect.ensures in
    let framing = facing_framing turn c.in-Ok.is c.in-Frame.is (summed_up c.loop-i.invariant _ c.channels_of-n.ensures c.loop-i-test.false) c.frame_of.ensures in
    record { fits = held_small _ _ _ c.holds.ensures c.if-holds.true (framing_small framing) }

pub channels_there-there-requires : goal.channels_there-there-requires
channels_there-there-requires c =
    let turn = facing_at c.loop-item.invariant.pass c.next_item.ensures c.in-Ok-Some.is c.in-Ok-Some.field-0-is c.renewed-c.ensures c.item_effect.ensures in
    let framing = facing_framing turn c.in-Ok.is c.in-Frame.is (summed_up c.loop-i.invariant _ c.channels_of-n.ensures c.loop-i-test.false) c.frame_of.ensures in
    let octets = framing_octets framing in
    record {
      n_le_channel_limit = (c.loop-i.invariant.few, rw c.channels_of-n.ensures octets);
      len_bound = rw octets (held_cut _ _ _ octets c.holds.ensures c.if-holds.false);
    }

pub with_frame-met-requires : goal.with_frame-met-requires
with_frame-met-requires c =
    let turn = facing_at c.loop-item.invariant.pass c.next_item.ensures c.in-Ok-Some.is c.in-Ok-Some.field-0-is c.renewed-c.ensures c.item_effect.ensures in
    let framing = facing_framing turn c.in-Ok.is c.in-Frame.is (summed_up c.loop-i.invariant _ c.channels_of-n.ensures c.loop-i-test.false) c.frame_of.ensures in
    let counted : c.if-holds.there ≡ there_octets (take (channels_of c.loop-item.st.counted) (settled_in c.loop-item.st.root c.loop-item.dates c.loop-item.table)) c.in-Ok-frame_of.sequences c.in-Frame.len =
    elim c.if-holds.branch [
      | then-holds w ↦ w.there-is ∙ held-there _ _ _ (framing_octets framing) c.holds.ensures w.if-holds.true
      | else-holds w ↦ w.there-is ∙ w.channels_there-there.ensures ∙ ap (λ (n : ℕ). there_octets (take n (settled_in c.loop-item.st.root c.loop-item.dates c.loop-item.table)) c.in-Ok-frame_of.sequences c.in-Frame.len) c.channels_of-n.ensures
    ] in
    framing_room framing c.in-Ok-frame_of.is counted

pub loop-item-smaller-in-Ok-frame_of : goal.loop-item-smaller-in-Ok-frame_of
loop-item-smaller-in-Ok-frame_of c =
    let turn = facing_at c.loop-item.invariant.pass c.next_item.ensures c.in-Ok-Some.is c.in-Ok-Some.field-0-is c.renewed-c.ensures c.item_effect.ensures in
    omega (arith, facing_later turn)

pub loop-item-preserved-in-Ok-frame_of : goal.loop-item-preserved-in-Ok-frame_of
loop-item-preserved-in-Ok-frame_of c =
    let turn = facing_at c.loop-item.invariant.pass c.next_item.ensures c.in-Ok-Some.is c.in-Ok-Some.field-0-is c.renewed-c.ensures c.item_effect.ensures in
    let framing = facing_framing turn c.in-Ok.is c.in-Frame.is (summed_up c.loop-i.invariant _ c.channels_of-n.ensures c.loop-i-test.false) c.frame_of.ensures in
    let counted : c.if-holds.there ≡ there_octets (take (channels_of c.loop-item.st.counted) (settled_in c.loop-item.st.root c.loop-item.dates c.loop-item.table)) c.in-Ok-frame_of.sequences c.in-Frame.len =
    elim c.if-holds.branch [
      | then-holds w ↦ w.there-is ∙ held-there _ _ _ (framing_octets framing) c.holds.ensures w.if-holds.true
      | else-holds w ↦ w.there-is ∙ w.channels_there-there.ensures ∙ ap (λ (n : ℕ). there_octets (take n (settled_in c.loop-item.st.root c.loop-item.dates c.loop-item.table)) c.in-Ok-frame_of.sequences c.in-Frame.len) c.channels_of-n.ensures
    ] in
    let seen = settled_seen c.loop-item.invariant c.index-k.ensures c.settle-seen.ensures in
    passing_on c.loop-item.invariant turn (framing_taken framing c.in-Ok-frame_of.is counted seen c.with_frame-met.ensures)

pub loop-item-smaller : goal.loop-item-smaller
loop-item-smaller c =
    let turn = facing_at c.loop-item.invariant.pass c.next_item.ensures c.in-Ok-Some.is c.in-Ok-Some.field-0-is c.renewed-c.ensures c.item_effect.ensures in
    omega (arith, facing_later turn)

pub loop-item-preserved : goal.loop-item-preserved
loop-item-preserved c =
    let turn = facing_at c.loop-item.invariant.pass c.next_item.ensures c.in-Ok-Some.is c.in-Ok-Some.field-0-is c.renewed-c.ensures c.item_effect.ensures in
    passing_on c.loop-item.invariant turn (facing_stands turn (0 ∷ 1 ∷ 3 ∷ 4 ∷ []) (tt, tt, tt) (inl tt) c.in-Ok.is c.in_default.in_default-own.keys5 c.standing_after-st-in_default.ensures)
