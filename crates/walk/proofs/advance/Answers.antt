-- Each turn is a law of the walk: what is left from where it stands gives the answer.
use Rattle.std.specs.Prelude.{Ok}
use Rattle.std.proofs.Common.{refl, ap, ◌∙◌, arith, rules}
use Rattle.effects.specs.declared.Effect.{Effect}
use Rattle.records.proofs.Channels.{channels-few}
use Rattle.walk.proofs.Comes.{comes_first, met, ends_there, fails_there, comes_smaller, comes_plain, comes_count, comes_all, comes_one, refused_there, frame_few, frame_refused, frame_taken}
use Rattle.walk.proofs.advance.Goals as goal

pub loop-item-init : goal.loop-item-init
loop-item-init c = comes_first _ _ _

pub shape_of-t-in-Ok-None : goal.shape_of-t-in-Ok-None
shape_of-t-in-Ok-None c = c.loop-item.invariant.long

pub returns-in-Ok-None : goal.returns-in-Ok-None
returns-in-Ok-None c = ends_there c.loop-item.invariant c.next_item.ensures c.in-Ok-None.is c.in-Ok-None.field-0-is c.come_to.ensures

pub shape_of-t-in-Err : goal.shape_of-t-in-Err
shape_of-t-in-Err c = c.loop-item.invariant.long

pub returns-in-Err : goal.returns-in-Err
returns-in-Err c = fails_there c.loop-item.invariant c.next_item.ensures c.in-Err.is c.come_to-in-Err.ensures

pub loop-item-smaller-in-Count : goal.loop-item-smaller-in-Count
loop-item-smaller-in-Count c =
    comes_smaller c.loop-item.invariant (met c.next_item.ensures c.in-Ok-Some.is c.in-Ok-Some.field-0-is c.renewed-d.ensures c.item_effect.ensures c.in-Ok.is)

pub loop-item-preserved-in-Count : goal.loop-item-preserved-in-Count
loop-item-preserved-in-Count c =
    comes_count c.loop-item.invariant
    (met c.next_item.ensures c.in-Ok-Some.is c.in-Ok-Some.field-0-is c.renewed-d.ensures c.item_effect.ensures c.in-Ok.is)
    (ap (λ (e : Effect). Ok e) c.in-Count.is) c.standing_after-st.ensures c.cleared-dates.ensures c.wrapping_add_u64-read.ensures.value

pub loop-item-smaller-in-All : goal.loop-item-smaller-in-All
loop-item-smaller-in-All c =
    comes_smaller c.loop-item.invariant (met c.next_item.ensures c.in-Ok-Some.is c.in-Ok-Some.field-0-is c.renewed-d.ensures c.item_effect.ensures c.in-Ok.is)

pub loop-item-preserved-in-All : goal.loop-item-preserved-in-All
loop-item-preserved-in-All c =
    comes_all c.loop-item.invariant
    (met c.next_item.ensures c.in-Ok-Some.is c.in-Ok-Some.field-0-is c.renewed-d.ensures c.item_effect.ensures c.in-Ok.is)
    (ap (λ (e : Effect). Ok e) c.in-All.is) c.standing_after-st-in-All.ensures c.defined-dates.ensures c.wrapping_add_u64-read.ensures.value

pub loop-item-smaller-in-One : goal.loop-item-smaller-in-One
loop-item-smaller-in-One c =
    comes_smaller c.loop-item.invariant (met c.next_item.ensures c.in-Ok-Some.is c.in-Ok-Some.field-0-is c.renewed-d.ensures c.item_effect.ensures c.in-Ok.is)

pub loop-item-preserved-in-One : goal.loop-item-preserved-in-One
loop-item-preserved-in-One c =
    comes_one c.loop-item.invariant
    (met c.next_item.ensures c.in-Ok-Some.is c.in-Ok-Some.field-0-is c.renewed-d.ensures c.item_effect.ensures c.in-Ok.is)
    (ap (λ (e : Effect). Ok e) c.in-One.is) c.settled-stood.ensures c.apply.ensures c.note.ensures c.put.ensures c.wrapping_add_u64-read.ensures.value

pub shape_of-t-in-Err-frame_of : goal.shape_of-t-in-Err-frame_of
shape_of-t-in-Err-frame_of c = c.refresh-l.ensures.long ∙ c.loop-item.invariant.long

pub returns-in-Err-frame_of : goal.returns-in-Err-frame_of
returns-in-Err-frame_of c =
    frame_refused c.loop-item.invariant
    (met c.next_item.ensures c.in-Ok-Some.is c.in-Ok-Some.field-0-is c.renewed-d.ensures c.item_effect.ensures c.in-Ok.is)
    (ap (λ (e : Effect). Ok e) c.in-Frame.is) c.channels_of-count.ensures c.at_most-n.ensures c.refresh-l.ensures c.frame_of.ensures
    c.in-Err-frame_of.is c.refused_at-refused.ensures c.come_to-in-Err-frame_of.ensures

pub taken-frame-requires : goal.taken-frame-requires
taken-frame-requires c = (channels-few _ _ c.at_most-n.ensures).0

pub overflow_add-frames : goal.overflow_add-frames
overflow_add-frames c =
    omega (
      arith,
      frame_few c.loop-item.invariant
          (met c.next_item.ensures c.in-Ok-Some.is c.in-Ok-Some.field-0-is c.renewed-d.ensures c.item_effect.ensures c.in-Ok.is)
          (ap (λ (e : Effect). Ok e) c.in-Frame.is) c.channels_of-count.ensures c.at_most-n.ensures c.refresh-l.ensures c.frame_of.ensures
          c.in-Ok-frame_of.is,
    )

pub shape_of-t-in-Ok-frame_of : goal.shape_of-t-in-Ok-frame_of
shape_of-t-in-Ok-frame_of c = c.refresh-l.ensures.long ∙ c.loop-item.invariant.long

pub returns-in-Ok-frame_of : goal.returns-in-Ok-frame_of
returns-in-Ok-frame_of c =
    frame_taken c.loop-item.invariant
    (met c.next_item.ensures c.in-Ok-Some.is c.in-Ok-Some.field-0-is c.renewed-d.ensures c.item_effect.ensures c.in-Ok.is)
    (ap (λ (e : Effect). Ok e) c.in-Frame.is) c.channels_of-count.ensures c.at_most-n.ensures c.refresh-l.ensures c.frame_of.ensures
    c.in-Ok-frame_of.is c.taken-frame.ensures c.wrapping_add_u64-read.ensures.value c.come_to-in-Ok-frame_of.ensures

pub shape_of-t-in-Err-item_effect : goal.shape_of-t-in-Err-item_effect
shape_of-t-in-Err-item_effect c = c.loop-item.invariant.long

pub returns-in-Err-item_effect : goal.returns-in-Err-item_effect
returns-in-Err-item_effect c =
    refused_there c.loop-item.invariant
    (met c.next_item.ensures c.in-Ok-Some.is c.in-Ok-Some.field-0-is c.renewed-d.ensures c.item_effect.ensures refl)
    c.in-Err-item_effect.is c.refused_at.ensures c.come_to-in-Err-item_effect.ensures

pub loop-item-smaller : goal.loop-item-smaller
loop-item-smaller c =
    comes_smaller c.loop-item.invariant (met c.next_item.ensures c.in-Ok-Some.is c.in-Ok-Some.field-0-is c.renewed-d.ensures c.item_effect.ensures c.in-Ok.is)

pub loop-item-preserved : goal.loop-item-preserved
loop-item-preserved c =
    comes_plain c.loop-item.invariant
    (met c.next_item.ensures c.in-Ok-Some.is c.in-Ok-Some.field-0-is c.renewed-d.ensures c.item_effect.ensures c.in-Ok.is)
    refl (search rules) c.standing_after-st-in_default.ensures c.wrapping_add_u64-read.ensures.value
