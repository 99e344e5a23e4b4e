-- Frame after frame of the walk: what is written so far is the canonical file of the frames met so far.
use mathlib.Core.Path.{◌≡◌, sym, ap, ◌∙◌}
use mathlib.Core.List.{[], List, map}
use Prim.Native.Nat.{ℕ, ◌≤◌}
use native.Mathlib.Omega.{arith}
use lib.ListN.{length, length-replicate}
use Rattle.std.specs.Prelude.{Ok, None}
use Rattle.stores.proofs.Stores.{put_long}
use Rattle.standing.specs.Standing.{octets_limit}
use Rattle.words.specs.Words.{table_words, records_in, Holding}
use Rattle.records.specs.Records.{outdated}
use Rattle.words.proofs.Laws.{records-full}
use Rattle.walk.specs.declared.Head.{Head}
use Rattle.walk.specs.Advance.{first_head, stand_of}
use Rattle.walk.proofs.Joins.{Reaches, reaches_cleared}
use Rattle.canonical.proofs.Writing.{ready_small, writing_first, writing_later, frame-start, writing_frame, written_done, never_done}
use Rattle.canonical.proofs.write_frames.Goals as goal

-- The walk begins with records that are all of the time before the first item.
started : {s u v : List ℕ} {h : Head} → length s ≤ octets_limit → length u ≡ table_words → Holding u (map outdated (records_in u)) v → h ≡ first_head → Reaches s [] (stand_of h v)
started {s = s} {u = u} l f k e = rw (e, k.records) (reaches_cleared s (records_in u) l (records-full u f))

pub put_order-at-requires : goal.put_order-at-requires
put_order-at-requires c =
    omega (arith, c.requires.room)

pub loop-v-init : goal.loop-v-init
loop-v-init c =
    let long = length-replicate {A = ℕ} table_words 0 in (
      writing_first c.requires (started (ready_small c.requires) long c.clear.ensures c.first-h.ensures)
          c.put_order-at.ensures,
      c.clear.ensures.long ∙ long,
    )

pub slice_bounds-advance-end : goal.slice_bounds-advance-end
slice_bounds-advance-end c = sym c.loop-v.invariant.1

pub overflow_cast-v : goal.overflow_cast-v
overflow_cast-v c =
    frame-start c.loop-v.invariant.0 (c.in-Ok-Some.is ∙ ap Ok (rw c.in-Ok-Some.is at c.in-Ok-Some.field-0-is)) c.advance-m.ensures.same

pub loop-v-smaller : goal.loop-v-smaller
loop-v-smaller c =
    omega (arith, writing_later c.loop-v.invariant.0 (c.in-Ok-Some.is ∙ ap Ok (rw c.in-Ok-Some.is at c.in-Ok-Some.field-0-is)) c.advance-m.ensures.same)

pub loop-v-preserved : goal.loop-v-preserved
loop-v-preserved c = (
  writing_frame c.loop-v.invariant.0 (c.in-Ok-Some.is ∙ ap Ok (rw c.in-Ok-Some.is at c.in-Ok-Some.field-0-is)) c.advance-m.ensures.same (λ (k : ℕ). omega (arith, c.type_inv.s k))
      c.part-w.ensures c.put_frame-at.ensures,
  c.advance-m.ensures.long ∙ c.loop-v.invariant.1,
)

pub shape_of-out-in-Ok-None : goal.shape_of-out-in-Ok-None
shape_of-out-in-Ok-None c =
    put_long c.loop-v.invariant.0.put ∙ put_long c.put_order-at.ensures

pub returns-in-Ok-None : goal.returns-in-Ok-None
returns-in-Ok-None c =
    let is : c.advance-m.result.step ≡ Ok None = c.in-Ok-None.is ∙ ap Ok (rw c.in-Ok-None.is at c.in-Ok-None.field-0-is) in
    written_done c.loop-v.invariant.0 is c.advance-m.ensures.same c.put_order-at.ensures

pub shape_of-out-in-Err : goal.shape_of-out-in-Err
shape_of-out-in-Err c =
    put_long c.loop-v.invariant.0.put ∙ put_long c.put_order-at.ensures

pub returns-in-Err : goal.returns-in-Err
returns-in-Err c =
    never_done c.loop-v.invariant.0 _ c.in-Err.is c.advance-m.ensures.same
