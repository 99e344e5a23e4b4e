-- `octets::little_endian` meets its contract: it reads from the back, and what was read so far is the number of the octets passed.
-- Assumes nothing.
use Rattle.std.proofs.Common.{◌≡◌, ◌<◌, ◌+◌, ◌-◌, length, get_or, arith, refl}
use Rattle.std.proofs.lemmas.List.{length-reverse, length_push}
use Rattle.std.proofs.lemmas.Iterator.Adapters.{YieldsList-from_rev_slice}
use Rattle.std.proofs.lemmas.Iterator.Consumers.{YieldsList-turn, YieldsList-end}
use native.Mathlib.Nat.{lt_of_lt_of_le}
use lib.Dec.{lit<}
use Rattle.octets.specs.Number.{number_of}
use Rattle.octets.proofs.Laws.{push, cap, push_fits, back_octet, little-start, little_turn, little_end}
use Rattle.octets.proofs.little_endian.Goals as goal
use Rattle.octets.proofs.little_endian.Goals.{In-Some}

-- The octet that comes next, as the part has it.
next_octet : (c : In-Some) → (length c.loop-b.yielded < length c.args.s.now) × (c.in-Some.b.now ≡ get_or c.args.s.now (length c.args.s.now - (length c.loop-b.yielded + 1)) 0)
next_octet c =
    let t = YieldsList-turn (YieldsList-from_rev_slice c.args.s.now cc) c.loop-b.yielded _ c.loop-b.yielded_by _ _ c.in-Some.b c.in-Some.is c.next.ensures.steps in
    back_octet c.args.s.now _ _ t.0 t.1

pub loop-b-init : goal.loop-b-init
loop-b-init c = (omega arith, lit< tt, little-start c.args.s.now _ (omega arith))

pub overflow_mul-n : goal.overflow_mul-n
overflow_mul-n c =
    let h = next_octet c in
    omega (arith, push_fits (length c.loop-b.yielded) c.loop-b.n 0 (omega arith) c.loop-b.invariant.1 (lit< tt))

pub overflow_add-n : goal.overflow_add-n
overflow_add-n c =
    let h = next_octet (goal.at.overflow_add-n c).In-Some in
    let k = (c.type_inv.s (length c.args.s.now - (length c.loop-b.yielded + 1))).fits in
    rw (c.from.ensures, h.1) (record { fits = push_fits (length c.loop-b.yielded) _ _ (omega arith) c.loop-b.invariant.1 k })

pub loop-b-preserved : goal.loop-b-preserved
loop-b-preserved c =
    let l = c.loop-b in
    let s = c.args.s.now in
    let read = length l.yielded in
    let h = next_octet (goal.at.loop-b-preserved c).In-Some in
    let k = (c.type_inv.s (length s - (read + 1))).fits in
    rw (length_push l.yielded c.in-Some.b, c.from.ensures, h.1) (
      omega arith,
      push read l.n _ l.invariant.1 k,
      little_turn s _ (length s - read) l.n _ (omega arith) (omega arith) l.invariant.2 refl,
    )

pub returns : goal.returns
unfolding number_of
returns c =
    let t = YieldsList-end (YieldsList-from_rev_slice c.args.s.now cc) c.loop-b.yielded _ c.loop-b.yielded_by _ _ c.in-None.is c.next.ensures.steps in
    let l = c.loop-b in
    record {
      value = little_end c.args.s.now (length c.args.s.now - length l.yielded) _ (omega (arith, t.1, length-reverse c.args.s.now)) l.invariant.2;
      below = lt_of_lt_of_le l.invariant.1 (cap _ _ l.invariant.0);
    }
