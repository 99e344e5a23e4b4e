-- Where a file may be cut off: an item that was taken has all its octets.
--     CutsFrom, cuts_less    if the verdict is 3, it is at this place or behind it
--     reached_cuts           where a file's items lead, none before is cut off
--     found_cuts             nor is the item that is found there
-- Assumes nothing.
use Rattle.std.specs.Prelude.{Ok, Some}
use Prim.Native.Nat.{ℕ, suc, ◌≤◌}
use mathlib.Core.Path.{◌≡◌, refl, sym, ◌∙◌, ap, subst}
use mathlib.Core.List.{List}
use native.Mathlib.Omega.{arith}
use Rattle.heads.specs.declared.Fault.TheVariants.{PastEnd}
use Rattle.heads.specs.Faults.{number_of}
use Rattle.items.specs.declared.Cursor.{Cursor}
use Rattle.items.specs.declared.Item.{Item}
use Rattle.items.specs.Walk.{next_of, items_from}
use Rattle.items.proofs.Walks.{next-later, next-refused, items_found}
use Rattle.verdict.specs.Verdict.{State, Outcome, goes, refuses, Verdict, accepted, refused, interpret, unlimited}
use Rattle.verdict.specs.Reached.{Reached, behind}
use Rattle.verdict.proofs.Keeps.{meaning, interpret-refuses, verdict_law, reached-unlimited}
use Rattle.verdict.proofs.Steps.{meaning_refused}

abbrev pub CutsFrom : ℕ → Verdict → Type 0
CutsFrom k (accepted fs) = Unit {0}
CutsFrom k (refused r) = r.fault ≡ PastEnd → k ≤ r.place

pub cuts_less : {k m : ℕ} → k ≤ m → (v : Verdict) → CutsFrom m v → CutsFrom k v
cuts_less h (accepted fs) c = tt
cuts_less h (refused r) c = λ e. let l = c e in omega arith

pub reached_cuts : {s : List ℕ} {x : State} {c : Cursor} → Reached s x c → CutsFrom c.at (unlimited s)
reached_cuts {s} {x} {c} r =
    subst (CutsFrom c.at) (reached-unlimited s r)
    (verdict_law s (λ y d. c.at ≤ d.at) (λ y d i b z h e m. omega (arith, next-later s d refl e)) (CutsFrom c.at) (λ y d h. tt)
    (λ y d q h e z. omega (arith, (next-refused s d refl e).1 z))
    (λ y d i b f h e m z. omega (arith, meaning_refused s y i f m, ap number_of z))
    x c (omega arith))

pub found_cuts : {s : List ℕ} {x : State} {c : Cursor} {i : Item} {d : Cursor} → Reached s x c → next_of s c ≡ Ok (Some (i, d)) → CutsFrom (suc c.at) (unlimited s)
found_cuts {s} {x} {c} {i} {d} r e = by (meaning s x i) refl
  where
    by : (o : Outcome) → meaning s x i ≡ o → CutsFrom (suc c.at) (unlimited s)
    by (goes y) g = cuts_less (omega (arith, next-later s c refl e)) (unlimited s) (reached_cuts (behind r e g))
    by (refuses f) g =
        subst (CutsFrom (suc c.at)) (sym (interpret-refuses s x i (items_from s d) f g) ∙ ap (interpret s x) (sym (items_found s c i d e)) ∙ reached-unlimited s r)
        (λ z. omega (arith, meaning_refused s x i f g, ap number_of z))
