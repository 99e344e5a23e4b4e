-- Laws of runs of stores, and of the promises `Put` and `Putting`.
use mathlib.Core.Path.{◌≡◌, refl, ap, ◌∙◌}
use mathlib.Core.List.{List, [], ◌∷◌, ◌++◌}
use mathlib.Core.Bool.{Bool, true, false}
use Prim.Native.Nat.{ℕ, suc, ◌+◌, ◌≤◌, ◌<◌}
use native.Mathlib.Nat.{add-zero, zero-add, add-suc, suc-add}
use native.Mathlib.Omega.{arith}
use lib.ListN.{length, set, drop, length-append}
use lib.Seq.{sets, sets-eq, set_comm, length-sets}
use borrow.Author.Tests.{le-leb, lt-leb}
use Rattle.stores.specs.Storing.{Put, Putting, put_fits, fits_in, placed, stored_in}

-- One run of stores after another is the run of both.
pub sets_append : {A : Type 0} (u v l : List A) (i : ℕ) → sets (sets l i u) (i + length u) v ≡ sets l i (u ++ v)
sets_append [] v l i = rw add-zero
sets_append (a ∷ u) v l i = rw (add-suc, ← suc-add) (sets_append u v (set l i a) (suc i))

-- A store past a run commutes with it.
pub set_sets : (vs l : List ℕ) (i k a : ℕ) → i + length vs ≤ k → sets (set l k a) i vs ≡ set (sets l i vs) k a
set_sets [] l i k a h = refl
set_sets (b ∷ vs) l i k a h =
    ap (λ (m : List ℕ). sets m (suc i) vs) (set_comm l k i a b (omega arith))
    ∙ set_sets vs (set l i b) (suc i) k a (omega arith)

-- A run of stores at the front.
pub sets_front : {A : Type 0} (vs d : List A) → length vs ≤ length d → sets d 0 vs ≡ vs ++ drop (length vs) d
sets_front vs d h = rw zero-add at (sets-eq vs d 0 (omega arith))

-- One list stored after another is the two appended.
pub put_then : {d e f u v : List ℕ} {at r t : ℕ} → Put d at u r e → Put e r v t f → Put d at (u ++ v) t f
put_then {d} {u = u} {v = v} {at = at} p q =
    record {
      next = omega (arith, length-append u v);
      stored = q.stored ∙ rw (p.stored, p.next) (sets_append u v d at);
    }

-- Storing keeps the buffer's length.
pub put_long : {d e u : List ℕ} {at r : ℕ} → Put d at u r e → length e ≡ length d
put_long {d} {u = u} {at = at} p = ap length p.stored ∙ length-sets d at u

-- What was stored where it fits meets the total promise.
pub putting : {d e vs : List ℕ} {at r : ℕ} → at + length vs ≤ length d → Put d at vs r e → Putting d at vs r e
unfolding fits_in placed stored_in
putting {d} {vs = vs} {at = at} h p =
    let t = le-leb (at + length vs) (length d) h in
    record { next = rw t p.next; stored = rw t p.stored }

-- Where the list does not fit, nothing changes.
pub putting_kept : {d vs : List ℕ} {at : ℕ} → length d < at + length vs → Putting d at vs at d
unfolding fits_in placed stored_in
putting_kept {d} {vs} {at} h =
    let t = lt-leb (at + length vs) (length d) h in
    record { next = rw t; stored = rw t }

none_by : (t : Bool) (d : List ℕ) (at : ℕ) → fits_in d at [] ≡ t → Putting d at [] at d
unfolding placed stored_in
none_by true d at e = record { next = rw (e, add-zero); stored = rw e }
none_by false d at e = record { next = rw e; stored = rw e }

-- The same where the list is empty.
pub putting_none : (d : List ℕ) (at : ℕ) → Putting d at [] at d
putting_none d at = none_by (fits_in d at []) d at refl

-- One list stored after another, where there is room for both, is the two appended.
pub putting_then : {d e f u v : List ℕ} {at r t : ℕ} → at + (length u + length v) ≤ length d
    → Putting d at u r e → Putting e r v t f → Putting d at (u ++ v) t f
putting_then {u = u} {v = v} h p q =
    let a = put_fits (omega arith) p in
    let b = put_fits (omega (arith, put_long a)) q in
    putting (omega (arith, length-append u v)) (put_then a b)
