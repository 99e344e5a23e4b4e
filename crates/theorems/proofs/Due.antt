-- What is due is what the first row gives whose condition holds.
--     due_exactly      what is due
--     first_append     rows behind others
--     due_numbered     the number of what is due
-- Assumes nothing.
use Rattle.heads.specs.Faults.{number_of}
use mathlib.Core.Path.{◌≡◌, refl}
use mathlib.Core.Logic.{◌↔◌}
use mathlib.Core.List.{List, [], ◌∷◌, ◌++◌}
use mathlib.Core.Option.{Option, none, some}
use mathlib.Core.Bool.{Bool, true, false}
use Prim.Native.Nat.{ℕ, ◌≤◌, ◌<◌}
use native.Mathlib.Omega.{arith}
use borrow.Author.Tests.{leb-true}
use lib.Dec.{leb}
use Rattle.octets.specs.Pick.{pick, both}
use Rattle.octets.proofs.Pick.{both_split}
use Rattle.heads.specs.declared.Refusal.{Refusal}
use Rattle.heads.specs.declared.Fault.TheVariants.{StartRange}
use Rattle.items.specs.declared.Within.{Within}
use Rattle.verdict.specs.Verdict.{State}
use Rattle.theorems.specs.Attributes.{between}
use Rattle.theorems.specs.Rows.{Row, Due, here, later, item_rows, rows_at}

-- What the first row gives whose condition holds.
abbrev pub first_due : List Row → Option Refusal
first_due [] = none
first_due (r ∷ rs) = pick r.holds (some r.gives) (first_due rs)

due_first : (rs : List Row) (q : Refusal) → Due rs q → first_due rs ≡ some q
due_first _ _ (here r rs e) = rw e
due_first _ _ (later r rs q e d) = rw e (due_first rs q d)

first_due_lem : (rs : List Row) (q : Refusal) → first_due rs ≡ some q → Due rs q
first_due_lem [] q e = let z : ◌≡◌ {A = ℕ} 0 1 = cc in let w : ⊥ = omega arith in absurd w
first_due_lem (r ∷ rs) q e = by (first_due_lem rs q) r.holds refl e
  where
    by : (first_due rs ≡ some q → Due rs q) → (b : Bool) → r.holds ≡ b → pick b (some r.gives) (first_due rs) ≡ some q → Due (r ∷ rs) q
    by more true h f = let g : r.gives ≡ q = cc in rw (← g) (here r rs h)
    by more false h f = later r rs q h (more f)

pub due_exactly : (rs : List Row) (q : Refusal) → Due rs q ↔ (first_due rs ≡ some q)
due_exactly rs q = (due_first rs q, first_due_lem rs q)

-- Rows behind others are looked at where none of those holds.
abbrev pub otherwise : Option Refusal → Option Refusal → Option Refusal
otherwise none o = o
otherwise (some q) o = some q

pub first_append : (rs bs : List Row) → first_due (rs ++ bs) ≡ otherwise (first_due rs) (first_due bs)
first_append [] bs = refl
first_append (r ∷ rs) bs = by r.holds (first_append rs bs)
  where
    by : (b : Bool) → first_due (rs ++ bs) ≡ otherwise (first_due rs) (first_due bs) → pick b (some r.gives) (first_due (rs ++ bs)) ≡ otherwise (pick b (some r.gives) (first_due rs)) (first_due bs)
    by true e = refl
    by false e = e

-- ---- numbers

-- Every row has a number from 1 to 13: 14 is retired, and 15 comes before the rows.
abbrev numbered : List Row → Bool
numbered [] = true
numbered (r ∷ rs) = both (between 1 (number_of StartRange) (number_of r.gives.fault)) (numbered rs)

rows_numbered : (x : State) (at : ℕ) (w : Within) (u : List ℕ) → numbered (rows_at x at w u) ≡ true
unfolding rows_at item_rows
rows_numbered x at Within.Root [] = refl
rows_numbered x at (Within.Definite channel end) [] = refl
rows_numbered x at (Within.Open channel place) [] = refl
rows_numbered x at w (tag ∷ u) = refl

numbered_due : (rs : List Row) (q : Refusal) → numbered rs ≡ true → Due rs q → (0 < number_of q.fault) × (number_of q.fault ≤ number_of StartRange)
numbered_due _ _ n (here r rs e) =
    let k = number_of r.gives.fault in
    let last = number_of StartRange in
    let b = both_split (leb 1 k) (leb k last) (both_split (between 1 last k) (numbered rs) n).0 in
    (leb-true 1 k b.0, leb-true k last b.1)
numbered_due _ _ n (later r rs q e d) = numbered_due rs q (both_split (between 1 (number_of StartRange) (number_of r.gives.fault)) (numbered rs) n).1 d

pub due_numbered : (x : State) (at : ℕ) (w : Within) (u : List ℕ) (q : Refusal) → Due (rows_at x at w u) q → (0 < number_of q.fault) × (number_of q.fault ≤ number_of StartRange)
due_numbered x at w u q = numbered_due (rows_at x at w u) q (rows_numbered x at w u)
