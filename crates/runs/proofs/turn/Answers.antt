-- `runs::turn` meets its contract: it stores nothing where the samples are none, are not there, or do not fit.
use mathlib.Core.Path.{◌≡◌, refl, sym, ap, ◌∙◌}
use mathlib.Core.List.{[], List, ◌∷◌}
use mathlib.Core.Logic.{◌⊎◌, ⊎_elim, inl, inr}
use Prim.Native.Nat.{ℕ, ◌+◌, ◌-◌, ◌*◌, ◌/◌, ◌≤◌, ◌<◌}
use native.Mathlib.Nat.{mul-zero, eq-zero-or-pos, le-div_iff_mul-le, div-lt_iff_lt-mul}
use native.Mathlib.Omega.{arith}
use lib.ListN.{length, drop, length-drop}
use lib.Seq.{sets}
use borrow.Author.Tests.{ltb-true, ltb-false}
use Rattle.stores.specs.Storing.{Putting}
use Rattle.runs.specs.Turned.{turned, turned_run}
use Rattle.stores.proofs.Stores.{putting, putting_none, putting_kept}
use Rattle.runs.proofs.Turned.{length-turned, run_turned, run_missing}
use Rattle.runs.proofs.turn.Goals as goal

empty : (l : List ℕ) → length l ≡ 0 → l ≡ []
empty [] h = refl
empty (x ∷ l) h = let z : ⊥ = omega arith in absurd z

module _ (d : List ℕ) (at w n : ℕ) (xs : List ℕ) where
  -- No octets, or too few.
  none : (n * w ≡ 0) ⊎ (length xs < n * w) → Putting d at (turned_run w n xs) at d
  none =
      ⊎_elim
      (λ h.
      let l = length-turned w n xs (omega arith) in
      rw (run_turned w n xs (omega arith), empty (turned w n xs) (omega arith)) (putting_none d at))
      (λ h. rw (run_missing w n xs h) (putting_none d at))

  -- The samples are there, and do not fit.
  kept : n * w ≤ length xs → length d < at + n * w → Putting d at (turned_run w n xs) at d
  kept h k = rw (run_turned w n xs h) (putting_kept (omega (arith, length-turned w n xs h)))

  -- The samples are there, and fit.
  stored : {e : List ℕ} → n * w ≤ length xs → at + n * w ≤ length d
      → e ≡ sets d at (turned w n xs) → Putting d at (turned_run w n xs) (at + n * w) e
  stored h k e =
      let l = length-turned w n xs h in
      rw (run_turned w n xs h) (putting (omega arith) (record { next = omega arith; stored = e }))

-- Nothing stands past the end.
short : (s : List ℕ) (q k : ℕ) → length s < q → (k ≡ 0) ⊎ (length (drop q s) < k)
short s q k h = let l = length-drop q s in ⊎_elim inl (λ m. inr (omega arith)) (eq-zero-or-pos k)

-- What the test by division says.
missing : (s : List ℕ) (q w n : ℕ) → 0 < w → (length s - q) / w < n → length (drop q s) < n * w
missing s q w n some h = let k = (div-lt_iff_lt-mul some).0 h in omega (arith, length-drop q s)

there : (s : List ℕ) (q w n : ℕ) → 0 < w → n ≤ (length s - q) / w → n * w ≤ length s - q
there s q w n some h = (le-div_iff_mul-le some).0 h

pub returns-then-w-eq0 : goal.returns-then-w-eq0
returns-then-w-eq0 c =
    let a = c.args in
    none a.dst.now a.at a.w a.n (drop a.from a.src.now)
    (inl (ap (λ (k : ℕ). a.n * k) c.if-w-eq0.true ∙ mul-zero a.n))

pub returns-then-src-from : goal.returns-then-src-from
returns-then-src-from c =
    let a = c.args in
    none a.dst.now a.at a.w a.n (drop a.from a.src.now)
    (short a.src.now a.from (a.n * a.w) c.if-src-from.true)

pub returns-then-src-from-2 : goal.returns-then-src-from-2
returns-then-src-from-2 c =
    let a = c.args in
    none a.dst.now a.at a.w a.n (drop a.from a.src.now)
    (inr (missing a.src.now a.from a.w a.n (omega arith) c.if-src-from-2.true))

pub overflow_mul-size : goal.overflow_mul-size
overflow_mul-size c =
    let a = c.args in
    let h = there a.src.now a.from a.w a.n (omega arith) c.if-src-from-2.false in
    omega arith

pub returns-then-overruns : goal.returns-then-overruns
returns-then-overruns c =
    let a = c.args in
    let h = there a.src.now a.from a.w a.n (omega arith) c.if-src-from-2.false in
    let k = sym c.overruns.ensures ∙ c.if-overruns.true in
    kept a.dst.now a.at a.w a.n (drop a.from a.src.now)
    (omega (arith, length-drop a.from a.src.now)) (omega (arith, ltb-true))

pub turn_run-requires : goal.turn_run-requires
turn_run-requires c =
    let a = c.args in
    let h = there a.src.now a.from a.w a.n (omega arith) c.if-src-from-2.false in
    let k = sym c.overruns.ensures ∙ c.if-overruns.false in
    record {
      w_in_bounds = omega arith;
      w_in_bounds_2 = omega (arith, ltb-false);
    }

pub overflow_add-result : goal.overflow_add-result
overflow_add-result c =
    let k = sym c.overruns.ensures ∙ c.if-overruns.false in
    omega (arith, ltb-false)

pub returns : goal.returns
returns c =
    let a = c.args in
    let h = there a.src.now a.from a.w a.n (omega arith) c.if-src-from-2.false in
    let k = sym c.overruns.ensures ∙ c.if-overruns.false in
    stored a.dst.now a.at a.w a.n (drop a.from a.src.now)
    (omega (arith, length-drop a.from a.src.now)) (omega (arith, ltb-false)) c.turn_run.ensures
