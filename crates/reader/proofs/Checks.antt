-- What the check answers, and exactly when.
--     check-accepted, check-refused    the check's answer is the verdict's
-- Assumes nothing.
use Rattle.heads.specs.declared.Fault.{Fault}
use Prim.Native.Nat.{ℕ}
use mathlib.Core.Path.{◌≡◌, refl, ap, ◌∙◌}
use mathlib.Core.Logic.{◌↔◌}
use mathlib.Core.List.{List}
use native.Mathlib.Omega.{arith}
use lib.ListN.{length}
use Rattle.heads.specs.Answer.{answered, refused_as}
use Rattle.items.specs.Walk.{refusal}
use Rattle.layout.specs.Frame.{Frame}
use Rattle.verdict.specs.Verdict.{Verdict, accepted, refused, verdict, checked_as, check_of}

check_by : (v : Verdict) (n : ℕ) → checked_as v ≡ answered n → (fs : List Frame) × (v ≡ accepted fs) × (length fs ≡ n)
unfolding checked_as
check_by (accepted fs) n e = (fs, refl, cc)
check_by (refused r) n e = let z : ◌≡◌ {A = ℕ} 0 1 = cc in let w : ⊥ = omega arith in absurd w

-- The check counts the frames of an accepted file, and of no other.
pub check-accepted : (s : List ℕ) (n : ℕ) → (check_of s ≡ answered n) ↔ ((fs : List Frame) × (verdict s ≡ accepted fs) × (length fs ≡ n))
unfolding check_of checked_as
check-accepted s n = (check_by (verdict s) n, λ h. ap checked_as h.1 ∙ ap answered h.2)

refused_by : (v : Verdict) (fault : Fault) (place : ℕ) → checked_as v ≡ refused_as fault place → v ≡ refused (refusal fault place)
unfolding checked_as
refused_by (accepted fs) fault place e = let z : ◌≡◌ {A = ℕ} 0 1 = cc in let w : ⊥ = omega arith in absurd w
refused_by (refused q) fault place e =
    let n : q.fault ≡ fault = cc in
    let p : q.place ≡ place = cc in
    λ i. refused (refusal (n i) (p i))

pub check-refused : (s : List ℕ) (fault : Fault) (place : ℕ) → (check_of s ≡ refused_as fault place) ↔ (verdict s ≡ refused (refusal fault place))
unfolding check_of checked_as
check-refused s fault place = (refused_by (verdict s) fault place, ap checked_as)
