-- 15 is given only of a file above the limit.
--     refused-below   no item and no fault of form is refused by 15
--     only_limit      so a file that is refused by 15 is longer than the limit
-- Assumes nothing.
use mathlib.Core.Path.{◌≡◌, refl, ap}
use mathlib.Core.List.{List}
use mathlib.Core.Bool.{Bool, true, false}
use Prim.Native.Nat.{ℕ, ◌<◌}
use native.Mathlib.Omega.{arith}
use borrow.Author.Tests.{ltb-true}
use lib.Dec.{ltb}
use lib.ListN.{length}
use Rattle.octets.specs.Pick.{pick}
use Rattle.heads.specs.declared.Refusal.{Refusal}
use Rattle.heads.specs.declared.Fault.TheVariants.{LongFile}
use Rattle.heads.specs.Faults.{number_of}
use Rattle.items.specs.Walk.{refusal, items_of}
use Rattle.items.proofs.Walks.{next-refused}
use Rattle.standing.specs.Standing.{octets_limit}
use Rattle.verdict.specs.Verdict.{first_state, refused, interpret, verdict}
use Rattle.verdict.proofs.Keeps.{verdict_law, first_cursor, items_first}
use Rattle.verdict.proofs.Steps.{meaning_refused}

module _ (s : List ℕ) where
  refused-below : (r : Refusal) → interpret s first_state (items_of s) ≡ refused r → number_of r.fault < number_of LongFile
  refused-below r e =
      verdict_law s (λ x c. Unit {0}) (λ x c i d y p g m. tt) (λ v. (q : Refusal) → v ≡ refused q → number_of q.fault < number_of LongFile)
      (λ x c p q f. let z : ◌≡◌ {A = ℕ} 0 1 = cc in let w : ⊥ = omega arith in absurd w)
      (λ x c t p g q f. let k : t.fault ≡ q.fault = cc in omega (arith, ap number_of k, next-refused s c refl g))
      (λ x c i d n p g m q f. let k : n ≡ q.fault = cc in omega (arith, ap number_of k, meaning_refused s x i n m))
      first_state first_cursor tt r (rw items_first at e)

  pub only_limit : (r : Refusal) → verdict s ≡ refused r → r.fault ≡ LongFile → octets_limit < length s
  unfolding verdict
  only_limit r e f = by (ltb octets_limit (length s)) refl e
    where
      by : (b : Bool) → ltb octets_limit (length s) ≡ b → pick b (refused (refusal LongFile 0)) (interpret s first_state (items_of s)) ≡ refused r → octets_limit < length s
      by true t q = ltb-true octets_limit (length s) t
      by false t q = let h = refused-below r q in let w : ⊥ = omega (arith, ap number_of f) in absurd w
