-- Laws of what was read, for those who call `read_full`.
--     read_all     a reader that is at its end gave all that it had
--     read_much    a reader had as much as it gave
--     if_some, on_ok    what follows of known octets, and of a result that is Ok
-- Assumes nothing.
use Rattle.std.proofs.Common.{◌≡◌, ◌≤◌, List, ◌++◌, ℕ, None, Some, Result, Ok, Err, IfSome, OnOk, ◌∙◌, ap, append-nil, arith, length}
use Rattle.std.specs.declared.option.Option.{Option}
use Rattle.std.specs.Io.KnownBytes.{Consumes, IsAtEnd}
use lib.ListN.{length-append}

pub read_all : (a b : Option (List ℕ)) (octets : List ℕ) → Consumes a b octets → IsAtEnd b → IfSome a (λ had. had ≡ octets)
read_all None b octets p e = tt
read_all (Some had) None octets p e = absurd p
read_all (Some had) (Some left) octets p e = p ∙ ap (λ l. octets ++ l) e ∙ append-nil octets

pub read_much : (a b : Option (List ℕ)) (octets : List ℕ) → Consumes a b octets → IfSome a (λ had. length octets ≤ length had)
read_much None b octets p = tt
read_much (Some had) None octets p = absurd p
read_much (Some had) (Some left) octets p = omega (arith, ap length p, length-append octets left)

-- What follows of the octets that a reader had.
pub if_some : {A : Type 0} {P Q : A → Type 0} (a : Option A) → ((x : A) → P x → Q x) → IfSome a P → IfSome a Q
if_some None f p = tt
if_some (Some x) f p = f x p

-- What follows where all went well.
pub on_ok : {A E : Type 0} {P Q : Type 0} (r : Result A E) → (P → Q) → OnOk r P → OnOk r Q
on_ok (Ok x) f p = f p
on_ok (Err e) f p = tt
