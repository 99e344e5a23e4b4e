-- Each way out is a law of the length field, by its first octet.
use Rattle.std.specs.Prelude.{Result, Ok, Option, Some}
use Rattle.heads.specs.declared.Fault.{Fault}
use Rattle.heads.specs.declared.Length.{Length}
use Rattle.octets.proofs.Laws.{read_all, part_short}
use Rattle.octets.specs.Number.{big_from, number_of, NumberRead}
use Prim.Native.Nat.{ℕ, ◌+◌, ◌-◌, ◌≤◌}
use mathlib.Core.List.{List}
use mathlib.Core.Bool.{false}
use lib.ListN.{take, drop}
use mathlib.Core.Path.{◌≡◌, ap, ◌∙◌}
use native.Mathlib.Omega.{arith}
use Rattle.heads.proofs.Heads.{length_none, length_short, length_open, length_bad, length-past, length-long}
use Rattle.heads.proofs.length_field.Goals as goal

pub returns-then-u-eq0 : goal.returns-then-u-eq0
returns-then-u-eq0 c = length_none _ c.if-u-eq0.true

pub overflow_cast-b : goal.overflow_cast-b
overflow_cast-b c = omega (arith, c.type_inv.u 0)

pub returns-then-b-lt128 : goal.returns-then-b-lt128
returns-then-b-lt128 c = length_short _ c.if-u-eq0.false c.if-b-lt128.true

pub returns-then-n-eq0 : goal.returns-then-n-eq0
returns-then-n-eq0 c = length_open _ c.if-u-eq0.false c.if-b-lt128.false c.if-n-eq0.true

pub returns-then-n-gt4 : goal.returns-then-n-gt4
returns-then-n-gt4 c =
    length_bad _ c.if-u-eq0.false c.if-b-lt128.false c.if-n-eq0.false c.if-n-gt4.true

pub returns-then-u-n : goal.returns-then-u-n
returns-then-u-n c =
    length-past _ c.if-u-eq0.false c.if-b-lt128.false c.if-n-eq0.false c.if-n-gt4.false c.if-u-n.true

read_is : (u v : List ℕ) (n r : ℕ) → n ≤ 4 → v ≡ take n (drop 1 u) → NumberRead false (take 8 v) r → ◌≡◌ {A = Result (Option Length) Fault} (Ok (Some (Length.Known r (n + 1)))) (Ok (Some (Length.Known (big_from 0 (take n (drop 1 u))) (n + 1))))
unfolding number_of
read_is u v n r h e q = ap (λ (k : ℕ). Ok (Some (Length.Known k (n + 1)))) ((read_all false v r (omega (arith, part_short n (drop 1 u) v e)) q).value ∙ ap (number_of false) e)

pub returns : goal.returns
returns c =
    read_is c.args.u.now _ _ _ c.if-n-gt4.false c.part.ensures c.number-value.ensures ∙ length-long _ c.if-u-eq0.false
    c.if-b-lt128.false c.if-n-eq0.false c.if-n-gt4.false c.if-u-n.false
