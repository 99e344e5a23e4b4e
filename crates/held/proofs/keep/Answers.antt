-- By the test: nothing is stored, or the numbers and behind them the octets that are held.
use mathlib.Core.Path.{◌≡◌, ap, ◌∙◌}
use Prim.Native.Nat.{ℕ, min}
use native.Mathlib.Omega.{arith}
use lib.ListN.{length}
use Rattle.link.specs.Link.{kept_limit}
use Rattle.held.specs.Words.{kept_place, with_held, held_of}
use Rattle.held.proofs.Laws.{keeping_none, keeping_stored}
use borrow.Author.Rules.{rules}
use Rattle.held.proofs.keep.Goals as goal

pub returns-then-w-lt-OWN : goal.returns-then-w-lt-OWN
returns-then-w-lt-OWN c =
    let a = c.args in
    keeping_none a.w.now a.c a.p.now (omega arith)

pub returns : goal.returns
returns c =
    let numbers-long : length c.numbers_of-numbers.result ≡ kept_place =
    search rules in
    let a = c.args in
    let held = c.smaller-held.ensures ∙ ap (min a.c.held) c.smaller.ensures in
    let short : min c.smaller-held.result kept_limit ≡ held_of a.c a.p.now = omega (arith, held) in
    keeping_stored c.numbers_of-numbers.result a.p.now a.c (omega arith) (numbers-long) (λ i. (c.type_inv.p i).fits)
    (rw held at c.store.ensures) (c.numbers_of-numbers.ensures ∙ ap (λ (n : ℕ). with_held n a.c) short)
