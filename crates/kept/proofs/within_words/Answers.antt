-- By the arm of the match.
use mathlib.Core.Path.{ap, sym, ◌∙◌}
use Prim.Native.Nat.{ℕ, ◌<◌, ◌^◌}
use native.Mathlib.Nat.{mod-eq_of_lt}
use Rattle.octets.specs.Number.{low_of}
use Rattle.items.specs.declared.Within.{Within}
use borrow.Author.Rules.{rules}
use Rattle.kept.proofs.within_words.Goals as goal

pub returns-in-Definite : goal.returns-in-Definite
returns-in-Definite c =
    let f : c.in-Definite.channel < 2 ^ 32 = search rules in
    ap (λ (n : ℕ). Within.Definite n c.in-Definite.end) (ap (low_of 4) c.from.ensures ∙ mod-eq_of_lt f) ∙ sym c.in-Definite.is

pub returns-in-Open : goal.returns-in-Open
returns-in-Open c =
    let f : c.in-Open.channel < 2 ^ 32 = search rules in
    ap (λ (n : ℕ). Within.Open n c.in-Open.place) (ap (low_of 4) c.from-in-Open.ensures ∙ mod-eq_of_lt f) ∙ sym c.in-Open.is
