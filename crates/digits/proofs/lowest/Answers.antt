-- `digits::lowest` meets its contract: no number has more than eight octets, and of fewer the rest of a division is left. Assumes nothing.
use Prim.Native.Nat.{ℕ, ◌%◌}
use mathlib.Core.Path.{sym, ap}
use native.Mathlib.Nat.{lt_of_lt_of_le, mod-eq_of_lt}
use native.Mathlib.Omega.{arith}
use Rattle.octets.proofs.Laws.{range_pos, cap}
use borrow.Author.Rules.{rules}
use Rattle.digits.proofs.lowest.Goals as goal

pub returns-then-w-ge8 : goal.returns-then-w-ge8
returns-then-w-ge8 c = sym (mod-eq_of_lt (lt_of_lt_of_le (search rules) (cap 8 _ c.if-w-ge8.true)))

pub nonzero_rem-result : goal.nonzero_rem-result
nonzero_rem-result c = omega (arith, c.span.ensures, range_pos c.args.w)

pub returns : goal.returns
returns c = ap (λ (m : ℕ). c.args.n % m) c.span.ensures
