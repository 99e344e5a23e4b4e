-- `digits::extended` meets its contract: below half of the range the number is itself, else the complement of its distance from the
-- top. Assumes nothing.
use Prim.Native.Nat.{◌-◌, ◌≤◌}
use native.Mathlib.Omega.{arith}
use mir.Syntax.{w32}
use Rattle.octets.proofs.Laws.{cap, twos-low, twos_high}
use borrow.Author.Rules.{rules}
use Rattle.digits.proofs.extended.Goals as goal

pub overflow_mul-n : goal.overflow_mul-n
overflow_mul-n c =
    let small : c.span-full.result ≤ 4294967296 =
    omega (arith, c.span-full.ensures, cap c.args.w 4 c.requires.0) in
    let s = small in search rules

pub overflow_cast-result : goal.overflow_cast-result
overflow_cast-result c =
    let small : c.span-full.result ≤ 4294967296 =
    omega (arith, c.span-full.ensures, cap c.args.w 4 c.requires.0) in
    let s = small in search rules

pub overflow_cast-result-else-n-full : goal.overflow_cast-result-else-n-full
overflow_cast-result-else-n-full c =
    let small : c.span-full.result ≤ 4294967296 =
    omega (arith, c.span-full.ensures, cap c.args.w 4 c.requires.0) in
    let s = small in search rules

pub returns-then-n-full : goal.returns-then-n-full
returns-then-n-full c =
    let small : c.span-full.result ≤ 4294967296 =
    omega (arith, c.span-full.ensures, cap c.args.w 4 c.requires.0) in
    let s = small in twos-low w32 _ _ (search rules) (search rules)

pub returns-else-n-full : goal.returns-else-n-full
returns-else-n-full c =
    let small : c.span-full.result ≤ 4294967296 =
    omega (arith, c.span-full.ensures, cap c.args.w 4 c.requires.0) in
    let s = small in
    twos_high w32 _ _ (4294967295 - (c.span-full.result - 1 - c.args.n)) (search rules) (search rules) (search rules)
