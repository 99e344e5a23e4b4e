-- Each number stands in its word, and the stage in seven.
use Prim.Native.Nat.{min}
use Rattle.link.specs.Link.{kept_limit}
use Rattle.held.proofs.numbers_of.Goals as goal

pub returns : goal.returns
returns c =
    let a = c.args in
    λ i. record { count = a.c.count; around = a.c.around; held = min a.held kept_limit; stage = c.stage_words-x.ensures i }
