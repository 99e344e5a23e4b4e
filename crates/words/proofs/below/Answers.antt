-- By the test: the word is there, or it is past the end.
use mathlib.Core.Path.{sym}
use native.Mathlib.Omega.{arith}
use lib.ListN.{get_or-eq_default}
use Prim.Native.Nat.{◌+◌, ◌*◌, ◌≤◌}
use lib.ListN.{length}
use Rattle.words.specs.Words.{record_words, below_word}
use Rattle.words.proofs.below.Goals as goal

pub returns : goal.returns
returns c =
    let a = c.args in
    let past : length a.t.now ≤ a.k * record_words + below_word = omega arith in
    sym (get_or-eq_default a.t.now 0 past)
