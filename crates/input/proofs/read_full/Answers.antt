-- `input::read_full` meets its contract: each read goes on where the one before it ended.
use Rattle.std.proofs.Common.{◌≡◌, ℕ, ◌+◌, ◌-◌, ◌≤◌, List, ◌++◌, rules, arith, length, take, slice_range, sym, ap, ◌∙◌, subst, le_refl, drop_at, length-take-le}
use Rattle.std.proofs.lemmas.Slice.{take-put_mid_below}
use Rattle.std.specs.declared.option.Option.{Option}
use Rattle.std.specs.Io.KnownBytes.{Consumes}
use Rattle.std.proofs.KnownBytes.{Consumes-trans}
use borrow.Rule.Slice.PartMut.{put_mid, post_of}
use lib.Seq.{take-add, take-append-le}
use Rattle.input.proofs.read_full.Goals as goal

take_split : (a b : ℕ) (old new : List ℕ) → a ≤ b → take a new ≡ take a old → take a old ++ slice_range new a b ≡ take b new
take_split a b old new h front =
    let same : a + (b - a) ≡ b = omega arith in
    ap (λ l. l ++ slice_range new a b) (sym front) ∙ sym (take-add a (b - a) new) ∙ ap (λ n. take n new) same

slice_range-put_mid : (a k n : ℕ) (xs ys : List ℕ) → a ≤ length xs → n ≤ length ys → slice_range (put_mid a k xs ys) a (a + n) ≡ take n ys
slice_range-put_mid a k n xs ys within fits =
    let same : (a + n) - a ≡ n = omega arith in
    let after = post_of a k xs in
    ap (take ((a + n) - a)) (drop_at (take a xs) (ys ++ after) a (length-take-le a xs within)) ∙ ap (λ m. take m (ys ++ after)) same ∙ take-append-le n ys after fits

-- A read of n octets behind the first `from` of a buffer, which were given before it.
read_more : {R : Type 0} (remaining : R → Option (List ℕ)) (a b c : R) (from n : ℕ) (xs ys : List ℕ) → from ≤ length xs → n ≤ length ys
    → Consumes (remaining a) (remaining b) (take from xs) → Consumes (remaining b) (remaining c) (take n ys)
    → Consumes (remaining a) (remaining c) (take (from + n) (put_mid from (length xs - from) xs ys))
read_more remaining a b c from n xs ys within fits first second =
    let room = length xs - from in
    let part = slice_range-put_mid from room n xs ys within fits in
    let joined = take_split from (from + n) xs (put_mid from room xs ys) (omega arith) (take-put_mid_below _ _ _ _ _ (le_refl _) within) in
    subst (Consumes _ _) (ap (λ l. take from xs ++ l) (sym part) ∙ joined) (Consumes-trans _ _ _ _ _ first second)

pub loop-done-init : goal.loop-done-init
loop-done-init g c = search rules

pub loop-done-preserved : goal.loop-done-preserved
loop-done-preserved g c =
    let read = c.in_ok-n.ensures in
    (search rules, read_more g.R.Read.remaining _ _ _ _ _ _ _ c.loop-done.invariant.0 read.bound.0 c.loop-done.invariant.1 read.bytes.0)

pub returns-then-n-eq0-clause-octets : goal.returns-then-n-eq0-clause-octets
returns-then-n-eq0-clause-octets g c =
    let read = c.in_ok-n.ensures in
    let more = read_more g.R.Read.remaining _ _ _ _ _ _ _ c.loop-done.invariant.0 read.bound.0 c.loop-done.invariant.1 read.bytes.0 in
    let none : c.loop-done.done + c.in_ok-n.n ≡ c.loop-done.done = omega (arith, c.if-n-eq0.true) in
    rw none at more
