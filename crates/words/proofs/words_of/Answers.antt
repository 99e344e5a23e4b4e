-- Each number is that of the lowest octets of its word.
use mathlib.Core.Path.{◌≡◌, ◌∙◌, ap}
use Prim.Native.Nat.{ℕ, ◌<◌, ◌^◌}
use native.Mathlib.Nat.{mod-eq_of_lt}
use lib.IntN.{ℤ}
use mir.Syntax.{w8, w32, w64}
use mir.Val.{SFits, to_z, of_z}
use Rattle.octets.specs.Number.{low_of, twos}
use Rattle.octets.proofs.Machine.{widened}
use Rattle.dated.specs.declared.Dated.{Dated}
use Rattle.dated.specs.Dated.{noted}
use Rattle.words.proofs.Laws.{one_back, four_back}
use borrow.Author.Rules.{rules}
use Rattle.words.proofs.words_of.Goals as goal

exponent_back : (r : ℕ) {z : ℤ} → r < 2 ^ 64 → SFits w8 z → twos 8 r ≡ to_z w64 (of_z w64 (to_z w8 (of_z w8 z))) → twos 1 (low_of 1 r) ≡ z
exponent_back r h f e = one_back r h f.sfits (e ∙ widened tt f)

mantissa_back : (r : ℕ) {z : ℤ} → r < 2 ^ 64 → SFits w32 z → twos 8 r ≡ to_z w64 (of_z w64 (to_z w32 (of_z w32 z))) → twos 4 (low_of 4 r) ≡ z
mantissa_back r h f e = four_back r h f.sfits (e ∙ widened tt f)

-- The numbers of a record are those of their types.
record Fit (x : Dated) : Type 0 where
  at : x.at < 2 ^ 32
  block : x.settings.block < 2 ^ 32
  class : x.settings.class < 2 ^ 16
  lead : x.settings.lead < 2 ^ 16
  datatype : x.settings.datatype < 256
  unit : x.settings.interval.unit < 256
  exponent : SFits w8 x.settings.interval.exponent
  mantissa : SFits w32 x.settings.interval.mantissa
  unit2 : x.settings.resolution.unit < 256
  exponent2 : SFits w8 x.settings.resolution.exponent
  mantissa2 : SFits w32 x.settings.resolution.mantissa
  offset : x.settings.offset.width < 256
  null : x.settings.null.width < 256

pub returns : goal.returns
returns c =
    let f : Fit c.args.x =
    search rules in
    let s = c.args.x.settings in
    let word = c.signed_word in
    let word2 = c.signed_word-2 in
    let word3 = c.signed_word-3 in
    let word4 = c.signed_word-4 in
    let e = exponent_back word.result (search rules) f.exponent (rw c.from-6.ensures at word.ensures) in
    let m = mantissa_back word2.result (search rules) f.mantissa (rw c.from-7.ensures at word2.ensures) in
    let e2 = exponent_back word3.result (search rules) f.exponent2 (rw c.from-9.ensures at word3.ensures) in
    let m2 = mantissa_back word4.result (search rules) f.mantissa2 (rw c.from-10.ensures at word4.ensures) in
    λ i. noted ((ap (low_of 4) c.from-13.ensures ∙ mod-eq_of_lt f.at) i)
    (record {
      block = (ap (low_of 4) c.from.ensures ∙ mod-eq_of_lt f.block) i;
      class = (ap (low_of 2) c.from-2.ensures ∙ mod-eq_of_lt f.class) i;
      lead = (ap (low_of 2) c.from-3.ensures ∙ mod-eq_of_lt f.lead) i;
      datatype = (ap (low_of 1) c.from-4.ensures ∙ mod-eq_of_lt f.datatype) i;
      interval = record { unit = (ap (low_of 1) c.from-5.ensures ∙ mod-eq_of_lt f.unit) i; exponent = e i; mantissa = m i };
      resolution = record { unit = (ap (low_of 1) c.from-8.ensures ∙ mod-eq_of_lt f.unit2) i; exponent = e2 i; mantissa = m2 i };
      offset = record { width = (ap (low_of 1) c.from-11.ensures ∙ mod-eq_of_lt f.offset) i; bits = s.offset.bits };
      null = record { width = (ap (low_of 1) c.from-12.ensures ∙ mod-eq_of_lt f.null) i; bits = s.null.bits };
    })
