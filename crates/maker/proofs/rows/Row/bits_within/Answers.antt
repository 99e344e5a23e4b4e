-- By the width of the samples, and by whether there is a null.
use Rattle.maker.proofs.Channels.{bits_none, bits-some}
use Rattle.maker.specs.Given.{bit_numbers, given_at, width_given, bits_fit}
use Rattle.values.specs.Sample.{width_of}
use lib.ListN.{get_or}
use native.Mathlib.Nat.{add-zero}
use Prim.Native.Nat.{ℕ, ◌+◌, ◌*◌}
use mathlib.Core.List.{List}
use mathlib.Core.Path.{◌≡◌, ap, sym, ◌∙◌}
use Rattle.maker.proofs.rows.Row.bits_within.Goals as goal

-- The offset's bits.
offset_at : (l : List ℕ) (i : ℕ) → get_or l (i * bit_numbers) 0 ≡ get_or l (i * bit_numbers + 0) 0
offset_at l i = ap (λ (k : ℕ). get_or l k 0) (sym (add-zero (i * bit_numbers)))

pub returns-then-none : goal.returns-then-none
returns-then-none c =
    let width_is : let a = c.args in c.width-width.result ≡ width_given (given_at a.self.numbers.now a.self.bits.now a.self.index) =
    c.width-width.ensures ∙ ap width_of c.data_type.ensures in
    let a = c.args in
    bits_none (given_at a.self.numbers.now a.self.bits.now a.self.index) (width_is)
    (c.bits_fit-offset.ensures ∙ ap (bits_fit c.width-width.result) (offset_at a.self.bits.now a.self.index)) (sym c.no_null-none.ensures ∙ c.if-none.true)

pub returns : goal.returns
returns c =
    let width_is : let a = c.args in c.width-width.result ≡ width_given (given_at a.self.numbers.now a.self.bits.now a.self.index) =
    c.width-width.ensures ∙ ap width_of c.data_type.ensures in
    let a = c.args in
    bits-some (given_at a.self.numbers.now a.self.bits.now a.self.index) (width_is)
    (c.bits_fit-offset.ensures ∙ ap (bits_fit c.width-width.result) (offset_at a.self.bits.now a.self.index))
    (sym c.no_null-none.ensures ∙ c.if-none.false) c.bits_fit-null.ensures c.all.ensures
