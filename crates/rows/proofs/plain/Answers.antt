-- Each data type by itself.
use mathlib.Core.Path.{◌∙◌, ap, sym, refl}
use mathlib.Core.Bool.{Bool}
use Prim.Native.Nat.{ℕ}
use lib.Dec.{lit<, lit≤}
use lib.Ieee.{binary32, binary64, nan_bits}
use lib.Ieee.Bits.{nan_bits_above}
use Rattle.octets.specs.Pick.{pick}
use Rattle.values.specs.Sample.{width_of, single_said, double_said, single_of, double_of, plain_of}
use Rattle.rows.specs.declared.Shown.{Shown}
use Rattle.rows.specs.Laying.{showing, shown_as}
use Rattle.rows.proofs.Laws.{float_shown, rest_shown}
use Rattle.rows.proofs.plain.Goals as goal

-- What bits stand for, by the data type.
abbrev shown_bits : ℕ → ℕ → Shown
shown_bits bits datatype = shown_as (plain_of datatype bits)

pub signed-requires : goal.signed-requires
unfolding width_of
signed-requires c = (lit< tt, lit≤ tt, rw (ap width_of c.in-0.is) at c.requires)

pub signed-requires-in-2 : goal.signed-requires-in-2
unfolding width_of
signed-requires-in-2 c = (lit< tt, lit≤ tt, rw (ap width_of c.in-2.is) at c.requires)

pub signed-requires-in-5 : goal.signed-requires-in-5
unfolding width_of
signed-requires-in-5 c = (lit< tt, lit≤ tt, rw (ap width_of c.in-5.is) at c.requires)

pub returns-in-0 : goal.returns-in-0
unfolding plain_of width_of
returns-in-0 c = c.whole.ensures ∙ ap (showing 0) (c.signed.ensures 2 refl) ∙ ap (shown_bits c.args.bits) (sym c.in-0.is)

pub returns-in-2 : goal.returns-in-2
unfolding plain_of width_of
returns-in-2 c = c.whole-in-2.ensures ∙ ap (showing 0) (c.signed-in-2.ensures 4 refl) ∙ ap (shown_bits c.args.bits) (sym c.in-2.is)

pub returns-in-4 : goal.returns-in-4
unfolding plain_of
returns-in-4 c = c.other.ensures ∙ ap (shown_bits c.args.bits) (sym c.in-4.is)

pub returns-in-5 : goal.returns-in-5
unfolding plain_of width_of
returns-in-5 c = c.whole-in-5.ensures ∙ ap (showing 0) (c.signed-in-5.ensures 1 refl) ∙ ap (shown_bits c.args.bits) (sym c.in-5.is)

pub returns-in-7 : goal.returns-in-7
unfolding plain_of single_of
returns-in-7 c = c.float.ensures
    ∙ ap (λ (t : Bool). showing (pick t 4 2) 0) (sym (nan_bits_above binary32 c.args.bits))
    ∙ float_shown (nan_bits binary32 c.args.bits) single_said c.args.bits 2 refl
    ∙ ap (shown_bits c.args.bits) (sym c.in-7.is)

pub returns-in-8 : goal.returns-in-8
unfolding plain_of double_of
returns-in-8 c = c.float-in-8.ensures
    ∙ ap (λ (t : Bool). showing (pick t 4 3) 0) (sym (nan_bits_above binary64 c.args.bits))
    ∙ float_shown (nan_bits binary64 c.args.bits) double_said c.args.bits 3 refl
    ∙ ap (shown_bits c.args.bits) (sym c.in-8.is)

pub returns-in_default : goal.returns-in_default
returns-in_default c =
    let rest = c.in_default.in_default-own.rest in
    c.whole-in_default.ensures ∙ rest_shown _ _ c.requires rest.0.0.0.0.0.1 rest.0.0.0.0.1 rest.0.0.0.1 rest.0.0.1 rest.0.1 rest.1
