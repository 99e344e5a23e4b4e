-- Laws of settings that are handed over in rows.
--     lowest_fits              bits are not wider than the sample where their lowest octets are all of them
--     NumbersFit, numbers_split, ScaleFits, scale_split, RowFits, row_split    what the tests of a row tell
--     bits_none, bits-some, null-some, scale_made_lem, settings-made    a row's bits, its null, a scale and its settings, part by part
--     scale_at                 a scale of a row, by its place
--     row-there                one of the rows that there are
--     all_fit, one_outside, fit_at    every row in the table, and one that is not
--     made-long, made_at, made_wide    the channels of the rows
--     octets-few               their sequences have few octets
--     Measuring, measuring-..  the loop over the rows
-- Assumes nothing.
use mathlib.Core.Path.{◌≡◌, refl, sym, ap, ap₂, ◌∙◌, subst}
use mathlib.Core.Bool.{Bool, true, false}
use mathlib.Core.List.{List, map}
use Prim.Native.Nat.{ℕ, zero, suc, ◌+◌, ◌*◌, ◌^◌, ◌≤◌, ◌<◌}
use native.Mathlib.Nat.{add_assoc, mod-eq_of_lt, mod-lt, mul-le-mul}
use native.Mathlib.Decide.{dec_lt}
use native.Mathlib.Omega.{arith}
use borrow.Author.Tests.{ltb-true, ltb-false, eq-eqb, ne_eqb}
use lib.Dec.{eqb, ltb}
use lib.IntN.{ℤ}
use lib.ListN.{length, get_or, length-map}
use lib.Seq.{take_all}
use Rattle.std.specs.Prelude.{Some, None}
use Rattle.octets.specs.Pick.{both}
use Rattle.octets.specs.Number.{low_of}
use Rattle.octets.proofs.Pick.{both_split, both_false}
use Rattle.octets.proofs.Laws.{range_pos}
use Rattle.values.proofs.Laws.{width_le, width_some}
use Rattle.values.specs.declared.Bits.{Bits}
use Rattle.settings.specs.declared.Scale.{Scale}
use Rattle.settings.specs.declared.Settings.{Settings}
use Rattle.settings.specs.Settings.{block_limit, last_data_type, last_interval_unit, last_resolution_unit, zero_settings}
use Rattle.layout.specs.declared.Layout.{Layout}
use Rattle.layout.specs.Frame.{block_octets, sequence_octets}
use Rattle.layout.specs.Measure.{layout_of, no_layout, More}
use Rattle.there.specs.There.{Wide}
use Rattle.layout.proofs.Laws.{Summing, summing_start, summing_more, summed_up}
use Rattle.canonical.specs.Recording.{tabulate}
use Rattle.canonical.proofs.Accepted.{tabulate-length, tabulate-at, map_at}
use Rattle.maker.specs.Given.{GivenScale, Given, given_scale, given_at, givens_in, last_code, last_mantissa, within, exponent_fits, scale_in_table, bits_fit, no_null, numbers_in_table, scales_in_table, bits_in_table, in_table, all_in_table, natural_of, width_given, scale_made, bits_made, null_made, settings_made, channels_made}
use Rattle.maker.specs.Rows.{number_at, RowThere, RowsThere, measured}
use Rattle.maker.proofs.Numbers.{within_low, within_high}

-- ---- bits

pub lowest_fits : (w x : ℕ) → eqb (low_of w x) x ≡ bits_fit w x
unfolding bits_fit
lowest_fits w x = by (ltb x (256 ^ w)) refl
  where
    by : (t : Bool) → ltb x (256 ^ w) ≡ t → eqb (low_of w x) x ≡ t
    by true e = eq-eqb (low_of w x) x (mod-eq_of_lt (ltb-true x (256 ^ w) e))
    by false e =
        let h : low_of w x < 256 ^ w = mod-lt x (range_pos w) in
        ne_eqb (low_of w x) x (λ q. omega (arith, ltb-false x (256 ^ w) e))

-- ---- what the tests tell

-- Block length, codes and data type.
pub record NumbersFit (g : Given) : Type 0 where
  pub some : 1 ≤ natural_of g.block
  pub most : natural_of g.block ≤ block_limit
  pub class : natural_of g.class ≤ last_code
  pub lead : natural_of g.lead ≤ last_code
  pub datatype : natural_of g.datatype ≤ last_data_type

pub numbers_split : (g : Given) → numbers_in_table g ≡ true → NumbersFit g
unfolding numbers_in_table
numbers_split g e =
    let a = both_split (within 1 block_limit g.block) _ e in
    let b = both_split (within 0 last_code g.class) _ a.1 in
    let c = both_split (within 0 last_code g.lead) _ b.1 in
    record {
      some = within_low 1 block_limit g.block a.0;
      most = within_high 1 block_limit g.block a.0;
      class = within_high 0 last_code g.class b.0;
      lead = within_high 0 last_code g.lead c.0;
      datatype = within_high 0 last_data_type g.datatype c.1;
    }

-- A unit, an exponent and a mantissa.
pub record ScaleFits (last : ℕ) (x : GivenScale) : Type 0 where
  pub unit : natural_of x.unit ≤ last
  pub exponent : exponent_fits x.exponent ≡ true
  pub mantissa : within 1 last_mantissa x.mantissa ≡ true

pub scale_split : (last : ℕ) (x : GivenScale) → scale_in_table last x ≡ true → ScaleFits last x
unfolding scale_in_table
scale_split last x e =
    let a = both_split (within 0 last x.unit) _ e in
    let b = both_split (exponent_fits x.exponent) _ a.1 in
    record { unit = within_high 0 last x.unit a.0; exponent = b.0; mantissa = b.1 }

-- All of a row.
pub record RowFits (g : Given) : Type 0 where
  pub numbers : numbers_in_table g ≡ true
  pub interval : scale_in_table last_interval_unit g.interval ≡ true
  pub resolution : scale_in_table last_resolution_unit g.resolution ≡ true
  pub bits : bits_in_table g ≡ true

pub row_split : (g : Given) → in_table g ≡ true → RowFits g
unfolding in_table scales_in_table
row_split g e =
    let a = both_split (numbers_in_table g) _ e in
    let b = both_split (scales_in_table g) (bits_in_table g) a.1 in
    let c = both_split (scale_in_table last_interval_unit g.interval) _ b.0 in
    record { numbers = a.0; interval = c.0; resolution = c.1; bits = b.1 }

-- ---- what the tests are made of

both_yes : (t : Bool) → both t true ≡ t
both_yes true = refl
both_yes false = refl

-- Offset and null, by a width that is that of the samples.
module _ (g : Given) {w : ℕ} {offset : Bool} (ew : w ≡ width_given g) (eo : offset ≡ bits_fit w g.offset) where
  pub bits_none : no_null g.null_width ≡ true → offset ≡ bits_in_table g
  unfolding bits_in_table
  bits_none en = rw (en, ← ew) (eo ∙ sym (both_yes (bits_fit w g.offset)))

  pub bits-some : {null r : Bool} → no_null g.null_width ≡ false → null ≡ bits_fit w g.null → r ≡ both offset null → r ≡ bits_in_table g
  unfolding bits_in_table
  bits-some en e er = rw (en, ← ew) (er ∙ ap₂ both eo e)

-- A null of the sample's width.
pub null-some : (g : Given) {w : ℕ} → w ≡ width_given g → no_null g.null_width ≡ false → bits_made w g.null ≡ null_made g
unfolding null_made
null-some g ew en = rw (en, ← ew)

-- The numbers of a scale, and those of a channel's settings.
pub scale_made_lem : (x : GivenScale) {unit : ℕ} {exponent mantissa : ℤ} → unit ≡ natural_of x.unit → exponent ≡ x.exponent → mantissa ≡ x.mantissa
    → ◌≡◌ {A = Scale} (record { unit = unit; exponent = exponent; mantissa = mantissa }) (scale_made x)
scale_made_lem x a b c = λ k. record { unit = a k; exponent = b k; mantissa = c k }

pub settings-made : (g : Given) {block class lead datatype width offset : ℕ} {interval resolution : Scale} {null : Bits}
    → block ≡ natural_of g.block → class ≡ natural_of g.class → lead ≡ natural_of g.lead → datatype ≡ natural_of g.datatype
    → interval ≡ scale_made g.interval → resolution ≡ scale_made g.resolution → width ≡ width_given g → offset ≡ g.offset → null ≡ null_made g
    → ◌≡◌ {A = Settings} (record { block = block; class = class; lead = lead; datatype = datatype; interval = interval; resolution = resolution; offset = bits_made width offset; null = null }) (settings_made g)
unfolding settings_made
settings-made g a b c d e f h o n =
    λ k. record { block = a k; class = b k; lead = c k; datatype = d k; interval = e k; resolution = f k; offset = bits_made (h k) (o k); null = n k }

-- ---- rows

-- A scale of a row, by its place among all numbers and by its place in the row.
pub scale_at : (numbers : List ℤ) (k a : ℕ) → given_scale (number_at numbers) (k + a) ≡ given_scale (λ b. number_at numbers (k + b)) a
scale_at numbers k a = rw (add_assoc k a 1, add_assoc k a 2)

pub row-there : {numbers : List ℤ} {bits : List ℕ} {n : ℕ} → RowsThere numbers bits n → (i : ℕ) → i < n → RowThere numbers bits i
row-there r i h = record { in_numbers = omega (arith, r.in_numbers); in_bits = omega (arith, r.in_bits); few = omega (arith, r.few) }

-- Every one of some rows is in the table.
pub all_fit : (n : ℕ) (f : ℕ → Given) → ((j : ℕ) → j < n → in_table (f j) ≡ true) → all_in_table (tabulate n f) ≡ true
unfolding all_in_table tabulate
all_fit zero f h = refl
all_fit (suc n) f h = rw (h 0 (omega arith)) (all_fit n (λ i. f (suc i)) (λ j l. h (suc j) (omega arith)))

pub one_outside : (n : ℕ) (f : ℕ → Given) (j : ℕ) → j < n → in_table (f j) ≡ false → all_in_table (tabulate n f) ≡ false
unfolding all_in_table tabulate
one_outside zero f j h e = let z : ⊥ = omega arith in absurd z
one_outside (suc n) f zero h e = rw e
one_outside (suc n) f (suc j) h e = rw (one_outside n (λ i. f (suc i)) j (omega arith) e) (both_false (in_table (f 0)))

pub fit_at : (n : ℕ) (f : ℕ → Given) → all_in_table (tabulate n f) ≡ true → (j : ℕ) → j < n → in_table (f j) ≡ true
unfolding all_in_table tabulate
fit_at zero f e j h = let z : ⊥ = omega arith in absurd z
fit_at (suc n) f e zero h = (both_split (in_table (f 0)) (all_in_table (tabulate n (λ i. f (suc i)))) e).0
fit_at (suc n) f e (suc j) h =
    fit_at n (λ i. f (suc i)) (both_split (in_table (f 0)) (all_in_table (tabulate n (λ i. f (suc i)))) e).1 j (omega arith)

-- ---- the channels of the rows

module _ (n : ℕ) (numbers : List ℤ) (bits : List ℕ) where
  pub made-long : length (channels_made n numbers bits) ≡ n
  made-long = length-map (givens_in n numbers bits) settings_made ∙ tabulate-length n (given_at numbers bits)

  pub made_at : (i : ℕ) → i < n → get_or (channels_made n numbers bits) i zero_settings ≡ settings_made (given_at numbers bits i)
  made_at i h =
      map_at settings_made (givens_in n numbers bits) i (given_at numbers bits 0) zero_settings (omega (arith, tabulate-length n (given_at numbers bits)))
      ∙ ap settings_made (tabulate-at n (given_at numbers bits) i (given_at numbers bits 0) h)

-- Samples have octets.
pub made_wide : (n : ℕ) (numbers : List ℤ) (bits : List ℕ) → all_in_table (givens_in n numbers bits) ≡ true → Wide (channels_made n numbers bits)
unfolding settings_made
made_wide n numbers bits e c h =
    let i : c < n = rw (made-long n numbers bits) at h in
    let row = row_split (given_at numbers bits c) (fit_at n (given_at numbers bits) e c i) in
    let datatype = (numbers_split (given_at numbers bits c) row.numbers).datatype in
    rw (made_at n numbers bits c i) (width_some (natural_of (given_at numbers bits c).datatype) datatype)

-- A row of the table has a block of few octets.
pub block-few : (g : Given) → in_table g ≡ true → block_octets (settings_made g) ≤ block_limit * 8
unfolding settings_made block_octets
block-few g e =
    mul-le-mul (numbers_split g (row_split g e).numbers).most (width_le (natural_of g.datatype))

pub octets-few : (n : ℕ) (f : ℕ → Given) → all_in_table (tabulate n f) ≡ true → sequence_octets (map settings_made (tabulate n f)) ≤ n * (block_limit * 8)
unfolding all_in_table tabulate sequence_octets
octets-few zero f e = omega arith
octets-few (suc n) f e =
    let h = both_split (in_table (f 0)) (all_in_table (tabulate n (λ i. f (suc i)))) e in
    omega (arith, block-few (f 0) h.0, octets-few n (λ i. f (suc i)) h.1)

-- ---- the loop over the rows

-- The first n rows are there; i of them are behind, in the table, and l is their channels' layout.
pub record Measuring (n : ℕ) (numbers : List ℤ) (bits : List ℕ) (i : ℕ) (l : Layout) : Type 0 where
  pub there : RowsThere numbers bits n
  pub fit : (j : ℕ) → j < i → in_table (given_at numbers bits j) ≡ true
  pub sums : Summing 0 (channels_made n numbers bits) n i l

pub measuring_first : {n : ℕ} {numbers : List ℤ} {bits : List ℕ} {l : Layout} → RowsThere numbers bits n → l ≡ no_layout → Measuring n numbers bits 0 l
measuring_first {n} {numbers} {bits} r e =
    record {
      there = r;
      fit = λ j h. let z : ⊥ = omega arith in absurd z;
      sums = summing_start 0 (omega (arith, made-long n numbers bits)) r.few e;
    }

module _ {n : ℕ} {numbers : List ℤ} {bits : List ℕ} {i : ℕ} {l : Layout} (p : Measuring n numbers bits i l) where
  pub measuring_next : {c : Settings} {m : Layout} → i < n → in_table (given_at numbers bits i) ≡ true → c ≡ settings_made (given_at numbers bits i) → More i 0 c l m → Measuring n numbers bits (i + 1) m
  measuring_next {c} {m} h e ec g =
      record {
        there = p.there;
        fit = λ j k. fit-more j (dec_lt j i) k;
        sums = summing_more p.sums m h (subst (λ (x : Settings). More i 0 x l m) (ec ∙ sym (made_at n numbers bits i h)) g);
      }
    where
      fit-more : (j : ℕ) → Dec (j < i) → j < i + 1 → in_table (given_at numbers bits j) ≡ true
      fit-more j (yes k) q = p.fit j k
      fit-more j (no k) q = let w : j ≡ i = omega arith in rw w e

  pub measuring_outside : i < n → in_table (given_at numbers bits i) ≡ false → None ≡ measured n numbers bits
  unfolding measured
  measuring_outside h e = rw (one_outside n (given_at numbers bits) i h e)

  pub measuring_done : n ≤ i → Some l ≡ measured n numbers bits
  unfolding measured
  measuring_done h =
      let q = summed_up p.sums n refl h ∙ ap (layout_of 0) (take_all n (channels_made n numbers bits) (omega (arith, made-long n numbers bits))) in
      rw (all_fit n (given_at numbers bits) (λ j k. p.fit j (omega arith))) (ap Some q)
