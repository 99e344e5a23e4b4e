-- What the items of a canonical file ask for.
--     definitions, items_are, changes_are, define_all    a group's items, which together make the channel's record
--     order_is, count-is, sequences-is, start_is    the items outside groups
-- Assumes nothing.
use Prim.Native.Nat.{ℕ, ◌+◌, ◌*◌, ◌^◌, ◌≤◌, ◌<◌}
use mathlib.Core.Path.{◌≡◌, refl, sym, ◌∙◌, ap}
use mathlib.Core.List.{List, [], ◌∷◌, ◌++◌, append-nil}
use mathlib.Core.Logic.{◌⊎◌, inl, inr}
use mathlib.Core.Bool.{Bool, true, false}
use native.Mathlib.Nat.{mod-eq_of_lt}
use native.Mathlib.Decide.{ℕ_discrete}
use native.Mathlib.Omega.{arith}
use borrow.Author.Tests.{lt-ltb, le-ltb, le-leb, eq-eqb, ne_eqb}
use lib.Dec.{eqb, lit<, lit≤}
use lib.IntN.{ℤ}
use lib.Signed.{mag}
use lib.ListN.{length, get_or, take}
use lib.Seq.{take_all}
use Rattle.std.specs.Prelude.{Ok}
use Rattle.octets.specs.Pick.{pick}
use Rattle.octets.specs.Number.{number_of}
use Rattle.stores.specs.Number.{be, length-be}
use Rattle.stores.proofs.Number.{number_back}
use Rattle.values.specs.declared.Bits.{Bits}
use Rattle.values.specs.Sample.{width_of}
use Rattle.values.proofs.Laws.{width_le, width_cases}
use Rattle.settings.specs.declared.Scale.{Scale}
use Rattle.settings.specs.declared.Settings.{Settings}
use Rattle.definitions.specs.declared.Attribute.{Attribute}
use Rattle.settings.specs.declared.Change.{Change}
use Rattle.settings.specs.Settings.{block_limit, channel_limit, last_data_type, last_interval_unit, last_resolution_unit, default_settings}
use Rattle.definitions.specs.Define.{length_fits, bits_length, bits_of, scale_of, scale_fits, change_of, in_range, defined}
use Rattle.definitions.proofs.Laws.{define_back, define_changed}
use Rattle.layout.specs.Frame.{width_in}
use Rattle.standing.specs.declared.Standing.{Standing}
use Rattle.effects.specs.declared.Effect.{Effect}
use Rattle.effects.specs.Effects.{root_effect, order_effect, count_effect, sequences_effect, start_effect}
use Rattle.groups.specs.Item.{item_octets, number_item, unsigned_of}
use Rattle.groups.specs.Group.{scale_item, null_item, group_items}
use Rattle.canonical.proofs.Good.{GoodScale, GoodReported}
use Rattle.canonical.proofs.Numbers.{unsigned_fits, twos_back, signed_back}
use Rattle.canonical.proofs.Steps.{tag_of, Definition, definitions_octets, changed, AllDefine}

-- ---- one definition

defines : (a : Attribute) (base : Settings) (v : List ℕ) (c : Change) → change_of a false v ≡ c → length_fits a (length v) ≡ true → (length v ≡ 0 → ⊥) → in_range c ≡ true → defined a false base v ≡ Ok c
defines a base v c e f n r = sym (define_changed a false base v f n (rw e r)) ∙ ap Ok e

-- The octets of a number, none of them cut off.
be-taken : (k w n : ℕ) → w ≤ k → take k (be w n) ≡ be w n
be-taken k w n h = take_all k (be w n) (rw length-be h)

number-taken : (k w n : ℕ) → w ≤ k → n < 256 ^ w → number_of false (take k (be w n)) ≡ n
number-taken k w n h l = rw (be-taken k w n h) (number_back w n l)

be_defines : (a : Attribute) (base : Settings) (w n : ℕ) (c : Change) → change_of a false (be w n) ≡ c → length_fits a w ≡ true → 0 < w → in_range c ≡ true → defined a false base (be w n) ≡ Ok c
be_defines a base w n c e f h r = defines a base (be w n) c e (rw length-be f) (λ z. omega (arith, length-be w n)) r

-- One octet.
be_one : (n : ℕ) → n < 256 → be 1 n ≡ n ∷ []
unfolding be
be_one n h = rw (mod-eq_of_lt h)

-- The value of 0B and 0C.
unfoldable pub scale_octets : Scale → List ℕ
scale_octets x = x.unit ∷ (be 1 (unsigned_of 1 x.exponent) ++ be 4 (unsigned_of 4 x.mantissa))

-- The value of 12.
unfoldable pub null_octets : Settings → List ℕ
null_octets c = pick (eqb c.null.width 0) [] (be (width_in c) c.null.bits)

module _ (last : ℕ) (x : Scale) (g : GoodScale last x) where
  exponent-fits : 2 * mag x.exponent + 2 ≤ 256 ^ 1
  exponent-fits = omega (arith, g.exponent)

  mantissa-fits : 2 * mag x.mantissa + 2 ≤ 256 ^ 4
  mantissa-fits = rw g.mantissa (omega (arith, g.high))

  scale_octets_lem : scale_octets x ≡ x.unit ∷ unsigned_of 1 x.exponent ∷ be 4 (unsigned_of 4 x.mantissa)
  unfolding scale_octets
  scale_octets_lem = rw (be_one (unsigned_of 1 x.exponent) (unsigned_fits 1 x.exponent exponent-fits))

  scale_long : length (scale_octets x) ≡ 6
  scale_long = rw (scale_octets_lem, length-be)

  scale_back : scale_of false (scale_octets x) ≡ x
  unfolding scale_of
  scale_back =
      let e = twos_back 1 x.exponent exponent-fits in
      let m = signed_back 4 x.mantissa mantissa-fits in
      rw (scale_octets_lem, be-taken 4 4 (unsigned_of 4 x.mantissa) (lit≤ tt)) (λ i. record { unit = x.unit; exponent = e i; mantissa = m i })

  scale_defines : (a : Attribute) (base : Settings) (make : Scale → Change) → change_of a false (scale_octets x) ≡ make (scale_of false (scale_octets x)) → length_fits a 6 ≡ true → in_range (make x) ≡ scale_fits last x → defined a false base (scale_octets x) ≡ Ok (make x)
  scale_defines a base make e f r =
      let fits : scale_fits last x ≡ true = simp (le-leb x.unit last g.unit, g.mantissa, lt-ltb 0 g.value g.low) in
      defines a base (scale_octets x) (make x) (e ∙ ap make scale_back) (rw scale_long f) (λ z. omega (arith, scale_long)) (r ∙ fits)

bits_back : (w : ℕ) (x : Bits) → w ≤ 8 → x.bits < 256 ^ w → x.width ≡ w → bits_of false (be w x.bits) ≡ x
bits_back w x h l e =
    let long : length (take 8 (be w x.bits)) ≡ x.width = rw (be-taken 8 w x.bits h, length-be) (sym e) in
    let bits = number-taken 8 w x.bits h l in
    λ i. record { width = long i; bits = bits i }

-- A sample's octets are a number of octets that an offset or a null may have.
pub record GoodWidth (w : ℕ) : Type 0 where
  pub fits : bits_length w ≡ true
  pub some : 0 < w

pub width_good : (k : ℕ) → k ≤ last_data_type → GoodWidth (width_of k)
width_good =
    width_cases GoodWidth (record { fits = refl; some = lit< tt }) (record { fits = refl; some = lit< tt })
    (record { fits = refl; some = lit< tt }) (record { fits = refl; some = lit< tt })

-- ---- a group

-- The definitions of a canonical group, in order.
unfoldable pub definitions : Settings → List Definition
definitions c =
    record { attribute = Attribute.Block; value = be 4 c.block; change = Change.Block c.block }
    ∷ record { attribute = Attribute.Class; value = be 2 c.class; change = Change.Class c.class }
    ∷ record { attribute = Attribute.Lead; value = be 2 c.lead; change = Change.Lead c.lead }
    ∷ record { attribute = Attribute.DataType; value = be 1 c.datatype; change = Change.DataType c.datatype }
    ∷ record { attribute = Attribute.Interval; value = scale_octets c.interval; change = Change.Interval c.interval }
    ∷ record { attribute = Attribute.Resolution; value = scale_octets c.resolution; change = Change.Resolution c.resolution }
    ∷ record { attribute = Attribute.Offset; value = be (width_in c) c.offset.bits; change = Change.Offset c.offset }
    ∷ record { attribute = Attribute.Null; value = null_octets c; change = Change.Null c.null }
    ∷ []

-- A choice between two values of an item.
pub item_picked : (tag : ℕ) (b : Bool) (v w : List ℕ) → pick b (item_octets tag v) (item_octets tag w) ≡ item_octets tag (pick b v w)
item_picked tag true v w = refl
item_picked tag false v w = refl

null-item : (c : Settings) → null_item c ≡ item_octets 0x12 (null_octets c)
unfolding null_item null_octets number_item
null-item c = item_picked 0x12 (eqb c.null.width 0) [] (be (width_in c) c.null.bits)

pub items_are : (c : Settings) → group_items c ≡ definitions_octets (definitions c)
unfolding group_items definitions tag_of number_item scale_item scale_octets
items_are c = rw (null-item c, append-nil)

-- They set all there is, whatever the record was.
pub changes_are : (b c : Settings) → changed (definitions c) b ≡ c
unfolding definitions
changes_are b c = refl

null_defines : (c : Settings) → GoodReported c → defined Attribute.Null false default_settings (null_octets c) ≡ Ok (Change.Null c.null)
unfolding null_octets
null_defines c g = by g.null_width
  where
    by : (c.null.width ≡ 0) ⊎ (c.null.width ≡ width_in c) → defined Attribute.Null false default_settings (pick (eqb c.null.width 0) [] (be (width_in c) c.null.bits)) ≡ Ok (Change.Null c.null)
    by (inl z) =
        let l : c.null.bits < 256 ^ 0 = rw z at g.null in
        let b : 0 ≡ c.null.bits = omega arith in
        simp (eq-eqb c.null.width 0 z)
        (sym (define_back Attribute.Null false default_settings [] refl refl) ∙ ap (λ (x : Bits). Ok (Change.Null x)) (λ i. record { width = sym z i; bits = b i }))
    by (inr e) =
        let w = width_good c.datatype g.datatype in
        let n : c.null.width ≡ 0 → ⊥ = λ z. omega (arith, w.some) in
        simp (ne_eqb c.null.width 0 n)
        (be_defines Attribute.Null default_settings (width_in c) c.null.bits (Change.Null c.null)
        (ap Change.Null (bits_back (width_in c) c.null (width_le c.datatype) (rw e at g.null) e)) w.fits w.some refl)

pub define_all : (c : Settings) → GoodReported c → AllDefine default_settings (definitions c)
unfolding definitions
define_all c g =
    let base = default_settings in
    let width = width_good c.datatype g.datatype in
    let block_fits : in_range (Change.Block c.block) ≡ true = simp (le-leb 1 c.block g.block_low, le-leb c.block block_limit g.block_high) in
    let blockBack = number-taken 4 4 c.block (lit≤ tt) (omega (arith, g.block_high)) in
    let typeBack = be_one c.datatype (omega (arith, g.datatype)) in
    let offsetBack = bits_back (width_in c) c.offset (width_le c.datatype) g.offset g.offset_width in
    let block = be_defines Attribute.Block base 4 c.block (Change.Block c.block) (ap Change.Block blockBack) refl (lit< tt) block_fits in
    let class = be_defines Attribute.Class base 2 c.class (Change.Class c.class) (ap Change.Class (number-taken 2 2 c.class (lit≤ tt) g.class)) refl (lit< tt) refl in
    let lead = be_defines Attribute.Lead base 2 c.lead (Change.Lead c.lead) (ap Change.Lead (number-taken 2 2 c.lead (lit≤ tt) g.lead)) refl (lit< tt) refl in
    let datatype = be_defines Attribute.DataType base 1 c.datatype (Change.DataType c.datatype) (ap (λ (v : List ℕ). Change.DataType (get_or v 0 0)) typeBack) refl (lit< tt) (le-leb c.datatype last_data_type g.datatype) in
    let interval = scale_defines last_interval_unit c.interval g.interval Attribute.Interval base Change.Interval refl refl refl in
    let resolution = scale_defines last_resolution_unit c.resolution g.resolution Attribute.Resolution base Change.Resolution refl refl refl in
    let offset = be_defines Attribute.Offset base (width_in c) c.offset.bits (Change.Offset c.offset) (ap Change.Offset offsetBack) width.fits width.some refl in
    (block, (class, (lead, (datatype, (interval, (resolution, (offset, (null_defines c g, tt))))))))

-- ---- outside groups

-- What stands in a canonical file: big-endian, and the defaults for all channels.
abbrev pub standing : ℕ → ℕ → ℤ → ℤ → Standing
standing counted sequences start continued =
    record { little = false; counted = counted; sequences = sequences; start = start; continued = continued; root = default_settings }

module _ (counted sequences : ℕ) (start continued : ℤ) (at : ℕ) where
  pub order_is : root_effect (standing counted sequences start continued) 0x01 at (0 ∷ []) ≡ Ok (Effect.Order false)
  unfolding root_effect order_effect
  order_is = refl

  pub count-is : (n : ℕ) → 0 < n → n ≤ channel_limit → root_effect (standing counted sequences start continued) 0x05 at (be 4 n) ≡ Ok (Effect.Count n)
  unfolding root_effect count_effect
  count-is n h l =
      let z : n ≡ 0 → ⊥ = λ e. omega arith in
      let b : n < 256 ^ 4 = omega arith in
      rw (length-be, number-taken 4 4 n (lit≤ tt) b, ne_eqb n 0 z, le-ltb channel_limit n l)

  pub sequences-is : (n : ℕ) → n < 2 ^ 32 → root_effect (standing counted sequences start continued) 0x06 at (pick (eqb n 0) [] (be 4 n)) ≡ Ok (Effect.Sequences n)
  unfolding root_effect sequences_effect
  sequences-is n h = by (ℕ_discrete n 0)
    where
      by : Dec (n ≡ 0) → root_effect (standing counted sequences start continued) 0x06 at (pick (eqb n 0) [] (be 4 n)) ≡ Ok (Effect.Sequences n)
      by (yes z) = rw z
      by (no z) = simp (ne_eqb n 0 z) (rw (length-be, number-taken 4 4 n (lit≤ tt) h, ne_eqb n 0 z))

  pub start_is : (z : ℤ) → mag z < 2147483648 → root_effect (standing counted sequences start continued) 0x07 at (be 4 (unsigned_of 4 z)) ≡ Ok (Effect.Start z)
  unfolding root_effect start_effect
  start_is z h = rw (length-be, be-taken 4 4 (unsigned_of 4 z) (lit≤ tt), signed_back 4 z (omega arith))
