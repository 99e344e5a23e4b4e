-- Laws of a run of items.
--     step-none, -long, -past, -here    the item at a place of u, by its octets
--     RunningStretch                    the loop's invariant: what is left of u gives the stretch
--     running_first, -ends, -goes       at the front; where the stretch ends; after an item
--     running_stops, running_item       the same at an item that goes by its tag
--     value-here                        the value of the item at a place
--     leaves_read                       what was read of an attribute leaves what its definition does
--     block-step and its like           what an attribute leaves, by what was read of it
--     leaves-block and its like         what a definition leaves
--     leaves-same, -nothing             what another item leaves
--     ends-within                       the place where it ends is a place
-- Assumes nothing.
use Rattle.std.specs.Prelude.{Ok, Err, Option, Some, None}
use mathlib.Core.Path.{◌≡◌, refl, sym, ap, ◌∙◌}
use mathlib.Core.List.{List}
use mathlib.Core.Bool.{Bool, true, false, not}
use Prim.Native.Nat.{ℕ, zero, suc, ◌+◌, ◌-◌, ◌^◌, ◌≤◌, ◌<◌}
use native.Mathlib.Nat.{add-zero, add_assoc}
use native.Mathlib.Omega.{arith}
use native.Mathlib.Decide.{ℕ_discrete}
use borrow.Author.Tests.{lt-ltb, le-ltb}
use lib.Dec.{eqb}
use lib.ListN.{length, get_or, take, drop, length-drop}
use lib.Seq.{get_or-drop, drop-drop}
use Rattle.items.specs.declared.Within.{Within}
use Rattle.items.specs.Walk.{extent}
use Rattle.items.proofs.Walks.{extent_found}
use Rattle.octets.specs.Pick.{pick}
use Rattle.octets.proofs.Laws.{part_whole}
use Rattle.heads.specs.declared.Fault.TheVariants.{UnfitLength, UnfitValue}
use Rattle.values.specs.declared.Bits.{Bits}
use Rattle.settings.specs.declared.Scale.{Scale}
use Rattle.settings.specs.declared.Settings.{Settings}
use Rattle.settings.specs.declared.Change.{Change}
use Rattle.settings.specs.Settings.{applied, last_interval_unit, last_resolution_unit}
use Rattle.definitions.specs.declared.Attribute.{Attribute}
use Rattle.definitions.specs.Define.{tagged, length_fits, standing_in, change_of, in_range, defined, read_as, block_read, code_read, type_read, scale_read, bits_read}
use Rattle.stretch.specs.Stretch.{Step, leaves, ends, stepped_over, leaves_by, step_by, step_of, stretch, onward, run_from, run_of}

module _ (little : Bool) (base held : Settings) (u : List ℕ) (at : ℕ) where
  long : length (drop at u) ≡ length u - at
  long = length-drop at u

  tag-there : get_or (drop at u) 0 0 ≡ get_or u at 0
  tag-there = get_or-drop at u 0 0 ∙ ap (λ (k : ℕ). get_or u k 0) (add-zero at)

  length-there : get_or (drop at u) 1 0 ≡ get_or u (at + 1) 0
  length-there = get_or-drop at u 1 0

  -- No item with a length.
  pub step-none : length u ≤ at + 1 → step_of little base held (drop at u) ≡ ends
  unfolding step_of
  step-none h = simp (lt-ltb (length (drop at u)) 2 (omega (arith, long)))

  module _ {n : ℕ} (e : n ≡ get_or u (at + 1) 0) (h : at + 1 < length u) where
    -- A length of more octets than one.
    pub step-long : 127 < n → step_of little base held (drop at u) ≡ ends
    unfolding step_of
    step-long l = simp (le-ltb (length (drop at u)) 2 (omega (arith, long)), length-there, ← e, lt-ltb 127 n l)

    module _ (l : n ≤ 127) where
      -- A value that is not all there.
      pub step_past : length u - at - 2 < n → step_of little base held (drop at u) ≡ ends
      unfolding step_of
      step_past k =
          simp (le-ltb (length (drop at u)) 2 (omega (arith, long)), length-there, ← e, le-ltb 127 n l, lt-ltb (length (drop at u) - 2) n (omega (arith, long)))

      -- An item that goes by its tag.
      pub step-here : n ≤ length u - at - 2 → step_of little base held (drop at u) ≡ step_by little base held (get_or u at 0) (take n (drop (at + 2) u)) (tagged (get_or u at 0))
      unfolding step_of
      step-here k =
          simp (le-ltb (length (drop at u)) 2 (omega (arith, long)), length-there, ← e, le-ltb 127 n l, le-ltb (length (drop at u) - 2) n (omega (arith, long)), tag-there, drop-drop 2 at u)

-- ---- the loop

-- What is known before the item at a place.
pub record RunningStretch (little : Bool) (base held₀ : Settings) (u : List ℕ) (held : Settings) (at : ℕ) : Type 0 where
  pub low : at ≤ length u
  pub turns : ℕ
  pub enough : length u - at ≤ turns
  pub same : run_from turns little base at held (drop at u) ≡ run_of little base held₀ u

pub running_first : (little : Bool) (base held : Settings) (u : List ℕ) → RunningStretch little base held u held 0
unfolding run_of
running_first little base held u = record { low = omega arith; turns = length u; enough = omega arith; same = refl }

run_ends : (turns : ℕ) (little : Bool) (base : Settings) (at : ℕ) (held : Settings) (u : List ℕ) → step_of little base held u ≡ ends → run_from turns little base at held u ≡ stretch at held
unfolding run_from onward
run_ends zero little base at held u e = refl
run_ends (suc turns) little base at held u e = rw e refl

run_goes : (turns : ℕ) (little : Bool) (base : Settings) (at : ℕ) (held x : Settings) (u : List ℕ) → step_of little base held u ≡ leaves x → run_from (suc turns) little base at held u ≡ run_from turns little base (at + (2 + get_or u 1 0)) x (drop (2 + get_or u 1 0) u)
unfolding run_from onward
run_goes turns little base at held x u e = rw e refl

module _ {little : Bool} {base held₀ : Settings} {u : List ℕ} {held : Settings} {at : ℕ} (p : RunningStretch little base held₀ u held at) where
  pub running_ends : {first : Settings} → held₀ ≡ first → step_of little base held (drop at u) ≡ ends → stretch at held ≡ run_of little base first u
  running_ends f e = sym (run_ends p.turns little base at held (drop at u) e) ∙ p.same ∙ ap (λ (x : Settings). run_of little base x u) f

  pub running_goes : {n : ℕ} {x : Settings} → n ≡ get_or u (at + 1) 0 → at + 1 < length u → n ≤ length u - at - 2 → step_of little base held (drop at u) ≡ leaves x → RunningStretch little base held₀ u x (at + 2 + n)
  running_goes {n = n} {x = x} e h k s = go p.turns p.enough p.same
    where
      behind : at + (2 + get_or (drop at u) 1 0) ≡ at + 2 + n
      behind = ap (λ (m : ℕ). at + (2 + m)) (length-there little base held u at ∙ sym e) ∙ sym (add_assoc at 2 n)

      go : (turns : ℕ) → length u - at ≤ turns → run_from turns little base at held (drop at u) ≡ run_of little base held₀ u → RunningStretch little base held₀ u x (at + 2 + n)
      go zero m q = let z : ⊥ = omega arith in absurd z
      go (suc turns) m q =
          record {
            low = omega arith;
            turns = turns;
            enough = omega arith;
            same = (λ i. run_from turns little base (sym behind i) x (drop (sym behind i) u)) ∙ ap (run_from turns little base (at + (2 + get_or (drop at u) 1 0)) x) (sym (drop-drop (2 + get_or (drop at u) 1 0) at u)) ∙ sym (run_goes turns little base at held x (drop at u) s) ∙ q;
          }

  -- An item that goes by its tag: where it ends the stretch, and where it is a part of it.
  module _ {n : ℕ} (e : n ≡ get_or u (at + 1) 0) (h : at + 1 < length u) (l : n ≤ 127) (k : n ≤ length u - at - 2) where
    pub running_stops : {first : Settings} → held₀ ≡ first → step_by little base held (get_or u at 0) (take n (drop (at + 2) u)) (tagged (get_or u at 0)) ≡ ends → (stretch at held ≡ run_of little base first u) × (at ≤ length u)
    running_stops f s = (running_ends f (step-here little base held u at e h l k ∙ s), p.low)

    pub running_item : {x : Settings} → step_by little base held (get_or u at 0) (take n (drop (at + 2) u)) (tagged (get_or u at 0)) ≡ leaves x → RunningStretch little base held₀ u x (at + 2 + n)
    running_item s = running_goes e h k (step-here little base held u at e h l k ∙ s)

-- ---- what an item leaves

-- The value of the item at a place.
pub value-here : (u : List ℕ) (at : ℕ) → take (at + 2 + get_or u (at + 1) 0 - (at + 2)) (drop (at + 2) u) ≡ take (get_or u (at + 1) 0) (drop (at + 2) u)
value-here u at = part_whole u (at + 2) (get_or u (at + 1) 0)

-- Three tests in a row, and what is made of their choice.
three : {A B : Type 0} (f : A → B) (p q r : Bool) (a b c d : A) → f (pick p a (pick q b (pick r c d))) ≡ pick p (f a) (pick q (f b) (pick r (f c) (f d)))
three f true q r a b c d = refl
three f false true r a b c d = refl
three f false false true a b c d = refl
three f false false false a b c d = refl

-- What was read of an attribute leaves what its definition does.
pub leaves_read : (a : Attribute) (little : Bool) (base held : Settings) (v : List ℕ) {A R : Type 0} (f : R → Step) (value : A → R) (refused : R) (g : Bool) (b x : A)
    → f refused ≡ ends → f (value b) ≡ leaves (applied (standing_in a base) held) → f (value x) ≡ leaves (applied (change_of a little v) held) → g ≡ in_range (change_of a little v)
    → f (read_as value refused (length_fits a (length v)) (length v) g b x) ≡ leaves_by held (defined a little base v)
unfolding read_as defined leaves_by
leaves_read a little base held v f value refused g b x none back new fits =
    three f (not (length_fits a (length v))) (eqb (length v) 0) g refused (value b) (value x) refused
    ∙ (λ i. pick (not (length_fits a (length v))) (none i) (pick (eqb (length v) 0) (back i) (pick (fits i) (new i) (none i))))
    ∙ sym (three (leaves_by held) (not (length_fits a (length v))) (eqb (length v) 0) (in_range (change_of a little v)) (Err UnfitLength) (Ok (standing_in a base)) (Ok (change_of a little v)) (Err UnfitValue))

-- What an attribute leaves, by what was read of it.
abbrev pub block-step : Settings → Option ℕ → Step
block-step held (Some n) = leaves (applied (Change.Block n) held)
block-step held None = ends

abbrev pub type_step : Settings → Option ℕ → Step
type_step held (Some n) = leaves (applied (Change.DataType n) held)
type_step held None = ends

abbrev pub code_step : (ℕ → Change) → Settings → Option ℕ → Step
code_step change held (Some n) = leaves (applied (change n) held)
code_step change held None = ends

abbrev pub scale_step : (Scale → Change) → Settings → Option Scale → Step
scale_step change held (Some x) = leaves (applied (change x) held)
scale_step change held None = ends

abbrev pub bits-step : (Bits → Change) → Settings → Option Bits → Step
bits-step change held (Some x) = leaves (applied (change x) held)
bits-step change held None = ends

module _ (little : Bool) (base held : Settings) (tag : ℕ) (v : List ℕ) {t : Option Attribute} (e : t ≡ tagged tag) where
  leaves-defined : {a : Attribute} {w : List ℕ} → t ≡ Some a → w ≡ v → step_by little base held tag v (tagged tag) ≡ leaves_by held (defined a little base w)
  unfolding step_by
  leaves-defined {a = a} f h = ap (step_by little base held tag v) (sym e ∙ f) ∙ ap (λ (x : List ℕ). leaves_by held (defined a little base x)) (sym h)

  -- A definition, whose value is kept as w, by what was read of it.
  pub leaves-block : {w : List ℕ} {r y : Option ℕ} → t ≡ Some Attribute.Block → w ≡ v → r ≡ block_read little base.block w → r ≡ y → step_by little base held tag v (tagged tag) ≡ block-step held y
  leaves-block {w = w} f h g q = leaves-defined f h ∙ sym (leaves_read Attribute.Block little base held w (block-step held) _ _ _ _ _ refl refl refl refl) ∙ ap (block-step held) (sym g ∙ q)

  pub leaves-class : {w : List ℕ} {r y : Option ℕ} → t ≡ Some Attribute.Class → w ≡ v → r ≡ code_read little base.class w → r ≡ y → step_by little base held tag v (tagged tag) ≡ code_step Change.Class held y
  leaves-class {w = w} f h g q = leaves-defined f h ∙ sym (leaves_read Attribute.Class little base held w (code_step Change.Class held) _ _ _ _ _ refl refl refl refl) ∙ ap (code_step Change.Class held) (sym g ∙ q)

  pub leaves-lead : {w : List ℕ} {r y : Option ℕ} → t ≡ Some Attribute.Lead → w ≡ v → r ≡ code_read little base.lead w → r ≡ y → step_by little base held tag v (tagged tag) ≡ code_step Change.Lead held y
  leaves-lead {w = w} f h g q = leaves-defined f h ∙ sym (leaves_read Attribute.Lead little base held w (code_step Change.Lead held) _ _ _ _ _ refl refl refl refl) ∙ ap (code_step Change.Lead held) (sym g ∙ q)

  pub leaves_type : {w : List ℕ} {r y : Option ℕ} → t ≡ Some Attribute.DataType → w ≡ v → r ≡ type_read base.datatype w → r ≡ y → step_by little base held tag v (tagged tag) ≡ type_step held y
  leaves_type {w = w} f h g q = leaves-defined f h ∙ sym (leaves_read Attribute.DataType little base held w (type_step held) _ _ _ _ _ refl refl refl refl) ∙ ap (type_step held) (sym g ∙ q)

  pub leaves-interval : {w : List ℕ} {r y : Option Scale} → t ≡ Some Attribute.Interval → w ≡ v → r ≡ scale_read last_interval_unit little base.interval w → r ≡ y → step_by little base held tag v (tagged tag) ≡ scale_step Change.Interval held y
  leaves-interval {w = w} f h g q = leaves-defined f h ∙ sym (leaves_read Attribute.Interval little base held w (scale_step Change.Interval held) _ _ _ _ _ refl refl refl refl) ∙ ap (scale_step Change.Interval held) (sym g ∙ q)

  pub leaves-resolution : {w : List ℕ} {r y : Option Scale} → t ≡ Some Attribute.Resolution → w ≡ v → r ≡ scale_read last_resolution_unit little base.resolution w → r ≡ y → step_by little base held tag v (tagged tag) ≡ scale_step Change.Resolution held y
  leaves-resolution {w = w} f h g q = leaves-defined f h ∙ sym (leaves_read Attribute.Resolution little base held w (scale_step Change.Resolution held) _ _ _ _ _ refl refl refl refl) ∙ ap (scale_step Change.Resolution held) (sym g ∙ q)

  pub leaves-offset : {w : List ℕ} {r y : Option Bits} → t ≡ Some Attribute.Offset → w ≡ v → r ≡ bits_read little base.offset w → r ≡ y → step_by little base held tag v (tagged tag) ≡ bits-step Change.Offset held y
  leaves-offset {w = w} f h g q = leaves-defined f h ∙ sym (leaves_read Attribute.Offset little base held w (bits-step Change.Offset held) _ _ _ _ _ refl refl refl refl) ∙ ap (bits-step Change.Offset held) (sym g ∙ q)

  pub leaves-null : {w : List ℕ} {r y : Option Bits} → t ≡ Some Attribute.Null → w ≡ v → r ≡ bits_read little base.null w → r ≡ y → step_by little base held tag v (tagged tag) ≡ bits-step Change.Null held y
  leaves-null {w = w} f h g q = leaves-defined f h ∙ sym (leaves_read Attribute.Null little base held w (bits-step Change.Null held) _ _ _ _ _ refl refl refl refl) ∙ ap (bits-step Change.Null held) (sym g ∙ q)

  -- Another item that the stretch may hold, or not.
  pub leaves-same : t ≡ None → stepped_over tag ≡ true → step_by little base held tag v (tagged tag) ≡ leaves held
  unfolding step_by
  leaves-same f g = ap (step_by little base held tag v) (sym e ∙ f) ∙ simp g

  pub leaves_nothing : t ≡ None → stepped_over tag ≡ false → step_by little base held tag v (tagged tag) ≡ ends
  unfolding step_by
  leaves_nothing f g = ap (step_by little base held tag v) (sym e ∙ f) ∙ simp g

-- ---- the place where it ends

-- A stretch from a place ends no later than what lies ahead, and so in the file where anything does.
pub ends-within : (s : List ℕ) (at : ℕ) (w : Within) {u : List ℕ} (k : ℕ) → u ≡ extent s at w → k ≤ length u → at < 2 ^ 64 → length s < 2 ^ 64 → at + k < 2 ^ 64
ends-within s at w {u = u} k e h l m = by_length_lem (ℕ_discrete (length u) 0)
  where
    by_length_lem : Dec (length u ≡ 0) → at + k < 2 ^ 64
    by_length_lem (yes z) = omega arith
    by_length_lem (no z) = omega (arith, extent_found s at w u e z)
