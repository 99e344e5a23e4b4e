-- An item whose head is read is refused by the first of the rows behind those of the head. A tag of the table goes the way of its entry: each entry is
-- looked at once, outside a group and inside one, and a tag without an entry is stepped over.
--     line_choice     a length, then a value, as every definition tests them
--     lines_take      every entry of the table
--     plain_first, member_first, group_first, mark_first    every kind of item
-- Assumes nothing.
use Rattle.heads.specs.declared.Fault.{Fault}
use Rattle.effects.specs.declared.Effect.{Effect}
use Rattle.std.specs.Prelude.{Result, Ok, Err, Some, None}
use Prim.Native.Nat.{ℕ, zero, suc, ◌-◌, ◌≤◌, ◌<◌, zero-le}
use mathlib.Core.Path.{◌≡◌, refl, sym, ◌∙◌}
use mathlib.Core.List.{List, [], ◌∷◌, map}
use mathlib.Core.Option.{Option, none, some}
use mathlib.Core.Bool.{Bool, true, false, not}
use native.Mathlib.Decide.{dec_lt, ℕ_discrete}
use native.Mathlib.Omega.{arith}
use borrow.Author.Tests.{lt-ltb, le-ltb, ne_eqb, le-leb, lt-leb, leb-true, eqb-true, ltb-false, not-false}
use lib.Dec.{ltb, leb, eqb}
use lib.ListN.{length, get_or, take, drop, length-drop}
use lib.Seq.{take_all}
use Rattle.octets.specs.Pick.{pick, both, either}
use Rattle.octets.specs.Number.{number_of, signed_of}
use Rattle.octets.proofs.Pick.{pick_cases, both_false}
use Rattle.heads.specs.declared.Refusal.{Refusal}
use Rattle.heads.specs.declared.Fault.TheVariants.{UnfitLength, UnfitValue, Compressed, ChannelNumber}
use Rattle.heads.specs.Head.{root_only}
use Rattle.items.specs.Walk.{refusal}
use Rattle.settings.specs.declared.Settings.{Settings}
use Rattle.settings.specs.declared.Change.{Change}
use Rattle.settings.specs.Settings.{channel_limit, default_settings}
use Rattle.definitions.specs.declared.Attribute.{Attribute}
use Rattle.definitions.specs.Define.{tagged, scale_length, bits_length, length_fits, scale_of, change_of, standing_in, in_range, defined}
use Rattle.effects.specs.Effects.{order_effect, count_effect, sequences_effect, start_effect, compressed_effect, all_effect, one_effect, root_effect, plain_effect, member_effect, group_effect}
use Rattle.verdict.specs.Verdict.{State, carried}
use Rattle.verdict.proofs.Every.{Every}
use Rattle.theorems.specs.Attributes.{Entry, entry, among, between, any, attributes, entry_in, entry_of}
use Rattle.theorems.specs.Rows.{Row, is_group, channel_named, value_in, uncounted, given, item_rows}
use Rattle.theorems.proofs.Due.{first_due}
use Rattle.theorems.proofs.HeadRows.{either_false}
use Rattle.theorems.proofs.FrameRows.{stopped, frame_first}

-- ---- tests that say the same

leb-not : (a b : ℕ) → leb a b ≡ not (ltb b a)
leb-not a b = by (dec_lt b a)
  where
    by : Dec (b < a) → leb a b ≡ not (ltb b a)
    by (yes h) = rw (lt-ltb b a h, lt-leb a b h)
    by (no h) = let k : a ≤ b = omega arith in rw (le-ltb b a k, le-leb a b k)

one_not : (n : ℕ) → leb 1 n ≡ not (eqb n 0)
one_not zero = refl
one_not (suc n) = rw (le-leb 1 (suc n) (omega arith), ne_eqb (suc n) 0 (λ e. omega arith))

from_zero : (high n : ℕ) → between 0 high n ≡ leb n high
from_zero high n = rw (le-leb 0 n zero-le)

zero_one : (n : ℕ) → among (0 ∷ 1 ∷ []) n ≡ leb n 1
zero_one zero = refl
zero_one (suc zero) = refl
zero_one (suc (suc n)) =
    rw (ne_eqb (suc (suc n)) 0 (λ e. omega arith), ne_eqb (suc (suc n)) 1 (λ e. omega arith), lt-leb (suc (suc n)) 1 (omega arith))

width_same : (n : ℕ) → among (0 ∷ 1 ∷ 2 ∷ 4 ∷ 8 ∷ []) n ≡ bits_length n
width_same zero = refl
width_same (suc zero) = refl
width_same (suc (suc zero)) = refl
width_same (suc (suc (suc n))) =
    let m = suc (suc (suc n)) in
    simp (ne_eqb m 0 (λ e. omega arith), ne_eqb m 1 (λ e. omega arith), ne_eqb m 2 (λ e. omega arith), lt-leb m 2 (omega arith), either_false)

-- ---- a definition

-- 6 or 7 at a place, by two tests; and what an entry gives there.
abbrev six_or_seven : ℕ → Bool → Bool → Option Refusal
six_or_seven at unfit bad = pick unfit (some (refusal UnfitLength at)) (pick bad (some (refusal UnfitValue at)) none)

abbrev line_answer : ℕ → Entry → Bool → List ℕ → Option Refusal
line_answer at l little v = six_or_seven at (not (l.lengths (length v))) (both (given v) (not (l.values little v)))

-- A entry has the lengths of an attribute, and of those lengths the values, as the tests have them.
abbrev Lengths : Attribute → Entry → Type 0
Lengths a l = (n : ℕ) → l.lengths n ≡ length_fits a n

abbrev Values : Attribute → Entry → Type 0
Values a l = (little : Bool) (v : List ℕ) → length_fits a (length v) ≡ true → l.values little v ≡ in_range (change_of a little v)

pick-not : {A : Type 0} (t : Bool) (a b : A) → pick t a b ≡ pick (not t) b a
pick-not true a b = refl
pick-not false a b = refl

not-not : (t : Bool) → not (not t) ≡ t
not-not true = refl
not-not false = refl

module _ (at : ℕ) (l : Entry) (little : Bool) (v : List ℕ) {A : Type 0} (answer : A → Option Refusal)
    (unfit bad : A) (six : answer unfit ≡ some (refusal UnfitLength at)) (seven : answer bad ≡ some (refusal UnfitValue at)) where
  -- Refused for its length where t holds, back to what stands where it has none, refused for its value where b holds.
  line_choice : (t b : Bool) (e f : A) → answer e ≡ none → answer f ≡ none → l.lengths (length v) ≡ not t → (t ≡ false → l.values little v ≡ not b)
      → answer (pick t unfit (pick (eqb (length v) 0) e (pick b bad f))) ≡ line_answer at l little v
  line_choice true b e f p q n m = rw n six
  line_choice false b e f p q n m = rw (n, m refl) (by (eqb (length v) 0) b)
    where
      by : (z b : Bool) → answer (pick z e (pick b bad f)) ≡ pick (both (not z) (not (not b))) (some (refusal UnfitValue at)) none
      by true b = p
      by false true = seven
      by false false = q

-- ---- the lines of the table

short_mantissa : (v : List ℕ) → scale_length (length v) ≡ true → take 4 (drop 2 v) ≡ drop 2 v
short_mantissa v h = take_all 4 (drop 2 v) (rw length-drop (by (eqb (length v) 0) (leb 3 (length v)) (leb (length v) 6) refl refl h))
  where
    by : (z a b : Bool) → eqb (length v) 0 ≡ z → leb (length v) 6 ≡ b → either z (both a b) ≡ true → length v - 2 ≤ 4
    by true a b z e t = omega (arith, eqb-true (length v) 0 z)
    by false true true z e t = omega (arith, leb-true (length v) 6 e)
    by false true false z e t = let w : ◌≡◌ {A = ℕ} 0 1 = cc in omega arith
    by false false b z e t = let w : ◌≡◌ {A = ℕ} 0 1 = cc in omega arith

pick-either : {A : Type 0} (b c : Bool) (a f : A) → pick b a (pick c a f) ≡ pick (either b c) a f
pick-either true c a f = refl
pick-either false c a f = refl

both_nots : (b c : Bool) → both (not b) (not c) ≡ not (either b c)
both_nots true c = refl
both_nots false c = refl

-- A tag is none of the lines'.
abbrev Apart : ℕ → List Entry → Type 0
Apart tag ls = (t : ℕ) → among (map (λ (l : Entry). l.tag) ls) t ≡ true → eqb tag t ≡ false

apart_more : (tag : ℕ) (l : Entry) (ls : List Entry) → eqb tag l.tag ≡ false → Apart tag ls → Apart tag (l ∷ ls)
apart_more tag l ls e n t h = by (eqb t l.tag) refl h
  where
    by : (b : Bool) → eqb t l.tag ≡ b → either b (among (map (λ (l : Entry). l.tag) ls) t) ≡ true → eqb tag t ≡ false
    by true q m = rw (eqb-true t l.tag q) e
    by false q m = n t m

-- What holds of every entry at its tag, and of a tag that has none, holds of every tag with its entry.
line_law : (P : ℕ → Entry → Type 0) (ls : List Entry) (tag : ℕ) → Every (λ l. P l.tag l) ls → (Apart tag ls → P tag (entry tag (λ n. true) any)) → P tag (entry_in ls tag)
unfolding entry_in
line_law P [] tag e o = o (λ t h. let z : ◌≡◌ {A = ℕ} 0 1 = cc in let w : ⊥ = omega arith in absurd w)
line_law P (l ∷ ls) tag e o =
    pick_cases (P tag) (eqb tag l.tag) (λ t. rw (eqb-true tag l.tag t) e.0)
    (λ t. line_law P ls tag e.1 (λ n. o (apart_more tag l ls t n)))

module _ (s : List ℕ) (x : State) (at : ℕ) (v : List ℕ) where
  abbrev carried_out : Result Effect Fault → Option Refusal
  carried_out e = stopped at (carried s x e)

  abbrev entry_answer : Entry → Option Refusal
  entry_answer l = line_answer at l x.standing.little v

  -- A tag goes the way of an entry, outside a group and inside one.
  record Takes (tag : ℕ) (l : Entry) : Type 0 where
    plain : (start : ℕ) → carried_out (plain_effect x.standing tag start v (tagged tag)) ≡ entry_answer l
    member : root_only tag ≡ false → (channel : ℕ) → carried_out (member_effect x.standing channel v (tagged tag)) ≡ entry_answer l

  -- An attribute of a channel, as a definition outside a group or inside one carries it.
  module _ (a : Attribute) (l : Entry) (tag : tagged l.tag ≡ Some a) (lengths : Lengths a l) (values : Values a l) where
    defined_line : (f : Result Change Fault → (Result Effect Fault)) → ((n : Fault) → carried_out (f (Err n)) ≡ some (refusal n at)) → ((c : Change) → carried_out (f (Ok c)) ≡ none) → (base : Settings) → carried_out (f (defined a x.standing.little base v)) ≡ entry_answer l
    unfolding defined
    defined_line f stops leads base =
        let little = x.standing.little in
        let c = change_of a little v in
        rw (pick-not (in_range c) (Ok c) (Err UnfitValue))
        (line_choice at l little v (λ d. carried_out (f d)) (Err UnfitLength) (Err UnfitValue) (stops UnfitLength) (stops UnfitValue)
        (not (length_fits a (length v))) (not (in_range c)) (Ok (standing_in a base)) (Ok c) (leads (standing_in a base)) (leads c)
        (lengths (length v) ∙ sym (not-not (length_fits a (length v))))
        (λ t. values little v (not-false (length_fits a (length v)) t) ∙ sym (not-not (in_range c))))

    attribute_takes : Takes l.tag l
    unfolding plain_effect member_effect all_effect one_effect carried
    attribute_takes =
        record {
          plain = λ start. rw tag (defined_line all_effect (λ n. refl) (λ c. refl) default_settings);
          member = λ f channel. rw tag (defined_line (one_effect channel) (λ n. refl) (λ c. refl) x.standing.root);
        }

  -- A tag that stands only outside groups.
  root_takes : (l : Entry) → root_only l.tag ≡ true → ((start : ℕ) → carried_out (plain_effect x.standing l.tag start v (tagged l.tag)) ≡ entry_answer l) → Takes l.tag l
  root_takes l r e = record { plain = e; member = λ f channel. let z : ◌≡◌ {A = ℕ} 0 1 = cc in let w : ⊥ = omega arith in absurd w }

  root_choice : (l : Entry) (t b : Bool) (e f : Result Effect Fault) → carried_out e ≡ none → carried_out f ≡ none → l.lengths (length v) ≡ not t → (t ≡ false → l.values x.standing.little v ≡ not b)
      → carried_out (pick t (Err UnfitLength) (pick (eqb (length v) 0) e (pick b (Err UnfitValue) f))) ≡ entry_answer l
  unfolding carried
  root_choice l = line_choice at l x.standing.little v carried_out (Err UnfitLength) (Err UnfitValue) refl refl

  order_line : carried_out (order_effect v) ≡ entry_answer (entry_of 0x01)
  unfolding order_effect entry_in carried
  order_line =
      root_choice (entry_of 0x01) (ltb 1 (length v)) (ltb 1 (get_or v 0 0)) (Ok (Effect.Order false)) (Ok (Effect.Order (eqb (get_or v 0 0) 1))) refl refl
      (zero_one (length v) ∙ leb-not (length v) 1) (λ t. leb-not (get_or v 0 0) 1)

  abbrev number : ℕ
  number = number_of x.standing.little (take 4 v)

  up_to_four : between 0 4 (length v) ≡ not (ltb 4 (length v))
  up_to_four = from_zero 4 (length v) ∙ leb-not (length v) 4

  whole : ltb 4 (length v) ≡ false → number_of x.standing.little v ≡ number
  whole t = rw (take_all 4 v (ltb-false 4 (length v) t))

  count_line : carried_out (count_effect x.standing.little v) ≡ entry_answer (entry_of 0x05)
  unfolding count_effect entry_in carried
  count_line =
      rw (pick-either (eqb number 0) (ltb channel_limit number) (Err UnfitValue) (Ok (Effect.Count number)))
      (root_choice (entry_of 0x05) (ltb 4 (length v)) (either (eqb number 0) (ltb channel_limit number)) (Ok (Effect.Count 0)) (Ok (Effect.Count number)) refl refl
      up_to_four (λ t. rw (whole t, one_not number, leb-not number channel_limit) (both_nots (eqb number 0) (ltb channel_limit number))))

  sequences_line : carried_out (sequences_effect x.standing.little v) ≡ entry_answer (entry_of 0x06)
  unfolding sequences_effect entry_in carried
  sequences_line =
      root_choice (entry_of 0x06) (ltb 4 (length v)) (eqb number 0) (Ok (Effect.Sequences 0)) (Ok (Effect.Sequences number)) refl refl
      up_to_four (λ t. rw (whole t, one_not number))

  start_line : carried_out (start_effect x.standing.little x.standing.continued v) ≡ entry_answer (entry_of 0x07)
  unfolding start_effect entry_in carried
  start_line =
      root_choice (entry_of 0x07) (ltb 4 (length v)) false (Ok (Effect.Start x.standing.continued)) (Ok (Effect.Start (signed_of x.standing.little (take 4 v)))) refl refl
      up_to_four (λ t. refl)

  lines_take : Every (λ l. Takes l.tag l) attributes
  unfolding tagged plain_effect root_effect root_only entry_in scale_of
  lines_take = (
    root_takes (entry_of 0x01) refl (λ start. order_line),
    (
      attribute_takes Attribute.Block (entry_of 0x04) refl (from_zero 4) (λ little u h. rw (take_all 4 u (leb-true (length u) 4 h))),
      (
        root_takes (entry_of 0x05) refl (λ start. count_line),
        (
          root_takes (entry_of 0x06) refl (λ start. sequences_line),
          (
            root_takes (entry_of 0x07) refl (λ start. start_line),
            (
              attribute_takes Attribute.Class (entry_of 0x08) refl (from_zero 34) (λ little u h. refl),
              (
                attribute_takes Attribute.Lead (entry_of 0x09) refl (from_zero 34) (λ little u h. refl),
                (
                  attribute_takes Attribute.DataType (entry_of 0x0A) refl zero_one (λ little u h. refl),
                  (
                    attribute_takes Attribute.Interval (entry_of 0x0B) refl (λ n. refl) (λ little u h. rw (short_mantissa u h)),
                    (
                      attribute_takes Attribute.Resolution (entry_of 0x0C) refl (λ n. refl) (λ little u h. rw (short_mantissa u h)),
                      (
                        attribute_takes Attribute.Offset (entry_of 0x0D) refl width_same (λ little u h. refl),
                        (
                          attribute_takes Attribute.Null (entry_of 0x12) refl width_same (λ little u h. refl),
                          tt,
                        ),
                      ),
                    ),
                  ),
                ),
              ),
            ),
          ),
        ),
      ),
    ),
  )

  -- A tag that has no entry, and is neither 0E nor 1E, is stepped over.
  other_takes : (tag : ℕ) → Apart tag attributes → eqb tag 0x0E ≡ false → eqb tag 0x1E ≡ false → Takes tag (entry tag (λ n. true) any)
  unfolding tagged plain_effect member_effect root_effect carried
  other_takes tag n c w =
      let other : tagged tag ≡ None =
      simp (n 0x04 refl, n 0x08 refl, n 0x09 refl, n 0x0A refl, n 0x0B refl, n 0x0C refl, n 0x0D refl, n 0x12 refl) in
      let none-due : entry_answer (entry tag (λ n. true) any) ≡ none = rw (both_false (given v)) in
      record {
        plain = λ start. rw other (simp (n 0x01 refl, n 0x05 refl, n 0x06 refl, n 0x07 refl, c, w) (sym none-due));
        member = λ f channel. rw other (sym none-due);
      }

  tag_takes : (tag : ℕ) → eqb tag 0x0E ≡ false → eqb tag 0x1E ≡ false → Takes tag (entry_of tag)
  tag_takes tag c w = line_law Takes attributes tag lines_take (λ n. other_takes tag n c w)

-- ---- every item

-- The rows behind those of the head.
abbrev pub body_rows : State → ℕ → Bool → ℕ → List ℕ → List Row
body_rows x at inside tag u = drop 6 (item_rows x at inside tag u)

module _ (s : List ℕ) (x : State) (at : ℕ) (u : List ℕ) where
  pub mark_first : none ≡ first_due (body_rows x at true 0x00 u)
  unfolding item_rows entry_in
  mark_first = simp both_false

  compressed_first : stopped at (carried s x (compressed_effect (value_in u))) ≡ first_due (body_rows x at false 0x0E u)
  unfolding compressed_effect carried item_rows entry_in
  compressed_first = rw (both_false (given (value_in u))) (by (eqb (length (value_in u)) 0))
    where
      by : (z : Bool) → stopped at (carried s x (pick z (Ok Effect.Pass) (Err Compressed))) ≡ pick (not z) (some (refusal Compressed at)) none
      by true = refl
      by false = refl

  waveform_first : (start : ℕ) → stopped at (carried s x (Ok (Effect.Frame start (length (value_in u))))) ≡ first_due (body_rows x at false 0x1E u)
  unfolding item_rows entry_in
  waveform_first start = rw (both_false (given (value_in u))) (frame_first s x at start u)

  pub group_first : (inside : Bool) (tag : ℕ) → is_group tag ≡ true → stopped at (carried s x (group_effect x.standing (channel_named u))) ≡ first_due (body_rows x at inside tag u)
  unfolding group_effect carried item_rows entry_in
  group_first inside tag g =
      rw (eqb-true tag 0x3F g, leb-not x.standing.counted (channel_named u))
      (simp both_false (by (uncounted x) (ltb (channel_named u) x.standing.counted)))
    where
      by : (z t : Bool) → stopped at (carried s x (pick z (Ok Effect.Pass) (pick t (Ok Effect.Pass) (Err ChannelNumber)))) ≡ pick (both (not z) (not t)) (some (refusal ChannelNumber at)) none
      by true t = refl
      by false true = refl
      by false false = refl

  pub plain_first : (start tag : ℕ) → is_group tag ≡ false → stopped at (carried s x (plain_effect x.standing tag start (value_in u) (tagged tag))) ≡ first_due (body_rows x at false tag u)
  unfolding tagged plain_effect root_effect item_rows
  plain_first start tag g = by (ℕ_discrete tag 0x0E) (ℕ_discrete tag 0x1E)
    where
      by : Dec (tag ≡ 0x0E) → Dec (tag ≡ 0x1E) → stopped at (carried s x (plain_effect x.standing tag start (value_in u) (tagged tag))) ≡ first_due (body_rows x at false tag u)
      by (yes e) w = rw e compressed_first
      by (no c) (yes e) = rw e (waveform_first start)
      by (no c) (no w) =
          let c0E = ne_eqb tag 0x0E c in
          let w1E = ne_eqb tag 0x1E w in
          rw (c0E, w1E, g) ((tag_takes s x at (value_in u) tag c0E w1E).plain start)

  -- A tag that may stand in a group is none of those that may not.
  unbarred : (tag t : ℕ) → root_only tag ≡ false → root_only t ≡ true → eqb tag t ≡ false
  unbarred tag t f h = ne_eqb tag t (λ e. let r : root_only tag ≡ true = rw e h in let z : ◌≡◌ {A = ℕ} 0 1 = cc in omega arith)

  pub member_first : (channel tag : ℕ) → is_group tag ≡ false → root_only tag ≡ false → stopped at (carried s x (pick (uncounted x) (Ok Effect.Pass) (member_effect x.standing channel (value_in u) (tagged tag)))) ≡ first_due (body_rows x at true tag u)
  unfolding item_rows root_only carried
  member_first channel tag g f =
      let c = unbarred tag 0x0E f refl in
      let w = unbarred tag 0x1E f refl in
      rw (c, g, w)
      (by (uncounted x) (member_effect x.standing channel (value_in u) (tagged tag)) _ _ ((tag_takes s x at (value_in u) tag c w).member f channel))
    where
      by : (z : Bool) (e : Result Effect Fault) (a b : Bool) → stopped at (carried s x e) ≡ six_or_seven at a b → stopped at (carried s x (pick z (Ok Effect.Pass) e)) ≡ six_or_seven at (both (not z) a) (both (not z) b)
      by true e a b h = refl
      by false e a b h = h
