-- Laws of what a stretch counts.
--     passed_item_lem, -last, -short    what is left to count from a place on
--     counted, item_defines, item_other    one item more is counted
--     change_timed      a definition's time goes by its attribute
--     passed_part       the octets between two places
-- Assumes nothing.
use Rattle.std.specs.Prelude.{Result, Ok, Err, Option, Some, None}
use Rattle.heads.specs.declared.Fault.{Fault}
use Rattle.std.proofs.Common.{◌≡◌, ℕ, zero, suc, ◌+◌, ◌-◌, ◌%◌, ◌^◌, ◌<◌, ◌≤◌, Bool, true, not, eqb, List, [], ◌∷◌, length, get_or, take, drop, sym, refl, ap, ◌∙◌, subst, arith, length-drop, length-take, get_or-drop, get_or-take, drop-drop}
use Rattle.octets.proofs.Laws.{drop-take}
use Rattle.octets.proofs.Pick.{pick_cases}
use Rattle.settings.specs.declared.Settings.{Settings}
use Rattle.settings.specs.declared.Change.{Change}
use Rattle.settings.specs.Settings.{default_settings}
use Rattle.definitions.specs.declared.Attribute.{Attribute}
use Rattle.definitions.specs.Define.{tagged, length_fits, standing_in, change_of, in_range, defined}
use Rattle.dated.specs.declared.Times.{Times}
use Rattle.dated.specs.declared.Dates.{Dates}
use Rattle.dated.specs.Dated.{timed, root_defined}
use Rattle.passed.specs.declared.Passed.{Passed}
use Rattle.passed.specs.Passed.{passed_item, passed_in, passed_over}

-- ---- what octets count

passed_skip : (k : ℕ) (u : List ℕ) (x : Passed) → passed_in k u x ≡ passed_over (drop k u) x
unfolding passed_in
passed_skip zero u x = refl
passed_skip (suc k) [] x = refl
passed_skip (suc k) (o ∷ u) x = passed_skip k u x

passed_on : (u : List ℕ) (x : Passed) → 2 ≤ length u → passed_over u x ≡ passed_over (drop (2 + get_or u 1 0) u) (passed_item (tagged (get_or u 0 0)) x)
unfolding passed_in
passed_on [] x h = let z : ⊥ = omega arith in absurd z
passed_on (tag ∷ []) x h = let z : ⊥ = omega arith in absurd z
passed_on (tag ∷ n ∷ u) x h =
    let y = passed_item (tagged tag) x in
    passed_skip n u y ∙ ap (λ (v : List ℕ). passed_over v y) (drop-drop n 2 (tag ∷ n ∷ u))

passed_few : (u : List ℕ) (x : Passed) → length u < 2 → passed_over u x ≡ x
unfolding passed_in
passed_few [] x h = refl
passed_few (tag ∷ []) x h = refl
passed_few (tag ∷ n ∷ u) x h = let z : ⊥ = omega arith in absurd z

-- What is left to count from a place on.
module _ (u : List ℕ) (at : ℕ) (x : Passed) where
  pub passed_last : length u ≤ at + 1 → passed_over (drop at u) x ≡ x
  passed_last h = passed_few (drop at u) x (omega (arith, length-drop at u))

  pub passed_item_lem : {n : ℕ} {y : Passed} → at + 1 < length u → n ≡ get_or u (at + 1) 0 → y ≡ passed_item (tagged (get_or u at 0)) x → passed_over (drop at u) x ≡ passed_over (drop (at + 2 + n) u) y
  passed_item_lem {n} {y} h e f =
      let tag : get_or (drop at u) 0 0 ≡ get_or u at 0 = get_or-drop at u 0 0 ∙ ap (λ (k : ℕ). get_or u k 0) (let z : at + 0 ≡ at = omega arith in z) in
      let long : 2 + get_or (drop at u) 1 0 ≡ 2 + n = ap (λ (k : ℕ). 2 + k) (get_or-drop at u 1 0 ∙ sym e) in
      let place : at + (2 + n) ≡ at + 2 + n = omega arith in
      passed_on (drop at u) x (omega (arith, length-drop at u))
      ∙ (λ i. passed_over (drop (long i) (drop at u)) (passed_item (tagged (tag i)) x))
      ∙ (λ i. passed_over (drop-drop (2 + n) at u i) (sym f i))
      ∙ ap (λ (k : ℕ). passed_over (drop k u) y) place

  pub passed_short : {n : ℕ} {y : Passed} → at + 1 < length u → n ≡ get_or u (at + 1) 0 → length u - at - 2 < n → y ≡ passed_item (tagged (get_or u at 0)) x → passed_over (drop at u) x ≡ y
  passed_short {n} {y} h e l f = passed_item_lem h e f ∙ passed_few (drop (at + 2 + n) u) y (omega (arith, length-drop (at + 2 + n) u))

-- One item more, by the times and the numbers.
abbrev pub counted : Passed → Times → ℕ → ℕ → Bool → Passed
counted x times now items defines = record { dates = record { times = times; cleared = x.dates.cleared; now = now }; items = items; defines = defines }

module _ (tag : ℕ) (x : Passed) {t : Option Attribute} {times : Times} {now items : ℕ} {defines : Bool} (e : t ≡ tagged tag) (ei : items ≡ (x.items + 1) % 2 ^ 64) where
  pub item_defines : {a : Attribute} → t ≡ Some a → times ≡ timed (standing_in a default_settings) x.dates.now x.dates.times → now ≡ (x.dates.now + 1) % 2 ^ 32 → defines ≡ true → counted x times now items defines ≡ passed_item (tagged tag) x
  item_defines f et en ed = (λ i. counted x (et i) (en i) (ei i) (ed i)) ∙ ap (λ (z : Option Attribute). passed_item z x) (sym f ∙ e)

  pub item_other : t ≡ None → times ≡ x.dates.times → now ≡ x.dates.now → defines ≡ x.defines → counted x times now items defines ≡ passed_item (tagged tag) x
  item_other f et en ed = (λ i. counted x (et i) (en i) (ei i) (ed i)) ∙ ap (λ (z : Option Attribute). passed_item z x) (sym f ∙ e)

-- ---- a definition's time goes by its attribute

abbrev AsTimed : Attribute → Change → Type 0
AsTimed a c = (now : ℕ) (t : Times) → timed c now t ≡ timed (standing_in a default_settings) now t

both-timed : (a : Attribute) (little : Bool) (base : Settings) (v : List ℕ) → AsTimed a (standing_in a base) × AsTimed a (change_of a little v)
both-timed Attribute.Block little base v = (λ now t. refl, λ now t. refl)
both-timed Attribute.Class little base v = (λ now t. refl, λ now t. refl)
both-timed Attribute.Lead little base v = (λ now t. refl, λ now t. refl)
both-timed Attribute.DataType little base v = (λ now t. refl, λ now t. refl)
both-timed Attribute.Interval little base v = (λ now t. refl, λ now t. refl)
both-timed Attribute.Resolution little base v = (λ now t. refl, λ now t. refl)
both-timed Attribute.Offset little base v = (λ now t. refl, λ now t. refl)
both-timed Attribute.Null little base v = (λ now t. refl, λ now t. refl)

abbrev TimedBy : Attribute → Result Change Fault → Type 0
TimedBy a (Ok c) = AsTimed a c
TimedBy a (Err fault) = Unit {0}

defined-timed : (a : Attribute) (little : Bool) (base : Settings) (v : List ℕ) → TimedBy a (defined a little base v)
unfolding defined
defined-timed a little base v =
    let k = both-timed a little base v in
    pick_cases (TimedBy a) (not (length_fits a (length v))) (λ _. tt)
    (λ _. pick_cases (TimedBy a) (eqb (length v) 0) (λ _. k.0)
    (λ _. pick_cases (TimedBy a) (in_range (change_of a little v)) (λ _. k.1) (λ _. tt)))

pub change_timed : (a : Attribute) (little : Bool) (base : Settings) (v : List ℕ) {c : Change} → defined a little base v ≡ Ok c → (d : Dates) → root_defined (standing_in a default_settings) d ≡ root_defined c d
change_timed a little base v e d =
    let k = subst (TimedBy a) e (defined-timed a little base v) in
    (λ i. record { times = sym (k d.now d.times) i; cleared = d.cleared; now = (d.now + 1) % 2 ^ 32 })

-- ---- the octets between two places

-- The octets between two places count their first item, and then what is behind it.
pub passed_part : (s : List ℕ) (at to n : ℕ) (y : Passed) → at + 2 + n ≤ to → at + 2 ≤ length s → n ≡ get_or s (at + 1) 0
    → passed_over (take (to - at) (drop at s)) y ≡ passed_over (take (to - (at + 2 + n)) (drop (at + 2 + n) s)) (passed_item (tagged (get_or s at 0)) y)
passed_part s at to n y h l e =
    let u = take (to - at) (drop at s) in
    let first : (i : ℕ) → i < 2 → get_or u i 0 ≡ get_or s (at + i) 0 = λ i k. get_or-take (to - at) (drop at s) i 0 (omega arith) ∙ get_or-drop at s i 0 in
    let tag : get_or u 0 0 ≡ get_or s at 0 = first 0 (omega arith) ∙ ap (λ (k : ℕ). get_or s k 0) (let z : at + 0 ≡ at = omega arith in z) in
    let long : 2 + get_or u 1 0 ≡ 2 + n = ap (λ (k : ℕ). 2 + k) (first 1 (omega arith) ∙ sym e) in
    let left : to - at - (2 + n) ≡ to - (at + 2 + n) = omega arith in
    let place : at + (2 + n) ≡ at + 2 + n = omega arith in
    passed_on u y (omega (arith, length-take (to - at) (drop at s), length-drop at s))
    ∙ (λ i. passed_over (drop (long i) u) (passed_item (tagged (tag i)) y))
    ∙ ap (λ (v : List ℕ). passed_over v (passed_item (tagged (get_or s at 0)) y))
    (drop-take (2 + n) (to - at) (drop at s) ∙ (λ i. take (left i) (drop-drop (2 + n) at s i)) ∙ ap (λ (k : ℕ). take (to - (at + 2 + n)) (drop k s)) place)
