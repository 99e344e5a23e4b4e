-- What the items of a stretch ask for, one by one, and what holds behind all of them.
--     short_form                a head with a length of one octet
--     root_asks, group_asks     each item asks for the change of its definition, or for nothing
--     stretch_law               what each item keeps holds behind the stretch
--     stretch-inside            it ends in the octets
-- Assumes nothing.
use Rattle.heads.specs.declared.Fault.{Fault}
use Rattle.effects.specs.declared.Effect.{Effect}
use Rattle.heads.specs.declared.ItemHead.{ItemHead}
use Rattle.heads.specs.declared.Length.{Length}
use Rattle.std.specs.Prelude.{Ok, Option, Some, None, Result}
use mathlib.Core.Path.{◌≡◌, refl, sym, ap, subst, ◌∙◌}
use mathlib.Core.List.{List}
use mathlib.Core.Bool.{Bool, true, false}
use mathlib.Core.Logic.{◌⊎◌, inl, inr, ⊎_elim}
use Prim.Native.Nat.{ℕ, zero, suc, ◌+◌, ◌≤◌}
use native.Mathlib.Omega.{arith}
use borrow.Author.Tests.{eqb-true, eqb-false}
use lib.Dec.{eqb}
use lib.ListN.{length, get_or, drop, length-drop}
use lib.Seq.{get_or-drop, drop-drop}
use Rattle.octets.specs.Pick.{pick, both}
use Rattle.octets.proofs.Pick.{pick_cases, both_false}
use Rattle.heads.specs.Head.{root_only, primitive_form, form_of}
use Rattle.heads.proofs.Heads.{length_short, form_primitive}
use Rattle.items.specs.declared.Within.{Within}
use Rattle.items.specs.declared.Item.{Item}
use Rattle.items.specs.Walk.{cursor}
use Rattle.settings.specs.declared.Settings.{Settings}
use Rattle.settings.specs.declared.Change.{Change}
use Rattle.settings.specs.Settings.{default_settings, applied}
use Rattle.definitions.specs.declared.Attribute.{Attribute}
use Rattle.definitions.specs.Define.{tagged, defined}
use Rattle.standing.specs.declared.Standing.{Standing}
use Rattle.effects.specs.Effects.{value_at, all_effect, one_effect, root_effect, plain_effect, member_effect, effect_of}
use Rattle.stretch.specs.declared.Stretch.{Stretch}
use Rattle.stretch.specs.Stretch.{Step, leaves, ends, step_of, stretch, onward, run_from, run_of, stretch_of}
use Rattle.stretch.proofs.Leads.{Ordinary, InStretch, step_led}
use Rattle.ahead.specs.Ahead.{item_here, InGroup}

-- ---- one item

pub short_form : (inside : Bool) (u : List ℕ) → Ordinary (get_or u 0 0) → 2 + get_or u 1 0 ≤ length u → get_or u 1 0 ≤ 127 → form_of inside u ≡ Ok (Some (ItemHead.Primitive (get_or u 0 0) 2 (get_or u 1 0)))
unfolding primitive_form
short_form inside u o l h =
    let d = length-drop 1 u in
    let g = get_or-drop 1 u 0 0 in
    sym (form_primitive inside u (λ z. let x : ⊥ = omega arith in x) o.known (ap (both inside) o.anywhere ∙ both_false inside) (eqb-false (get_or u 0 0) 0x3F o.single))
    ∙ ap (primitive_form (get_or u 0 0)) (sym (length_short (drop 1 u) (λ z. let x : ⊥ = omega arith in x) (omega arith)) ∙ ap (λ (k : ℕ). Ok (Some (Length.Known k 1))) g)

-- By its tag it asks for the change of its definition, which leaves the settings x, or for nothing.
abbrev pub Asks : List ℕ → Within → Standing → (Change → (Result Effect Fault)) → Settings → ℕ → Settings → Settings → Type 0
Asks u w st asks base place held x =
    let tag = get_or u 0 0 in
    let n = get_or u 1 0 in
    let e = effect_of u st (item_here w place tag 2 n) in
    ((a : Attribute) × (c : Change) × (tagged tag ≡ Some a) × (defined a st.little base (value_at u 2 n) ≡ Ok c) × (e ≡ asks c) × (x ≡ applied c held))
    ⊎ ((tagged tag ≡ None) × (e ≡ (Ok Effect.Pass)) × (x ≡ held))

module _ (u : List ℕ) (st : Standing) where
  abbrev tag : ℕ
  tag = get_or u 0 0

  abbrev long : ℕ
  long = get_or u 1 0

  asks_by : (w : Within) (asks : Change → (Result Effect Fault)) (base : Settings) (place : ℕ) (held x : Settings) → InStretch st.little base held u x
      → ((a : Attribute) (c : Change) → tagged tag ≡ Some a → defined a st.little base (value_at u 2 long) ≡ Ok c → effect_of u st (item_here w place tag 2 long) ≡ asks c)
      → (tagged tag ≡ None → effect_of u st (item_here w place tag 2 long) ≡ (Ok Effect.Pass))
      → Asks u w st asks base place held x
  asks_by w asks base place held x p defines passes =
      ⊎_elim (λ q. inl (q.0, q.1, q.2, q.3, defines q.0 q.1 q.2 q.3, q.4)) (λ q. inr (q.0, passes q.0, q.1)) p.does

  -- Outside groups.
  abbrev Truth : Bool → Type 0
  Truth true = Unit {0}
  Truth false = ⊥

  root_passes : (start : ℕ) (v : List ℕ) → root_only tag ≡ false → root_effect st tag start v ≡ (Ok Effect.Pass)
  unfolding root_effect root_only
  root_passes start v f =
      pick_cases Done (eqb tag 0x01) (λ q. absurd (bar 0x01 tt q))
      (λ _. pick_cases Done (eqb tag 0x05) (λ q. absurd (bar 0x05 tt q))
      (λ _. pick_cases Done (eqb tag 0x06) (λ q. absurd (bar 0x06 tt q))
      (λ _. pick_cases Done (eqb tag 0x07) (λ q. absurd (bar 0x07 tt q))
      (λ _. pick_cases Done (eqb tag 0x0E) (λ q. absurd (bar 0x0E tt q))
      (λ _. pick_cases Done (eqb tag 0x1E) (λ q. absurd (bar 0x1E tt q))
      (λ _. refl))))))
    where
      Done : Result Effect Fault → Type 0
      Done x = x ≡ (Ok Effect.Pass)

      bar : (k : ℕ) → Truth (root_only k) → eqb tag k ≡ true → ⊥
      bar k t q = subst Truth (ap root_only (sym (eqb-true tag k q)) ∙ f) t

  pub root_asks : (place : ℕ) (held x : Settings) → InStretch st.little default_settings held u x → Asks u Within.Root st (λ d. Ok (Effect.All d)) default_settings place held x
  unfolding effect_of plain_effect all_effect item_here
  root_asks place held x p =
      let v = value_at u 2 long in
      asks_by Within.Root (λ d. Ok (Effect.All d)) default_settings place held x p
      (λ a c e f. ap (plain_effect st tag 2 v) e ∙ ap all_effect f)
      (λ e. ap (plain_effect st tag 2 v) e ∙ root_passes 2 v p.ordinary.anywhere)

  -- In a group of a channel, where a channel count stands.
  module _ (channel : ℕ) (z : eqb st.counted 0 ≡ false) where
    member_here : (w : Within) → InGroup w channel → (place : ℕ) → eqb tag 0 ≡ false → item_here w place tag 2 long ≡ Item.Member place channel tag 2 long
    unfolding item_here
    member_here Within.Root g place o = absurd g
    member_here (Within.Definite k end) g place o = ap (λ (j : ℕ). Item.Member place j tag 2 long) g
    member_here (Within.Open k group) g place o = simp o (ap (λ (j : ℕ). Item.Member place j tag 2 long) g)

    member_asks : (place : ℕ) {t : Option Attribute} → tagged tag ≡ t → effect_of u st (Item.Member place channel tag 2 long) ≡ member_effect st channel (value_at u 2 long) t
    unfolding effect_of
    member_asks place e = (λ i. pick (z i) (Ok Effect.Pass) (member_effect st channel (value_at u 2 long) (e i)))

    pub group_asks : (w : Within) → InGroup w channel → (place : ℕ) (held x : Settings) → InStretch st.little st.root held u x → Asks u w st (λ d. Ok (Effect.One channel d)) st.root place held x
    unfolding member_effect one_effect
    group_asks w g place held x p =
        let item = ap (effect_of u st) (member_here w g place p.ordinary.nonzero) in
        asks_by w (λ d. Ok (Effect.One channel d)) st.root place held x p
        (λ a c e f. item ∙ member_asks place e ∙ ap (one_effect channel) f)
        (λ e. item ∙ member_asks place e)

-- ---- all items

module _ (q : List ℕ) (little : Bool) (base : Settings) (P : ℕ → Settings → Type 0)
    (one : (at : ℕ) (held x : Settings) → InStretch little base held (drop at q) x → P at held → P (at + (2 + get_or (drop at q) 1 0)) x) where
  abbrev Kept : Stretch → Type 0
  Kept t = P t.at t.settings

  run_law : (turns at : ℕ) (held : Settings) → P at held → Kept (run_from turns little base at held (drop at q))
  unfolding run_from onward
  run_law zero at held p = p
  run_law (suc turns) at held p = by (λ y r. run_law turns (at + k) y r) (step_of little base held u) refl
    where
      u : List ℕ
      u = drop at q

      k : ℕ
      k = 2 + get_or u 1 0

      by : ((y : Settings) → P (at + k) y → Kept (run_from turns little base (at + k) y (drop (at + k) q))) → (x : Step) → step_of little base held u ≡ x
          → Kept (onward (λ y. run_from turns little base (at + k) y (drop k u)) (stretch at held) x)
      by more ends e = p
      by more (leaves y) e =
          subst (λ (v : List ℕ). Kept (run_from turns little base (at + k) y v)) (sym (drop-drop k at q))
          (more y (one at held y (step_led little base held u e) p))

  pub stretch_law : (held : Settings) {t : Stretch} → t ≡ stretch_of q (cursor 0 Within.Root) little base held → P 0 held → P t.at t.settings
  unfolding stretch_of run_of
  stretch_law held e p =
      let r = run_from (length q) little base 0 held q in
      let z : r.at ≡ 0 + r.at = omega arith in
      subst Kept (sym e) (subst (λ (n : ℕ). P n r.settings) z (run_law (length q) 0 held p))

-- A stretch ends in the octets.
pub stretch-inside : (q : List ℕ) (little : Bool) (base held : Settings) {t : Stretch} → t ≡ stretch_of q (cursor 0 Within.Root) little base held → t.at ≤ length q
stretch-inside q little base held e =
    stretch_law q little base (λ at x. at ≤ length q) (λ at y x p l. omega (arith, p.long, length-drop at q)) held e (omega arith)
