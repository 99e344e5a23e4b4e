-- A stretch leads where its items lead one by one.
--     stretch_law       for any state that depends on one record and that each item of a stretch changes as it should
--     root_law          outside groups, where every channel holds the root settings
--     group_law         in a group, the record of its channel
--     begins_root, opened_group, group_entered    where the pass takes a stretch
-- Assumes nothing.
use Rattle.heads.specs.declared.Fault.{Fault}
use Rattle.effects.specs.declared.Effect.{Effect}
use Rattle.heads.specs.declared.ItemHead.{ItemHead}
use Rattle.std.specs.Prelude.{Result, Ok, Err, Option, Some, None}
use Rattle.heads.specs.declared.Refusal.{Refusal}
use mathlib.Core.Path.{◌≡◌, refl, sym, ap, subst, ◌∙◌}
use mathlib.Core.List.{List, [], ◌∷◌}
use mathlib.Core.Bool.{Bool, true, false}
use mathlib.Core.Logic.{⊎_elim}
use Prim.Native.Nat.{ℕ, zero, suc, ◌+◌, ◌≤◌, ◌<◌}
use native.Mathlib.Nat.{add-zero, add_assoc}
use native.Mathlib.Omega.{arith}
use borrow.Author.Tests.{ltb-true, ltb-false, eqb-true, ne_eqb}
use lib.Dec.{eqb, ltb}
use lib.ListN.{length, get_or, take, drop, set, replicate}
use lib.Seq.{set-set, get_or-set_same}
use Rattle.octets.specs.Pick.{pick}
use Rattle.octets.proofs.Pick.{pick_cases}
use Rattle.items.specs.declared.Item.{Item}
use Rattle.items.specs.declared.Item.TheVariants.{Plain, Member}
use Rattle.items.specs.declared.Within.{Within}
use Rattle.items.specs.declared.Cursor.{Cursor}
use Rattle.heads.specs.Head.{root_only, head_of}
use Rattle.items.specs.Walk.{cursor, stands_in, is_inside, extent, ends_open, ended, item_of, next_in, next_of}
use Rattle.settings.specs.declared.Settings.{Settings}
use Rattle.definitions.specs.declared.Attribute.{Attribute}
use Rattle.settings.specs.declared.Change.{Change}
use Rattle.settings.specs.Settings.{channel_limit, default_settings, zero_settings, applied, all_applied}
use Rattle.definitions.specs.Define.{tagged, defined}
use Rattle.settings.proofs.Repeats.{map-replicate}
use Rattle.layout.specs.Frame.{Frame}
use Rattle.standing.specs.declared.Standing.{Standing}
use Rattle.standing.specs.Standing.{with_root}
use Rattle.effects.specs.Effects.{value_at, all_effect, one_effect, root_effect, plain_effect, member_effect, group_effect, effect_of}
use Rattle.stretch.specs.declared.Stretch.{Stretch}
use Rattle.stretch.specs.Stretch.{Step, leaves, ends, stepped_over, step_of, stretch, onward, run_from, run_of, stretch_of}
use Rattle.stretch.proofs.Leads.{InStretch, item_in, step_led, next_short, value-ahead, extent-later}
use Rattle.verdict.specs.Verdict.{State, state, goes, one_changed, carried}
use Rattle.verdict.specs.Reached.{Reached, behind}
use Rattle.pass.specs.Passing.{opened_by, begins_at}
use Rattle.verdict.proofs.Keeps.{meaning}

module _ (s : List ℕ) (w : Within) (little : Bool) (base : Settings) (X : Settings → State)
    (defines : (held : Settings) (at tag n : ℕ) (a : Attribute) (c : Change) → tagged tag ≡ Some a → defined a little base (value_at s (at + 2) n) ≡ Ok c → meaning s (X held) (item_in w at tag n) ≡ goes (X (applied c held)))
    (passes : (held : Settings) (at tag n : ℕ) → tagged tag ≡ None → root_only tag ≡ false → meaning s (X held) (item_in w at tag n) ≡ goes (X held)) where
  -- One item.
  one_law : (at : ℕ) (held x : Settings) → InStretch little base held (extent s at w) x → Reached s (X held) (cursor at w) → Reached s (X x) (cursor (at + 2 + get_or (extent s at w) 1 0) w)
  one_law at held x p r = behind r (next_short s at w p.ordinary p.long p.short) (⊎_elim by_definition by_nothing p.does)
    where
      tag : ℕ
      tag = get_or (extent s at w) 0 0

      n : ℕ
      n = get_or (extent s at w) 1 0

      by_definition : ((a : Attribute) × (c : Change) × (tagged tag ≡ Some a) × (defined a little base (take n (drop 2 (extent s at w))) ≡ Ok c) × (x ≡ applied c held)) → meaning s (X held) (item_in w at tag n) ≡ goes (X x)
      by_definition q = defines held at tag n q.0 q.1 q.2 (ap (defined q.0 little base) (value-ahead s at w n p.long) ∙ q.3) ∙ ap (λ (y : Settings). goes (X y)) (sym q.4)

      by_nothing : ((tagged tag ≡ None) × (x ≡ held)) → meaning s (X held) (item_in w at tag n) ≡ goes (X x)
      by_nothing q = passes held at tag n q.0 p.ordinary.anywhere ∙ ap (λ (y : Settings). goes (X y)) (sym q.1)

  -- From the place before a stretch the file's items lead behind it.
  abbrev LeadsBehind : ℕ → ℕ → Settings → Stretch → Type 0
  LeadsBehind from taken held t = Reached s (X held) (cursor (from + taken) w) → Reached s (X t.settings) (cursor (from + t.at) w)

  run_law : (turns from taken : ℕ) (held : Settings) → LeadsBehind from taken held (run_from turns little base taken held (extent s (from + taken) w))
  unfolding run_from onward
  run_law zero from taken held r = r
  run_law (suc turns) from taken held r = by (λ y. run_law turns from (taken + k) y) (step_of little base held u) refl r
    where
      u : List ℕ
      u = extent s (from + taken) w

      k : ℕ
      k = 2 + get_or u 1 0

      by : ((y : Settings) → LeadsBehind from (taken + k) y (run_from turns little base (taken + k) y (extent s (from + (taken + k)) w))) → (x : Step) → step_of little base held u ≡ x → LeadsBehind from taken held (onward (λ y. run_from turns little base (taken + k) y (drop k u)) (stretch taken held) x)
      by more ends e r = r
      by more (leaves y) e r =
          let q : from + taken + 2 + get_or u 1 0 ≡ from + (taken + k) = omega arith in
          subst (λ (v : List ℕ). LeadsBehind from (taken + k) y (run_from turns little base (taken + k) y v))
          (ap (λ (j : ℕ). extent s j w) (sym (add_assoc from taken k)) ∙ sym (extent-later s (from + taken) w k))
          (more y)
          (subst (λ (j : ℕ). Reached s (X y) (cursor j w)) q (one_law (from + taken) held y (step_led little base held u e) r))

  stretch_law : (at : ℕ) (held : Settings) (t : Stretch) → t ≡ stretch_of s (cursor at w) little base held → Reached s (X held) (cursor at w) → Reached s (X t.settings) (cursor t.at w)
  unfolding stretch_of run_of
  stretch_law at held t e =
      subst (λ (y : Stretch). Reached s (X held) (cursor at w) → Reached s (X y.settings) (cursor y.at w)) (sym e)
      (subst (λ (j : ℕ). Reached s (X held) (cursor j w) → Reached s (X (there j).settings) (cursor (at + (there j).at) w)) (add-zero at) (run_law (length (extent s at w)) at 0 held))
    where
      there : ℕ → Stretch
      there j = run_from (length (extent s at w)) little base 0 held (extent s j w)

-- ---- outside groups

abbrev Truth : Bool → Type 0
Truth true = Unit {0}
Truth false = ⊥

module _ (s : List ℕ) (st : Standing) (fs : List Frame) where
  -- Every channel holds the root settings.
  abbrev root_state : Settings → State
  root_state held = state (with_root held st) (replicate channel_limit held) fs

  root_defines : (held : Settings) (at tag n : ℕ) (a : Attribute) (c : Change) → tagged tag ≡ Some a → defined a st.little default_settings (value_at s (at + 2) n) ≡ Ok c → meaning s (root_state held) (Plain at tag (at + 2) n) ≡ goes (root_state (applied c held))
  unfolding effect_of plain_effect all_effect carried all_applied
  root_defines held at tag n a c e f =
      ap (λ (t : Option Attribute). carried s (root_state held) (plain_effect (with_root held st) tag (at + 2) (value_at s (at + 2) n) t)) e
      ∙ ap (λ (d : Result Change Fault). carried s (root_state held) (all_effect d)) f
      ∙ ap (λ (t : List Settings). goes (state (with_root (applied c held) st) t fs)) (map-replicate (applied c) channel_limit held)

  root_passes : (held : Settings) (at tag n : ℕ) → tagged tag ≡ None → root_only tag ≡ false → meaning s (root_state held) (Plain at tag (at + 2) n) ≡ goes (root_state held)
  unfolding effect_of plain_effect root_effect carried root_only
  root_passes held at tag n e f =
      ap (λ (t : Option Attribute). carried s (root_state held) (plain_effect (with_root held st) tag (at + 2) (value_at s (at + 2) n) t)) e
      ∙ pick_cases Done (eqb tag 0x01) (λ q. absurd (bar 0x01 tt q))
      (λ _. pick_cases Done (eqb tag 0x05) (λ q. absurd (bar 0x05 tt q))
      (λ _. pick_cases Done (eqb tag 0x06) (λ q. absurd (bar 0x06 tt q))
      (λ _. pick_cases Done (eqb tag 0x07) (λ q. absurd (bar 0x07 tt q))
      (λ _. pick_cases Done (eqb tag 0x0E) (λ q. absurd (bar 0x0E tt q))
      (λ _. pick_cases Done (eqb tag 0x1E) (λ q. absurd (bar 0x1E tt q))
      (λ _. refl))))))
    where
      Done : Result Effect Fault → Type 0
      Done x = carried s (root_state held) x ≡ goes (root_state held)

      bar : (k : ℕ) → Truth (root_only k) → eqb tag k ≡ true → ⊥
      bar k t q = subst Truth (ap root_only (sym (eqb-true tag k q)) ∙ f) t

  pub root_law : (at : ℕ) (held : Settings) (t : Stretch) → t ≡ stretch_of s (cursor at Within.Root) st.little default_settings held → Reached s (root_state held) (cursor at Within.Root) → Reached s (root_state t.settings) (cursor t.at Within.Root)
  root_law = stretch_law s Within.Root st.little default_settings root_state root_defines root_passes

-- ---- in a group

-- A place in a group of this channel.
abbrev pub InGroup : Within → ℕ → Type 0
InGroup Within.Root k = ⊥
InGroup (Within.Definite channel end) k = channel ≡ k
InGroup (Within.Open channel place) k = channel ≡ k

module _ (s : List ℕ) (st : Standing) (fs : List Frame) (table : List Settings) (channel : ℕ) (l : channel < length table) (z : eqb st.counted 0 ≡ false) where
  -- The record of one channel.
  abbrev group_state : Settings → State
  group_state held = state st (set table channel held) fs

  member_defines : (held : Settings) (at tag n : ℕ) (a : Attribute) (c : Change) → tagged tag ≡ Some a → defined a st.little st.root (value_at s (at + 2) n) ≡ Ok c
      → meaning s (group_state held) (Member at channel tag (at + 2) n) ≡ goes (group_state (applied c held))
  unfolding effect_of member_effect one_effect carried one_changed
  member_defines held at tag n a c e f =
      ap (λ (b : Bool). carried s (group_state held) (pick b (Ok Effect.Pass) (member_effect st channel (value_at s (at + 2) n) (tagged tag)))) z
      ∙ ap (λ (t : Option Attribute). carried s (group_state held) (member_effect st channel (value_at s (at + 2) n) t)) e
      ∙ ap (λ (d : Result Change Fault). carried s (group_state held) (one_effect channel d)) f
      ∙ ap (λ (t : List Settings). goes (state st t fs))
      (set-set table channel held (applied c (get_or (set table channel held) channel zero_settings))
      ∙ ap (λ (x : Settings). set table channel (applied c x)) (get_or-set_same table channel held zero_settings l))

  member_passes : (held : Settings) (at tag n : ℕ) → tagged tag ≡ None → root_only tag ≡ false → meaning s (group_state held) (Member at channel tag (at + 2) n) ≡ goes (group_state held)
  unfolding effect_of member_effect carried
  member_passes held at tag n e f =
      ap (λ (b : Bool). carried s (group_state held) (pick b (Ok Effect.Pass) (member_effect st channel (value_at s (at + 2) n) (tagged tag)))) z
      ∙ ap (λ (t : Option Attribute). carried s (group_state held) (member_effect st channel (value_at s (at + 2) n) t)) e

  abbrev Law : Within → Type 0
  Law w = (at : ℕ) (held : Settings) (t : Stretch) → t ≡ stretch_of s (cursor at w) st.little st.root held → Reached s (group_state held) (cursor at w) → Reached s (group_state t.settings) (cursor t.at w)

  pub group_law : (w : Within) → InGroup w channel → Law w
  group_law Within.Root g = absurd g
  group_law (Within.Definite k end) g =
      subst (λ (j : ℕ). Law (Within.Definite j end)) (sym g) (stretch_law s (Within.Definite channel end) st.little st.root group_state member_defines member_passes)
  group_law (Within.Open k place) g =
      subst (λ (j : ℕ). Law (Within.Open j place)) (sym g) (stretch_law s (Within.Open channel place) st.little st.root group_state member_defines member_passes)

-- ---- where the pass takes a stretch

-- Outside groups, before an octet of the file.
abbrev Begins : List ℕ → Cursor → Bool → Type 0
Begins s c true = (c.within ≡ Within.Root) × (c.at < length s)
Begins s c false = Unit {0}

begins_by : (s : List ℕ) (at : ℕ) (w : Within) → Begins s (cursor at w) (begins_at s (cursor at w))
unfolding begins_at
begins_by s at Within.Root =
    pick_cases (Begins s (cursor at Within.Root)) (ltb at (length s))
    (λ h. by (ltb-true at (length s) h) (stepped_over (get_or s at 0)))
    (λ _. tt)
  where
    by : at < length s → (b : Bool) → Begins s (cursor at Within.Root) b
    by h true = (refl, h)
    by h false = tt
begins_by s at (Within.Definite channel end) = tt
begins_by s at (Within.Open channel place) = tt

pub begins_root : (s : List ℕ) (c : Cursor) {b : Bool} → b ≡ begins_at s c → b ≡ true → (c.within ≡ Within.Root) × (c.at < length s)
begins_root s c e f = subst (Begins s c) (sym e ∙ f) (begins_by s c.at c.within)

-- The tag of a group that takes effect.
pub record GroupOpened (counted : ℕ) (i : Item) (k : ℕ) : Type 0 where
  pub place : ℕ
  pub group : i ≡ Item.Group place k
  pub counts : k < counted

pub opened_group : (counted : ℕ) (i : Item) {k : ℕ} → k ≡ opened_by counted i → k < channel_limit → GroupOpened counted i k
unfolding opened_by
opened_group counted (Item.Plain place tag start len) e h = let z : ⊥ = omega arith in absurd z
opened_group counted (Item.Group place channel) {k = k} e h =
    pick_cases (λ (j : ℕ). k ≡ j → GroupOpened counted (Item.Group place channel) k) (ltb channel counted)
    (λ t q. record { place = place; group = ap (Item.Group place) (sym q); counts = rw q (ltb-true channel counted t) })
    (λ t q. let z : ⊥ = omega arith in absurd z)
    e
opened_group counted (Item.Member place channel tag start len) e h = let z : ⊥ = omega arith in absurd z
opened_group counted (Item.Mark place) e h = let z : ⊥ = omega arith in absurd z

pub opened_nothing : (s : List ℕ) (st : Standing) {i : Item} {k : ℕ} → GroupOpened st.counted i k → effect_of s st i ≡ Ok Effect.Pass
unfolding effect_of group_effect
opened_nothing s st {k = k} p =
    ap (effect_of s st) p.group
    ∙ pick_cases (λ (e : Result Effect Fault). e ≡ Ok Effect.Pass) (eqb st.counted 0) (λ _. refl)
    (λ _. pick_cases (λ (e : Result Effect Fault). e ≡ Ok Effect.Pass) (ltb k st.counted) (λ _. refl) (λ t. let z : ⊥ = omega (arith, ltb-false k st.counted t, p.counts) in absurd z))

pub opened-counted : {counted : ℕ} {i : Item} {k : ℕ} → GroupOpened counted i k → eqb counted 0 ≡ false
opened-counted {counted = counted} p = ne_eqb counted 0 (λ z. let x : ⊥ = omega (arith, p.counts) in x)

-- Behind a group's tag the walk stands in the group.
abbrev Entered : Result (Option (Item × Cursor)) Refusal → Type 0
Entered (Ok (Some (Item.Plain place tag start len, d))) = Unit {0}
Entered (Ok (Some (Item.Group place channel, d))) = InGroup d.within channel
Entered (Ok (Some (Item.Member place channel tag start len, d))) = Unit {0}
Entered (Ok (Some (Item.Mark place, d))) = Unit {0}
Entered (Ok None) = Unit {0}
Entered (Err r) = Unit {0}

item_entered : (at : ℕ) (w : Within) (h : Result ItemHead Fault) → Entered (item_of at w h)
unfolding item_of
item_entered at Within.Root (Ok (ItemHead.Primitive tag start len)) = tt
item_entered at (Within.Definite channel end) (Ok (ItemHead.Primitive tag start len)) = tt
item_entered at (Within.Open channel place) (Ok (ItemHead.Primitive tag start len)) = pick_cases Entered (ends_open tag len) (λ _. tt) (λ _. tt)
item_entered at w (Ok (ItemHead.Definite channel start len)) = refl
item_entered at w (Ok (ItemHead.Open channel start)) = refl
item_entered at w (Err fault) = tt

ended_entered : (w : Within) → Entered (ended w)
ended_entered Within.Root = tt
ended_entered (Within.Definite channel end) = tt
ended_entered (Within.Open channel place) = tt

in_entered : (at : ℕ) (w : Within) (u : List ℕ) → Entered (next_in at w u)
unfolding next_in
in_entered at w [] = ended_entered w
in_entered at w (tag ∷ u) = item_entered at w (head_of (is_inside w) (tag ∷ u))

next_entered : (s : List ℕ) (c : Cursor) → Entered (next_of s c)
unfolding next_of
next_entered s c = in_entered c.at (stands_in c.at c.within) (extent s c.at (stands_in c.at c.within))

pub group_entered : (s : List ℕ) (c : Cursor) {n : Result (Option (Item × Cursor)) Refusal} {i : Item} {d : Cursor} {counted k : ℕ} → n ≡ next_of s c → n ≡ Ok (Some (i, d)) → GroupOpened counted i k → InGroup d.within k
group_entered s c {d = d} e f p = subst Entered (sym e ∙ f ∙ ap (λ (x : Item). Ok (Some (x, d))) p.group) (next_entered s c)

-- A stretch goes forward.
pub stretch-on : (s : List ℕ) (c : Cursor) (little : Bool) (base held : Settings) {t : Stretch} → t ≡ stretch_of s c little base held → c.at ≤ t.at
unfolding stretch_of
stretch-on s c little base held e = rw e (let h : c.at ≤ c.at + (run_of little base held (extent s c.at c.within)).at = omega arith in h)
