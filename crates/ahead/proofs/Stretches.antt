-- A stretch that is taken in one go leads where its items lead one by one, and counts what they count.
--     root_goes                 behind a stretch outside groups
--     group_inside, ignored_goes    behind a stretch in a group that is ignored
--     group_put, group_kept     behind a stretch in a group, with a definition and without
-- Assumes nothing.
use Rattle.heads.specs.declared.Fault.{Fault}
use Rattle.effects.specs.declared.Effect.{Effect}
use Rattle.std.specs.Prelude.{Option, Some, None, Result, Ok}
use Rattle.definitions.specs.declared.Attribute.{Attribute}
use mathlib.Core.Path.{◌≡◌, refl, sym, ap, subst, ◌∙◌}
use mathlib.Core.List.{List, []}
use mathlib.Core.Bool.{Bool, true, false}
use mathlib.Core.Logic.{⊎_elim}
use Prim.Native.Nat.{ℕ, ◌+◌, ◌-◌, ◌%◌, ◌^◌, ◌≤◌, ◌<◌}
use native.Mathlib.Decide.{dec_lt}
use native.Mathlib.Omega.{arith}
use borrow.Author.Tests.{lt-ltb, lt-leb, eq-eqb, ne_eqb, eqb-true}
use lib.Dec.{eqb}
use lib.ListN.{length, get_or, take, drop, set, length-drop}
use lib.Seq.{take-add, get_or-drop, set-set, set_out, get_or-set_same}
use Rattle.octets.specs.Pick.{pick}
use Rattle.octets.proofs.Pick.{pick_cases}
use Rattle.heads.specs.Head.{root_only}
use Rattle.items.specs.declared.Cursor.{Cursor}
use Rattle.items.specs.declared.Within.{Within}
use Rattle.items.specs.declared.Item.{Item}
use Rattle.items.specs.Walk.{cursor, stands_in, is_inside, ends_open}
use Rattle.settings.specs.declared.Settings.{Settings}
use Rattle.settings.specs.declared.Change.{Change}
use Rattle.settings.specs.Settings.{default_settings, applied}
use Rattle.definitions.specs.Define.{tagged}
use Rattle.dated.specs.declared.Dated.{Dated}
use Rattle.dated.specs.declared.Dates.{Dates}
use Rattle.dated.specs.Dated.{noted, zero_dated, settled_at}
use Rattle.standing.specs.declared.Standing.{Standing}
use Rattle.standing.specs.Standing.{octets_limit, with_root}
use Rattle.effects.specs.Effects.{value_at, effect_of}
use Rattle.stretch.specs.declared.Stretch.{Stretch}
use Rattle.stretch.specs.Stretch.{stretch_of}
use Rattle.stretch.proofs.Leads.{InStretch}
use Rattle.words.specs.Words.{records_in, Holding}
use Rattle.records.specs.Records.{PastKept}
use Rattle.walk.specs.declared.Waveform.{Waveform}
use Rattle.walk.specs.declared.Head.{Head}
use Rattle.walk.specs.Advance.{Stand, stand, Turn, on, effect_turn, stand_of}
use Rattle.walk.proofs.Turns.{past_put}
use Rattle.passed.specs.declared.Passed.{Passed}
use Rattle.passed.specs.Passed.{passed_from, passed_item, passed_in, passed_over}
use Rattle.passed.proofs.Laws.{change_timed, passed_part}
use Rattle.link.specs.Link.{Link, link, head, cut_at, group_at, within_after}
use Rattle.link.specs.Runs.{Leads}
use Rattle.ahead.specs.declared.Ahead.{Ahead}
use Rattle.ahead.specs.Ahead.{told_behind, between, GoesAhead, Fits, item_here, around_behind, IsItem, InGroup}
use Rattle.ahead.proofs.Whole.{leads-none, leads-both, told_none, primitive_item}
use Rattle.ahead.proofs.Asks.{short_form, root_asks, group_asks, stretch_law}

-- ---- what is around the items of a stretch

stays_in : (w : Within) (m n : ℕ) → Fits w n → m < n → stands_in m w ≡ w
stays_in Within.Root m n f h = refl
stays_in (Within.Definite channel end) m n f h = let l : m < end = omega arith in simp (lt-ltb m end l)
stays_in (Within.Open channel place) m n f h = refl

-- No item of a stretch ends a group.
after_stays : (w : Within) (tag n : ℕ) → eqb tag 0 ≡ false → within_after w tag n ≡ w
unfolding within_after
after_stays Within.Root tag n z = refl
after_stays (Within.Definite channel end) tag n z = refl
after_stays (Within.Open channel place) tag n z = simp z

-- In a definite group its place is kept to its end; elsewhere none is.
around-kept : (w : Within) (m p at around : ℕ) → stands_in (p + at) w ≡ w
    → group_at (stands_in m w) (cut_at w (p + at) (pick (eqb at 0) around (group_at (stands_in (p + at) w) (cut_at w p around)))) ≡ group_at (stands_in m w) (cut_at w p around)
around-kept Within.Root m p at around e = refl
around-kept (Within.Definite channel end) m p at around e =
    ap (group_at (stands_in m (Within.Definite channel end)))
    (pick_cases (λ (k : ℕ). k ≡ around) (eqb at 0) (λ _. refl) (λ _. ap (λ (w : Within). group_at w around) e))
around-kept (Within.Open channel place) m p at around e = refl

-- ---- behind a stretch

-- For any stand that depends on one record and on what is counted, and that each item of a stretch leads on as it should, where J holds.
module _ (q : List ℕ) (x : Stand) (around : ℕ) (little : Bool) (base : Settings)
    (S : Settings → Standing) (D : Passed → Dates) (R : Settings → Passed → List Dated) (J : Settings → Passed → Type 0) where
  abbrev from : ℕ
  from = x.cursor.at

  abbrev within : Within
  within = stands_in from x.cursor.within

  -- The stand at a place of the stretch.
  abbrev within_at : ℕ → Within
  within_at at = pick (eqb at 0) x.cursor.within within

  abbrev around_at : ℕ → ℕ
  around_at at = pick (eqb at 0) around (group_at (stands_in (from + at) within) (cut_at within from around))

  abbrev stand_at : Cursor → Settings → Passed → Stand
  stand_at c held y = stand c (S held) (D y) (R held y) y.items x.frames

  abbrev stands : ℕ → Settings → Passed → Stand
  stands at held y = stand_at (cursor (from + at) (within_at at)) held y

  -- What an item of a stretch asks for is carried out.
  pub record Carries (u : List ℕ) (place : ℕ) (held next : Settings) (y : Passed) : Type 0 where
    pub effect : (Result Effect Fault)
    pub asks : effect_of u (S held) (item_here within place (get_or u 0 0) 2 (get_or u 1 0)) ≡ effect
    pub leads : (c d : Cursor) → effect_turn (stand_at c held y) d place effect ≡ on (stand_at d next (passed_item (tagged (get_or u 0 0)) y))
    pub also : J next (passed_item (tagged (get_or u 0 0)) y)

  module _ (near : from + length q ≤ octets_limit) (fits : Fits within (from + length q))
      (one : (u : List ℕ) (place : ℕ) (held next : Settings) (y : Passed) → InStretch little base held u next → J held y → Carries u place held next y) where
    still : (at : ℕ) → at < length q → stands_in (from + at) (within_at at) ≡ within
    still at h =
        pick_cases (λ (w : Within). stands_in (from + at) w ≡ within) (eqb at 0)
        (λ e. let z : from + at ≡ from = omega (arith, eqb-true at 0 e) in ap (λ (n : ℕ). stands_in n x.cursor.within) z)
        (λ _. stays_in within (from + at) (from + length q) fits (omega arith))

    -- What is known at a place of the stretch.
    record Counting (first : Settings) (before : Passed) (at : ℕ) (held : Settings) : Type 0 where
      here : Passed
      inside : at ≤ length q
      leads : (v : Waveform) → Leads (between x around v) (take at q) (link (from + at) (stands at held here) (around_at at) (told_behind at v) (head [])) []
      also : J held here
      rest : (to : ℕ) → at ≤ to → passed_over (take (to - at) (drop at q)) here ≡ passed_over (take to q) before

    -- One item more.
    module _ (at : ℕ) (held next : Settings) (p : InStretch little base held (drop at q) next) (inside : at ≤ length q) (y : Passed) (j : J held y) where
      abbrev ahead : List ℕ
      ahead = drop at q

      abbrev tag : ℕ
      tag = get_or ahead 0 0

      abbrev long : ℕ
      long = get_or ahead 1 0

      abbrev more : ℕ
      more = at + (2 + long)

      ahead-long : length ahead ≡ length q - at
      ahead-long = length-drop at q

      here-stands : stands_in (from + at) (within_at at) ≡ within
      here-stands = still at (omega (arith, p.long, ahead-long))

      carries : Carries ahead (from + at) held next y
      carries = one ahead (from + at) held next y p j

      not-waveform : tag ≡ 0x1E → ⊥
      not-waveform e = unfold root_only in let z : ◌≡◌ {A = Bool} true false = ap root_only (sym e) ∙ p.ordinary.anywhere in let n : ◌≡◌ {A = ℕ} 0 1 = cc in omega arith

      next-cursor : cursor (from + at + 2 + long) (within_after (stands_in (from + at) (within_at at)) tag long) ≡ cursor (from + more) (within_at more)
      next-cursor =
          let n : from + at + 2 + long ≡ from + more = omega arith in
          let some : more ≡ 0 → ⊥ = λ z. omega arith in
          (λ i. cursor (n i)
          ((ap (λ (w : Within). within_after w tag long) here-stands ∙ after_stays within tag long p.ordinary.nonzero ∙ sym (ap (λ (b : Bool). pick b x.cursor.within within) (ne_eqb more 0 some))) i))

      next-item : IsItem ahead (stands at held y) (around_at at) (2 + long) (cursor (from + more) (within_at more)) carries.effect
      next-item =
          subst (λ (c : Cursor). IsItem ahead (stands at held y) (around_at at) (2 + long) c carries.effect) next-cursor
          (subst (λ (e : Result Effect Fault). IsItem ahead (stands at held y) (around_at at) (2 + long) (cursor (from + at + 2 + long) (within_after (stands_in (from + at) (within_at at)) tag long)) e)
          (ap (λ (w : Within). effect_of ahead (S held) (item_here w (from + at) tag 2 long)) here-stands ∙ carries.asks)
          (primitive_item (stands at held y) (around_at at) ahead (omega (arith, near, ahead-long, inside))
          (subst (λ (w : Within). Fits w (from + at + length ahead)) (sym here-stands) (subst (Fits within) (let z : from + length q ≡ from + at + length ahead = omega (arith, ahead-long, inside) in z) fits))
          tag 2 long (short_form (is_inside (stands_in (from + at) (within_at at))) ahead p.ordinary p.long p.short) p.long not-waveform))

      next-around : around_behind (stands at held y) (around_at at) (cursor (from + more) (within_at more)) ≡ around_at more
      next-around =
          let some : more ≡ 0 → ⊥ = λ z. omega arith in
          let b = ne_eqb more 0 some in
          let stays = stays_in within (from + at) (from + length q) fits (omega (arith, p.long, ahead-long)) in
          (λ i. group_at (stands_in (from + more) (pick (b i) x.cursor.within within)) (cut_at (here-stands i) (from + at) (around_at at)))
          ∙ around-kept within (from + more) from at around stays
          ∙ sym (ap (λ (t : Bool). pick t around (group_at (stands_in (from + more) within) (cut_at within from around))) b)

      next-leads : ((v : Waveform) → Leads (between x around v) (take at q) (link (from + at) (stands at held y) (around_at at) (told_behind at v) (head [])) [])
          → (v : Waveform) → Leads (between x around v) (take more q) (link (from + more) (stands more next (passed_item (tagged tag) y)) (around_at more) (told_behind more v) (head [])) []
      next-leads first v =
          let z = stands more next (passed_item (tagged tag) y) in
          let there = link (from + more) z (around_at more) (told_behind more v) (head []) in
          subst (λ (u : List ℕ). Leads (between x around v) u there []) (sym (take-add at (2 + long) q))
          (leads-both (first v)
          (subst (λ (l : Link). Leads (link (from + at) (stands at held y) (around_at at) (told_behind at v) (head [])) (take (2 + long) ahead) l [])
          (λ i. link (from + more) z (next-around i) (sym (told_none more v (omega arith)) i) (head []))
          (next-item.leads z (carries.leads (cursor (from + at) (within_at at)) (cursor (from + more) (within_at more))) (told_behind at v))))

    counting_one : (first : Settings) (before : Passed) (at : ℕ) (held next : Settings) → InStretch little base held (drop at q) next → Counting first before at held → Counting first before (at + (2 + get_or (drop at q) 1 0)) next
    counting_one first before at held next p k =
        let d = length-drop at q in
        let n = get_or (drop at q) 1 0 in
        let tag : get_or (drop at q) 0 0 ≡ get_or q at 0 = get_or-drop at q 0 0 ∙ ap (λ (j : ℕ). get_or q j 0) (let z : at + 0 ≡ at = omega arith in z) in
        let to_there : at + 2 + n ≡ at + (2 + n) = omega arith in
        record {
          here = passed_item (tagged (get_or (drop at q) 0 0)) k.here;
          inside = omega (arith, p.long, d, k.inside);
          leads = next-leads at held next p k.inside k.here k.also k.leads;
          also = (carries at held next p k.inside k.here k.also).also;
          rest = λ to h.
              (λ i. passed_over (take (to - sym to_there i) (drop (sym to_there i) q)) (passed_item (tagged (tag i)) k.here))
              ∙ sym (passed_part q at to n k.here (omega (arith, h)) (omega (arith, p.long, d, k.inside)) (get_or-drop at q 1 0))
              ∙ k.rest to (omega (arith, h));
        }

    -- Where the stretch takes something.
    pub record Behind (t : Stretch) (y : Passed) : Type 0 where
      pub inside : t.at ≤ length q
      pub leads : (v : Waveform)
          → Leads (between x around v) (take t.at q)
          (link (from + t.at) (stand_at (cursor (from + t.at) within) t.settings y) (group_at (stands_in (from + t.at) within) (cut_at within from around)) (told_behind t.at v) (head [])) []

    pub behind_law : (held : Settings) (before : Passed) {t : Stretch} {y : Passed} → t ≡ stretch_of q (cursor 0 Within.Root) little base held → y ≡ passed_over (take t.at q) before
        → stand_at x.cursor held before ≡ x → J held before → (t.at ≡ 0 → ⊥) → Behind t y
    unfolding passed_in
    behind_law held before {t} {y} e ey same j some =
        let zero-at : from ≡ from + 0 = omega arith in
        let k =
        stretch_law q little base (Counting held before) (counting_one held before) held e
        (record {
          here = before;
          inside = omega arith;
          leads = λ v.
              subst (λ (l : Link). Leads (between x around v) [] l []) (λ i. link (zero-at i) (stand_at (cursor (zero-at i) x.cursor.within) held before) around v (head []))
              (subst (λ (z : Stand). Leads (between x around v) [] (link from z around v (head [])) []) (sym same) (leads-none (between x around v)));
          also = j;
          rest = λ to h. let z : to - 0 ≡ to = omega arith in ap (λ (i : ℕ). passed_over (take i q) before) z;
        }) in
        let none : t.at - t.at ≡ 0 = omega arith in
        let counted : k.here ≡ y = ap (λ (i : ℕ). passed_over (take i (drop t.at q)) k.here) (sym none) ∙ k.rest t.at (omega arith) ∙ sym ey in
        let b = ne_eqb t.at 0 some in
        record {
          inside = k.inside;
          leads = λ v.
              subst (λ (l : Link). Leads (between x around v) (take t.at q) l [])
              (λ i. link (from + t.at) (stand_at (cursor (from + t.at) (pick (b i) x.cursor.within within)) t.settings (counted i)) (pick (b i) around (group_at (stands_in (from + t.at) within) (cut_at within from around))) (told_behind t.at v) (head []))
              (k.leads v);
        }

-- ---- outside groups

module _ (q : List ℕ) (h : Head) (around : ℕ) (t : List ℕ) where
  abbrev root_standing : Settings → Standing
  root_standing held = with_root held h.standing

  abbrev root_records : Settings → Passed → List Dated
  root_records held y = records_in t

  abbrev Always : Settings → Passed → Type 0
  Always held y = Unit {0}

  module _ (root : stands_in h.cursor.at h.cursor.within ≡ Within.Root) where
    root_one : (u : List ℕ) (place : ℕ) (held next : Settings) (y : Passed) → InStretch h.standing.little default_settings held u next → Always held y
        → Carries q (stand_of h t) around h.standing.little default_settings root_standing (λ z. z.dates) root_records Always u place held next y
    unfolding effect_turn
    root_one u place held next y p _ =
        let st = root_standing held in
        let v = value_at u 2 (get_or u 1 0) in
        let asked = ap (λ (w : Within). effect_of u st (item_here w place (get_or u 0 0) 2 (get_or u 1 0))) root in
        ⊎_elim
        (λ a. record {
          effect = Ok (Effect.All a.1);
          asks = asked ∙ a.4;
          leads = λ c d.
              (λ i. on (stand d (with_root (sym a.5 i) h.standing) (sym (change_timed a.0 st.little default_settings v a.3 y.dates) i) (records_in t) (passed_item (Some a.0) y).items h.frames))
              ∙ ap (λ (k : Option Attribute). on (stand d (with_root next h.standing) (passed_item k y).dates (records_in t) (passed_item k y).items h.frames)) (sym a.2);
          also = tt;
        })
        (λ a. record {
          effect = (Ok Effect.Pass);
          asks = asked ∙ a.1;
          leads = λ c d.
              (λ i. on (stand d (with_root (sym a.2 i) h.standing) (passed_item (sym a.0 i) y).dates (records_in t) (passed_item (sym a.0 i) y).items h.frames));
          also = tt;
        })
        (root_asks u st place held next p)

    pub root_goes : {base : Settings} {a : Stretch} {octets : List ℕ} {y : Passed} {st : Standing} → h.cursor.at + length q ≤ octets_limit → base ≡ default_settings → a ≡ stretch_of q (cursor 0 Within.Root) h.standing.little base h.standing.root
        → (a.at ≡ 0 → ⊥) → octets ≡ take a.at q → y ≡ passed_over octets (passed_from h.dates h.items) → st ≡ with_root a.settings h.standing
        → GoesAhead q h around t (record { head = record { cursor = cursor (h.cursor.at + a.at) Within.Root; standing = st; dates = y.dates; items = y.items; frames = h.frames }; around = 0; taken = a.at }) t
    root_goes {a = a} {y = y} near eb e some eo ey es =
        let x = stand_of h t in
        let from = h.cursor.at in
        let w = stands_in from h.cursor.within in
        let p =
        behind_law q x around h.standing.little default_settings root_standing (λ z. z.dates) root_records Always near (subst (λ (z : Within). Fits z (from + length q)) (sym root) tt) root_one
        h.standing.root (passed_from h.dates h.items) (e ∙ ap (λ (z : Settings). stretch_of q (cursor 0 Within.Root) h.standing.little z h.standing.root) eb) (ey ∙ ap (λ (z : List ℕ). passed_over z (passed_from h.dates h.items)) eo) refl tt some in
        record {
          inside = p.inside;
          long = refl;
          past = record { same = λ m _. refl };
          place = refl;
          leads = λ v.
              subst (λ (l : Link). Leads (between x around v) (take a.at q) l [])
              (λ i. link (from + a.at) (stand (cursor (from + a.at) (root i)) (sym es i) y.dates (records_in t) y.items h.frames) (group_at (stands_in (from + a.at) (root i)) (cut_at (root i) from around)) (told_behind a.at v) (head []))
              (p.leads v);
        }

-- ---- the link behind a stretch in a group

group_link : (h : Head) (around : ℕ) {w : Within} → w ≡ stands_in h.cursor.at h.cursor.within → {r records : List Dated} → r ≡ records → (k items : ℕ) (v : Waveform) {mark : ℕ}
    → mark ≡ group_at (stands_in (h.cursor.at + k) w) (cut_at w h.cursor.at around)
    → let there = stands_in h.cursor.at h.cursor.within in
    link (h.cursor.at + k) (stand (cursor (h.cursor.at + k) there) h.standing h.dates r items h.frames) (group_at (stands_in (h.cursor.at + k) there) (cut_at there h.cursor.at around)) (told_behind k v) (head [])
    ≡ link (h.cursor.at + k) (stand (cursor (h.cursor.at + k) w) h.standing h.dates records items h.frames) mark (told_behind k v) (head [])
group_link h around {w} ew {records = records} er k items v em =
    let at = h.cursor.at + k in
    (λ i. link at (stand (cursor at (sym ew i)) h.standing h.dates (er i) items h.frames) (group_at (stands_in at (sym ew i)) (cut_at (sym ew i) h.cursor.at around)) (told_behind k v) (head []))
    ∙ ap (λ (m : ℕ). link at (stand (cursor at w) h.standing h.dates records items h.frames) m (told_behind k v) (head [])) (sym em)

-- ---- in a group that is ignored

pub group_inside : (w : Within) (channel : ℕ) → InGroup w channel → is_inside w ≡ true
group_inside Within.Root channel g = absurd g
group_inside (Within.Definite k end) channel g = refl
group_inside (Within.Open k place) channel g = refl

-- One item more is read, whatever it defines.
passed_count : (k : Option Attribute) (y : Passed) → (passed_item k y).items ≡ (y.items + 1) % 2 ^ 64
passed_count (Some a) y = refl
passed_count None y = refl

ignored_asks : (u : List ℕ) (st : Standing) (w : Within) (place tag start len : ℕ) → is_inside w ≡ true → st.counted ≡ 0 → effect_of u st (item_here w place tag start len) ≡ (Ok Effect.Pass)
unfolding effect_of item_here
ignored_asks u st Within.Root place tag start len i z = let n : ◌≡◌ {A = ℕ} 0 1 = cc in let x : ⊥ = omega arith in absurd x
ignored_asks u st (Within.Definite channel end) place tag start len i z = simp (eq-eqb st.counted 0 z)
ignored_asks u st (Within.Open channel group) place tag start len i z =
    pick_cases (λ (x : Item). effect_of u st x ≡ (Ok Effect.Pass)) (ends_open tag len) (λ _. refl) (λ _. simp (eq-eqb st.counted 0 z))

module _ (q : List ℕ) (h : Head) (around : ℕ) (t : List ℕ) {w : Within} (ew : w ≡ stands_in h.cursor.at h.cursor.within) (i : is_inside w ≡ true) (z : h.standing.counted ≡ 0) where
  ignored_one : (u : List ℕ) (place : ℕ) (held next : Settings) (y : Passed) → InStretch h.standing.little h.standing.root held u next → Unit {0}
      → Carries q (stand_of h t) around h.standing.little h.standing.root (λ _. h.standing) (λ _. h.dates) (λ _ _. records_in t) (λ _ _. Unit {0}) u place held next y
  unfolding effect_turn
  ignored_one u place held next y p _ =
      record {
        effect = (Ok Effect.Pass);
        asks = ignored_asks u h.standing (stands_in h.cursor.at h.cursor.within) place (get_or u 0 0) 2 (get_or u 1 0) (sym (ap is_inside ew) ∙ i) z;
        leads = λ c d. ap (λ (n : ℕ). on (stand d h.standing h.dates (records_in t) n h.frames)) (sym (passed_count (tagged (get_or u 0 0)) y));
        also = tt;
      }

  pub ignored_goes : {a : Stretch} {octets : List ℕ} {y : Passed} {mark : ℕ} → h.cursor.at + length q ≤ octets_limit → Fits (stands_in h.cursor.at h.cursor.within) (h.cursor.at + length q)
      → a ≡ stretch_of q (cursor 0 Within.Root) h.standing.little h.standing.root h.standing.root → (a.at ≡ 0 → ⊥) → octets ≡ take a.at q → y ≡ passed_over octets (passed_from h.dates h.items)
      → mark ≡ group_at (stands_in (h.cursor.at + a.at) w) (cut_at w h.cursor.at around)
      → GoesAhead q h around t (record { head = record { cursor = cursor (h.cursor.at + a.at) w; standing = h.standing; dates = h.dates; items = y.items; frames = h.frames }; around = mark; taken = a.at }) t
  ignored_goes {a} {y = y} near fits e some eo ey em =
      let x = stand_of h t in
      let from = h.cursor.at in
      let p =
      behind_law q x around h.standing.little h.standing.root (λ _. h.standing) (λ _. h.dates) (λ _ _. records_in t) (λ _ _. Unit {0}) near fits ignored_one
      h.standing.root (passed_from h.dates h.items) e (ey ∙ ap (λ (z : List ℕ). passed_over z (passed_from h.dates h.items)) eo) refl tt some in
      record {
        inside = p.inside;
        long = refl;
        past = record { same = λ m _. refl };
        place = refl;
        leads = λ v. subst (λ (l : Link). Leads (between x around v) (take a.at q) l []) (group_link h around ew refl a.at y.items v em) (p.leads v);
      }

-- ---- in a group that takes effect

abbrev Truth : Bool → Type 0
Truth true = Unit {0}
Truth false = ⊥

module _ (st : Standing) (d : Dates) (t : List Dated) (channel : ℕ) (low : d.cleared < d.now) where
  -- What stands for the channel before the stretch.
  abbrev stood : Settings
  stood = settled_at st.root d (get_or t channel zero_dated)

  -- The records, once a definition has come, and before.
  abbrev records_by : Bool → Settings → List Dated
  records_by defines held = pick defines (set t channel (noted d.now held)) t

  settled_here : (held : Settings) → settled_at st.root d (noted d.now held) ≡ held
  unfolding settled_at
  settled_here held = simp (lt-leb d.now d.cleared low, eq-eqb d.now d.now refl)

  -- One definition more is noted in the records.
  noted_more : (defines : Bool) (held : Settings) → (defines ≡ false → held ≡ stood) → (c : Change)
      → set t channel (noted d.now (applied c held)) ≡ set (records_by defines held) channel (noted d.now (applied c (settled_at st.root d (get_or (records_by defines held) channel zero_dated))))
  noted_more false held h c = ap (λ (x : Settings). set t channel (noted d.now (applied c x))) (h refl)
  noted_more true held h c = by (dec_lt channel (length t))
    where
      old : Dated
      old = noted d.now held

      new : Dated → Dated
      new x = noted d.now (applied c (settled_at st.root d x))

      by : Dec (channel < length t) → set t channel (noted d.now (applied c held)) ≡ set (set t channel old) channel (new (get_or (set t channel old) channel zero_dated))
      by (yes l) =
          ap (λ (x : Settings). set t channel (noted d.now (applied c x))) (sym (settled_here held))
          ∙ ap (λ (x : Dated). set t channel (new x)) (sym (get_or-set_same t channel old zero_dated l))
          ∙ sym (set-set t channel old (new (get_or (set t channel old) channel zero_dated)))
      by (no l) =
          let out : length t ≤ channel = omega (arith, l) in
          set_out t channel (noted d.now (applied c held)) out
          ∙ sym (set_out t channel (new (get_or (set t channel old) channel zero_dated)) out)
          ∙ sym (set-set t channel old (new (get_or (set t channel old) channel zero_dated)))

module _ (q : List ℕ) (h : Head) (around : ℕ) (t : List ℕ) (channel : ℕ) (low : h.dates.cleared < h.dates.now) (some : 0 < h.standing.counted) {w : Within} (ew : w ≡ stands_in h.cursor.at h.cursor.within) (g : InGroup w channel) where
  abbrev group_records : Settings → Passed → List Dated
  group_records held y = records_by h.standing h.dates (records_in t) channel low y.defines held

  -- Before the first definition the settings are what stood.
  abbrev Stood : Settings → Passed → Type 0
  Stood held y = y.defines ≡ false → held ≡ stood h.standing h.dates (records_in t) channel low

  counted : eqb h.standing.counted 0 ≡ false
  counted = ne_eqb h.standing.counted 0 (λ n. let x : ⊥ = omega (arith, some) in x)

  group_one : (u : List ℕ) (place : ℕ) (held next : Settings) (y : Passed) → InStretch h.standing.little h.standing.root held u next → Stood held y
      → Carries q (stand_of h t) around h.standing.little h.standing.root (λ _. h.standing) (λ _. h.dates) group_records Stood u place held next y
  unfolding effect_turn
  group_one u place held next y p j =
      let st = h.standing in
      let here = stands_in h.cursor.at h.cursor.within in
      let stands : Cursor → List Dated → Option Attribute → Turn = λ d records k. on (stand d st h.dates records (passed_item k y).items h.frames) in
      ⊎_elim
      (λ a. record {
        effect = Ok (Effect.One channel a.1);
        asks = a.4;
        leads = λ c d.
            ap (λ (r : List Dated). stands d r (Some a.0)) (sym (noted_more st h.dates (records_in t) channel low y.defines held j a.1))
            ∙ (λ i. stands d (group_records (sym a.5 i) (passed_item (sym a.2 i) y)) (sym a.2 i));
        also = subst (λ (k : Option Attribute). Stood next (passed_item k y)) (sym a.2) (λ f. absurd (subst Truth f tt));
      })
      (λ a. record {
        effect = (Ok Effect.Pass);
        asks = a.1;
        leads = λ c d. (λ i. stands d (group_records (sym a.2 i) (passed_item (sym a.0 i) y)) (sym a.0 i));
        also = subst (λ (k : Option Attribute). Stood next (passed_item k y)) (sym a.0) (λ f. a.2 ∙ j f);
      })
      (group_asks u st channel counted here (subst (λ (z : Within). InGroup z channel) ew g) place held next p)

  module _ {held : Settings} {a : Stretch} {octets : List ℕ} {y : Passed} {mark : ℕ} (near : h.cursor.at + length q ≤ octets_limit) (fits : Fits (stands_in h.cursor.at h.cursor.within) (h.cursor.at + length q))
      (eh : held ≡ settled_at h.standing.root h.dates (get_or (records_in t) channel zero_dated)) (e : a ≡ stretch_of q (cursor 0 Within.Root) h.standing.little h.standing.root held) (taken : a.at ≡ 0 → ⊥)
      (eo : octets ≡ take a.at q) (ey : y ≡ passed_over octets (passed_from h.dates h.items)) (em : mark ≡ group_at (stands_in (h.cursor.at + a.at) w) (cut_at w h.cursor.at around)) where
    abbrev group_ahead : Ahead
    group_ahead = record { head = record { cursor = cursor (h.cursor.at + a.at) w; standing = h.standing; dates = h.dates; items = y.items; frames = h.frames }; around = mark; taken = a.at }

    group_goes : (t' : List ℕ) → records_in t' ≡ group_records a.settings y → length t' ≡ length t → PastKept t t' → GoesAhead q h around t group_ahead t'
    group_goes t' er long past =
        let x = stand_of h t in
        let from = h.cursor.at in
        let p =
        behind_law q x around h.standing.little h.standing.root (λ _. h.standing) (λ _. h.dates) group_records Stood near fits group_one
        held (passed_from h.dates h.items) e (ey ∙ ap (λ (z : List ℕ). passed_over z (passed_from h.dates h.items)) eo) refl (λ _. eh) taken in
        record {
          inside = p.inside;
          long = long;
          past = past;
          place = refl;
          leads = λ v.
              subst (λ (l : Link). Leads (between x around v) (take a.at q) l [])
              (group_link h around ew (sym er) a.at y.items v em)
              (p.leads v);
        }

    pub group_put : {x : Dated} {t' : List ℕ} → y.defines ≡ true → x ≡ noted h.dates.now a.settings → Holding t (set (records_in t) channel x) t' → GoesAhead q h around t group_ahead t'
    group_put {t' = t'} b ex o =
        group_goes t'
        (o.records ∙ ap (set (records_in t) channel) ex ∙ ap (λ (j : Bool). records_by h.standing h.dates (records_in t) channel low j a.settings) (sym b))
        o.long (past_put o)

    pub group_kept : y.defines ≡ false → GoesAhead q h around t group_ahead t
    group_kept b = group_goes t (ap (λ (j : Bool). records_by h.standing h.dates (records_in t) channel low j a.settings) (sym b)) refl (record { same = λ m _. refl })
