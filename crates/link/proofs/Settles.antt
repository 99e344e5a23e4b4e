-- No refusal could have come earlier: while a link has not decided, longer files differ in their verdicts.
--     fed_settles        where every longer file has the refusal, the link has decided
--     decided_exactly    so it decides as soon as the refusal is settled, and not before
-- A file that ends inside an item is 3 there, or at the definite group around it. Zeros that complete the item or the group lead past that place.
-- Assumes nothing.
use Rattle.std.specs.Prelude.{Result, Ok, Err, Option, Some, None}
use Rattle.heads.specs.declared.Fault.{Fault}
use Rattle.heads.specs.declared.ItemHead.{ItemHead}
use Prim.Native.Nat.{ℕ, suc, ◌+◌, ◌-◌, ◌≤◌, ◌<◌}
use mathlib.Core.Path.{◌≡◌, refl, sym, ◌∙◌, ap, subst}
use mathlib.Core.List.{List, [], ◌∷◌, ◌++◌, append-nil, append_assoc}
use mathlib.Core.Logic.{◌↔◌}
use native.Mathlib.Omega.{arith}
use lib.ListN.{length, drop, replicate, length-append, length-drop, length-replicate}
use Rattle.heads.specs.Head.{unknown_context, form_of}
use Rattle.heads.specs.declared.Fault.TheVariants.{ContextTag, PastEnd, UnendedGroup}
use Rattle.heads.specs.Answer.{Answer, refused_as}
use Rattle.heads.proofs.Forms.{IfMore, form_found, form_wants}
use Rattle.items.specs.declared.Within.{Within}
use Rattle.items.specs.declared.Within.TheVariants.{Root}
use Rattle.items.specs.Walk.{refusal, cursor, is_inside}
use Rattle.layout.specs.Frame.{Frame}
use Rattle.standing.specs.Standing.{octets_limit}
use Rattle.verdict.specs.Verdict.{refused, unlimited, checked_as}
use Rattle.verdict.proofs.Cuts.{CutsFrom, cuts_less, reached_cuts, found_cuts}
use Rattle.walk.specs.Advance.{Stand}
use Rattle.walk.proofs.Joins.{Stands}
use Rattle.link.specs.Link.{Given, Phase, head, value, waveform, waits, decided, Link, Fresh, cut_at, fed_with, given_by, ended_in, end_in}
use Rattle.link.proofs.Seen.{ends_in, Whole, Inside, next_faulty, next_fits, next_definite, next_open}
use Rattle.link.proofs.Grown.{grown_long, drop_grown}
use Rattle.link.proofs.Item.{found_item}
use Rattle.link.proofs.Follows.{within_of, Outer, Resumes, fault-is, Begun, FollowsIn, Follows}
use Rattle.link.proofs.Steps.{room-begun, cut_before}
use Rattle.link.proofs.Fed.{alone, fed_follows, end_follows}
use Rattle.link.proofs.Results.{fed_settled}
use Rattle.link.proofs.Told.{ends_there}

-- ---- an item that has all its octets

-- How many they are, by its head.
abbrev span_of : Result (Option ItemHead) Fault → ℕ
span_of (Ok None) = 0
span_of (Err fault) = 0
span_of (Ok (Some (ItemHead.Primitive tag start len))) = start + len
span_of (Ok (Some (ItemHead.Definite channel start len))) = start + len
span_of (Ok (Some (ItemHead.Open channel start))) = start

-- A file is not cut off there.
module _ (s t : List ℕ) (met : List Frame) (x : Stand) (here : x.cursor.at < length s) (inside : Inside (within_of x) (length s)) (whole : Whole (within_of x) (length (s ++ t))) (p : Stands (s ++ t) met x) where
  item_cuts : (f : Result (Option ItemHead) Fault) → form_of (is_inside (within_of x)) (drop x.cursor.at s) ≡ f → (f ≡ Ok None → ⊥) → span_of f ≤ ends_in (within_of x) (length (s ++ t)) - x.cursor.at
      → CutsFrom (suc x.cursor.at) (unlimited (s ++ t))
  item_cuts (Ok None) e n h = absurd (n refl)
  item_cuts (Err fault) e n h =
      subst (CutsFrom (suc x.cursor.at)) (sym (fault-is p (next_faulty s t x.cursor here inside whole fault e)))
      (λ z. absurd ((form_found (is_inside (within_of x)) (drop x.cursor.at s) refl e).1 z))
  item_cuts (Ok (Some (ItemHead.Primitive tag start len))) e n h =
      found_cuts p.reached (next_fits s t x.cursor here inside whole tag start len e h ∙ found_item (within_of x) x.cursor.at tag start len)
  item_cuts (Ok (Some (ItemHead.Definite channel start len))) e n h = found_cuts p.reached (next_definite s t x.cursor here inside whole channel start len e h)
  item_cuts (Ok (Some (ItemHead.Open channel start))) e n h = found_cuts p.reached (next_open s t x.cursor here inside whole channel start e)

-- ---- zeros that complete what is at hand

abbrev zeros : ℕ → List ℕ
zeros n = replicate n 0

zeros_long : (s : List ℕ) (n : ℕ) → length (s ++ zeros n) ≡ length s + n
zeros_long s n = length-append s (zeros n) ∙ ap (λ (k : ℕ). length s + k) (length-replicate n 0)

whole_filled : (w : Within) (n : ℕ) → ends_in w 0 ≤ n → Whole w n
whole_filled Within.Root n h = tt
whole_filled (Within.Definite channel end) n h = h
whole_filled (Within.Open channel place) n h = tt

-- Outside definite groups an item may take all octets of a file.
abbrev Free : Within → Type 0
Free w = (n : ℕ) → Whole w n × Inside w n × (ends_in w n ≡ n)

-- Some longer file is not cut off before this place.
abbrev Passes : List ℕ → ℕ → Type 0
Passes s k = (t : List ℕ) × CutsFrom k (unlimited (s ++ t))

module _ (s : List ℕ) (n : ℕ) (x : Stand) (around : ℕ) (gs : List Given) (p : Resumes s n x around gs) where
  abbrev at : ℕ
  at = x.cursor.at

  abbrev w : Within
  w = within_of x

  -- The definite group around.
  group_passes : {channel end : ℕ} → w ≡ Within.Definite channel end → Passes s (suc around)
  group_passes {channel} {end} e =
      let outer : around < at = subst (λ (z : Within). Outer z around at) e p.outer in
      (zeros end, cuts_less outer (unlimited (s ++ zeros end)) (reached_cuts (p.stands (zeros end) (rw e (omega (arith, zeros_long s end)))).reached))

  -- The value, and the group.
  value_passes : (tag left : ℕ) → Begun s x tag left → Passes s (suc (cut_at w at around))
  value_passes tag left i =
      let t = zeros (left + ends_in w 0) in
      let long = zeros_long s (left + ends_in w 0) in
      let whole = whole_filled w (length (s ++ t)) (omega (arith, long)) in
      let room = room-begun w (length (s ++ t)) (length s + left) (omega (arith, long)) i.fits in (
        t,
        cuts_less (omega (arith, cut_before w around at p.outer)) (unlimited (s ++ t))
            (item_cuts s t p.met x i.here p.inside whole (p.stands t whole) (Ok (Some (ItemHead.Primitive tag i.start i.len))) i.form (λ z. subst (IfMore ⊥ (Unit {0})) z tt) (omega (arith, i.ends, room))),
      )

  -- The head, which takes ten octets at most, and the value.
  head_passes : at < length s → Free w → Passes s (suc at)
  head_passes here free =
      let now = s ++ zeros 10 in
      let f = form_of (is_inside w) (drop at now) in
      let t = zeros (span_of f) in
      let long = zeros_long s 10 in
      let is = append_assoc s (zeros 10) t in (
        zeros 10 ++ t,
        subst (λ (u : List ℕ). CutsFrom (suc at) (unlimited u)) is
            (item_cuts now t p.met x (omega (arith, long)) (free (length now)).1 (free (length (now ++ t))).0
            (subst (λ (u : List ℕ). Stands u p.met x) (sym is) (p.stands (zeros 10 ++ t) (free (length (s ++ (zeros 10 ++ t)))).0)) f refl
            (λ z. omega (arith, form_wants (is_inside w) (drop at now) z, length-drop at now, long))
            (omega (arith, (free (length (now ++ t))).2, zeros_long now (span_of f), long))),
      )

-- ---- an undecided link

module _ (s : List ℕ) (fault : Fault) (place : ℕ) (all : (t : List ℕ) → unlimited (s ++ t) ≡ refused (refusal fault place)) where
  -- The answer, if the file ends here.
  abbrev Ends : Answer ℕ → Type 0
  Ends a = refused_as fault place ≡ a

  -- It is not 3 at a place that a longer file passes.
  never : (k : ℕ) → Passes s (suc k) → Ends (refused_as PastEnd k) → ⊥
  never k c e =
      let three : fault ≡ PastEnd = cc in
      let same : place ≡ k = cc in
      omega (arith, subst (CutsFrom (suc k)) (all c.0) c.1 three)

  module _ (n : ℕ) (x : Stand) (around : ℕ) (gs : List Given) (p : Resumes s n x around gs) where
    -- Between two items. In an open group a context tag may follow, which is 1.
    between_ends : drop x.cursor.at s ≡ [] → (w : Within) → within_of x ≡ w → Ends (ended_in w around x.frames) → ⊥
    unfolding ended_in checked_as form_of unknown_context
    between_ends o Within.Root e d = let z : ◌≡◌ {A = ℕ} 0 1 = cc in omega arith
    between_ends o (Within.Definite channel end) e d = never around (group_passes s n x around gs p e) d
    between_ends o (Within.Open channel group) e d =
        let c : List ℕ = 0x20 ∷ [] in
        let come : drop x.cursor.at (s ++ c) ≡ c = drop_grown s 0x20 x.cursor.at p.before ∙ ap (λ (u : List ℕ). u ++ c) o in
        let faulty : Stands ((s ++ c) ++ []) p.met x → unlimited ((s ++ c) ++ []) ≡ refused (refusal ContextTag x.cursor.at) =
        λ k. fault-is k (next_faulty (s ++ c) [] x.cursor (omega (arith, grown_long s 0x20, p.before)) (rw e tt) (rw e tt) ContextTag (ap (form_of (is_inside (within_of x))) come)) in
        let one : Ends (refused_as ContextTag x.cursor.at) = ap checked_as (sym (all c) ∙ rw (append-nil (s ++ c)) at faulty (p.stands c (rw e tt))) in
        let ten : refused_as ContextTag x.cursor.at ≡ refused_as UnendedGroup group = sym one ∙ d in
        cc

    -- In a head.
    head-ends : x.cursor.at < length s → (w : Within) → within_of x ≡ w → Ends (refused_as PastEnd (cut_at w x.cursor.at around)) → ⊥
    head-ends here Within.Root e d = never x.cursor.at (head_passes s n x around gs p here (subst Free (sym e) (λ k. (tt, tt, refl)))) d
    head-ends here (Within.Definite channel end) e d = never around (group_passes s n x around gs p e) d
    head-ends here (Within.Open channel group) e d = never x.cursor.at (head_passes s n x around gs p here (subst Free (sym e) (λ k. (tt, tt, refl)))) d

  -- In each phase but the last a longer file has another verdict.
  link_settles : (gs : List Given) (l : Link) → Follows s gs l → l.phase ≡ decided (refused_as fault place)
  unfolding checked_as end_in
  link_settles gs l p = by l.phase p (ap checked_as (sym (alone (λ (u : List ℕ). unlimited u ≡ refused (refusal fault place)) s (all []))) ∙ end_follows s gs l p)
    where
      x : Stand
      x = l.stand

      by : (q : Phase) → FollowsIn s l.count x l.around l.frame gs q → Ends (end_in q l) → q ≡ decided (refused_as fault place)
      by (head []) f e = absurd (between_ends l.count x l.around gs f.resumes f.octets (within_of x) refl e)
      by (head (b ∷ u)) f e =
          let here : x.cursor.at < length s = omega (arith, ap length f.octets, length-drop x.cursor.at s) in
          absurd (head-ends l.count x l.around gs f.resumes here (within_of x) refl e)
      by (value tag left kept) f e = absurd (never _ (value_passes s l.count x l.around gs f.resumes tag left f.item) e)
      by (waveform left t) f e =
          let end : length s + left ≡ length (s ++ zeros left) = sym (zeros_long s left) in
          let stands = (f.0.stands (zeros left) (omega (arith, end))).0 in
          let taken = sym (all (zeros left)) ∙ ends_there stands (f.0.behind ∙ ap (λ (i : ℕ). cursor i Root) end) in
          let z : ◌≡◌ {A = ℕ} 0 1 = cc in
          let a : ⊥ = omega arith in
          absurd a
      by (waits left r) f e = absurd (never l.around (zeros left, f.0.passes f.1 (zeros left) (omega (arith, zeros_long s left))) e)
      by (decided a) f e = ap decided (sym e)

-- ---- every link

pub fed_settles : {l₀ : Link} → Fresh l₀ → (s : List ℕ) (fault : Fault) (place : ℕ) → length s ≤ octets_limit → ((t : List ℕ) → unlimited (s ++ t) ≡ refused (refusal fault place)) → (fed_with l₀ s).phase ≡ decided (refused_as fault place)
fed_settles {l₀} fresh s fault place h all = link_settles s fault place all (given_by l₀ s) (fed_with l₀ s) (fed_follows fresh s h)

pub decided_exactly : {l₀ : Link} → Fresh l₀ → (s : List ℕ) (fault : Fault) (place : ℕ) → length s ≤ octets_limit
    → ((fed_with l₀ s).phase ≡ decided (refused_as fault place)) ↔ ((t : List ℕ) → unlimited (s ++ t) ≡ refused (refusal fault place))
decided_exactly fresh s fault place h = (fed_settled fresh s fault place h, fed_settles fresh s fault place h)
