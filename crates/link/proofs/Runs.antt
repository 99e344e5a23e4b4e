-- Octets that are fed at once, as a call takes them.
--     feed_steady            octets behind none of which a call stops: it goes on behind them
--     feed_stops, feed_full  the octet behind which it stops; the octet for whose sample there is no room
--     waits_run, value_run   octets of an item that only have to come
--     surplus_run, part_run, whole-steps, whole-gives    octets of a waveform: surplus, a part of a sample, and its last one
-- Assumes nothing.
use Prim.Native.Nat.{ℕ, zero, suc, ◌+◌, ◌-◌, ◌≤◌, ◌<◌}
use mathlib.Core.Path.{◌≡◌, refl, sym, ◌∙◌, ap, subst}
use mathlib.Core.List.{List, [], ◌∷◌, ◌++◌, append_assoc, append-nil}
use mathlib.Core.Bool.{Bool, true, false}
use native.Mathlib.Omega.{arith}
use borrow.Author.Tests.{lt-ltb, le-ltb, lt-leb, ne_eqb}
use lib.Dec.{ltb}
use native.Mathlib.Nat.{min-le_left}
use lib.ListN.{length, get_or, take, length-append, length-take}
use lib.Seq.{take_all}
use Rattle.octets.specs.Pick.{pick}
use Rattle.heads.specs.declared.Refusal.{Refusal}
use Rattle.dated.specs.Dated.{zero_dated}
use Rattle.layout.specs.Frame.{width_in}
use Rattle.standing.specs.Standing.{octets_limit}
use Rattle.walk.specs.declared.Waveform.{Waveform}
use Rattle.walk.specs.Advance.{Stand}
use Rattle.link.specs.Link.{Coming, coming, Given, Phase, value, waveform, waits, Link, link, waiting, waved, valued, kept_limit, next_coming, sample_on, given_as, taken_in, is_decided, stepped, fed_with, sample_by, gives_in, gives, given_by}
use Rattle.link.specs.Feed.{fed, is_head, due, onto, feed_of}
use Rattle.link.specs.Runs.{stops_behind, Steady, behind, Leads}
use Rattle.link.proofs.Fed.{kept_on}
use Rattle.link.proofs.Results.{fed_pieces_lem, given_pieces_lem}

-- ---- calls

pub feed_steady : (room : ℕ) (l : Link) (u s : List ℕ) → Steady l u → length (given_by l u) ≤ room
    → feed_of room l (u ++ s) ≡ behind (length u) (given_by l u) (feed_of (room - length (given_by l u)) (fed_with l u) s)
unfolding feed_of fed_with given_by
feed_steady room l [] s p h =
    let e : room - 0 ≡ room = omega arith in
    let more = feed_of room l s in
    let n : more.taken ≡ 0 + more.taken = omega arith in
    (λ i. fed (n i) more.link more.given) ∙ ap (λ (k : ℕ). behind 0 [] (feed_of k l s)) (sym e)
feed_steady room l (b ∷ u) s p h =
    let m = stepped l b in
    let g = gives l b in
    let k = length-append g (given_by m u) in
    let fits : length g ≤ room = omega arith in
    let q = feed_steady (room - length g) m u s p.2 (omega arith) in
    let e : room - length g - length (given_by m u) ≡ room - length (g ++ given_by m u) = omega arith in
    let rest = feed_of (room - length (g ++ given_by m u)) (fed_with m u) s in
    let n : suc (length u + rest.taken) ≡ suc (length u) + rest.taken = omega arith in
    simp (p.0, le-ltb room (length g) fits, p.1)
    (ap (onto g) (q ∙ ap (λ (r : ℕ). behind (length u) (given_by m u) (feed_of r (fed_with m u) s)) e)
    ∙ (λ i. fed (n i) rest.link (sym (append_assoc g (given_by m u) rest.given) i)))

-- The octet behind which it stops.
pub feed_stops : (room : ℕ) (l : Link) (b : ℕ) (s : List ℕ) → is_decided l.phase ≡ false → length (gives l b) ≤ room → stops_behind l b ≡ true → feed_of room l (b ∷ s) ≡ fed 1 (stepped l b) (gives l b)
unfolding feed_of
feed_stops room l b s e h k = simp (e, le-ltb room (length (gives l b)) h, k)

-- The octet for whose sample there is no room.
pub feed_full : (room : ℕ) (l : Link) (b : ℕ) (s : List ℕ) → is_decided l.phase ≡ false → room < length (gives l b) → feed_of room l (b ∷ s) ≡ fed 0 l []
unfolding feed_of
feed_full room l b s e h = simp (e, lt-ltb room (length (gives l b)) h)

-- After an answer it takes nothing.
pub feed_answered : (room : ℕ) (l : Link) (s : List ℕ) → is_decided l.phase ≡ true → feed_of room l s ≡ fed 0 l []
unfolding feed_of
feed_answered room l [] e = refl
feed_answered room l (b ∷ s) e = simp e

-- ---- octets that only have to come

pub leads-none : (l : Link) → Leads l [] l []
unfolding fed_with given_by
leads-none l = record { steady = tt; link = refl; given = refl }

-- Octets, and those behind them.
steady-both : (u : List ℕ) (l : Link) (v : List ℕ) → Steady l u → Steady (fed_with l u) v → Steady l (u ++ v)
unfolding fed_with
steady-both [] l v p q = q
steady-both (b ∷ u) l v p q = (p.0, p.1, steady-both u (stepped l b) v p.2 q)

pub leads-both : {l m n : Link} {u v : List ℕ} {g h : List Given} → Leads l u m g → Leads m v n h → Leads l (u ++ v) n (g ++ h)
leads-both {l} {u = u} {v = v} {g = g} p q =
    record {
      steady = steady-both u l v p.steady (subst (λ (x : Link). Steady x v) (sym p.link) q.steady);
      link = fed_pieces_lem l u v ∙ ap (λ (x : Link). fed_with x v) p.link ∙ q.link;
      given = given_pieces_lem l u v ∙ (λ i. p.given i ++ given_by (p.link i) v) ∙ ap (λ (x : List Given). g ++ x) q.given;
    }

-- One octet and the others.
leads-more : (l m n : Link) (b : ℕ) (u : List ℕ) (g h : List Given) → is_decided l.phase ≡ false → stepped l b ≡ m → gives l b ≡ g → stops_behind l b ≡ false → Leads m u n h → Leads l (b ∷ u) n (g ++ h)
unfolding fed_with given_by
leads-more l m n b u g h e s k q p =
    record {
      steady = (e, q, subst (λ (x : Link). Steady x u) (sym s) p.steady);
      link = ap (λ (x : Link). fed_with x u) s ∙ p.link;
      given = (λ i. k i ++ given_by (s i) u) ∙ ap (λ (x : List Given). g ++ x) p.given;
    }

-- Outside heads no settings are due.
not-due : (l m : Link) (b : ℕ) → is_head l.phase ≡ false → stepped l b ≡ m → is_decided m.phase ≡ false → stops_behind l b ≡ false
unfolding due
not-due l m b h s e = rw (s, e, h)

module _ (n : ℕ) (x : Stand) (around : ℕ) (v : Waveform) where
  abbrev in_phase : ℕ → Phase → Link
  in_phase k p = link k x around v p

  -- Within the limit and before an answer an octet is taken.
  steps_to : (p : Phase) (b : ℕ) → n < octets_limit → is_decided p ≡ false → stepped (in_phase n p) b ≡ taken_in b p (in_phase (n + 1) p)
  unfolding stepped
  steps_to p b h e = simp (e, lt-leb octets_limit n h)

  gives_of : (p : Phase) (b : ℕ) → n < octets_limit → gives (in_phase n p) b ≡ gives_in b p (in_phase (n + 1) p)
  unfolding gives
  gives_of p b h = simp (lt-leb octets_limit n h)

-- A refusal that waits for more.
pub waits_run : (n : ℕ) (x : Stand) (around : ℕ) (v : Waveform) (left : ℕ) (r : Refusal) (u : List ℕ) → length u < left → n + length u ≤ octets_limit
    → Leads (link n x around v (waits left r)) u (link (n + length u) x around v (waits (left - length u) r)) []
unfolding taken_in gives_in waiting
waits_run n x around v left r [] h k =
    let a : n ≡ n + 0 = omega arith in
    let c : left ≡ left - 0 = omega arith in
    subst (λ (m : Link). Leads (link n x around v (waits left r)) [] m []) (λ i. link (a i) x around v (waits (c i) r)) (leads-none (link n x around v (waits left r)))
waits_run n x around v left r (b ∷ u) h k =
    let l = link n x around v (waits left r) in
    let m = link (n + 1) x around v (waits (left - 1) r) in
    let some : left - 1 ≡ 0 → ⊥ = λ z. omega arith in
    let s : stepped l b ≡ m = steps_to n x around v (waits left r) b (omega arith) refl ∙ simp (ne_eqb (left - 1) 0 some) in
    let a : n + 1 + length u ≡ n + suc (length u) = omega arith in
    let c : left - 1 - length u ≡ left - suc (length u) = omega arith in
    leads-more l m (link (n + suc (length u)) x around v (waits (left - suc (length u)) r)) b u [] [] refl s (gives_of n x around v (waits left r) b (omega arith)) (not-due l m b refl s refl)
    (subst (λ (z : Link). Leads m u z []) (λ i. link (a i) x around v (waits (c i) r)) (waits_run (n + 1) x around v (left - 1) r u (omega arith) (omega arith)))

-- What is kept of a value.
kept-all : (p u : List ℕ) (b : ℕ) → take kept_limit (take kept_limit (p ++ (b ∷ [])) ++ u) ≡ take kept_limit (p ++ (b ∷ u))
kept-all p u b = kept_on kept_limit (p ++ (b ∷ [])) u ∙ ap (take kept_limit) (append_assoc p (b ∷ []) u)

-- A value of which more is to come.
pub value_run : (n : ℕ) (x : Stand) (around : ℕ) (v : Waveform) (tag left : ℕ) (kept u : List ℕ) → length kept ≤ kept_limit → length u < left → n + length u ≤ octets_limit
    → Leads (link n x around v (value tag left kept)) u (link (n + length u) x around v (value tag (left - length u) (take kept_limit (kept ++ u)))) []
unfolding taken_in gives_in valued
value_run n x around v tag left kept [] f h k =
    let a : n ≡ n + 0 = omega arith in
    let c : left ≡ left - 0 = omega arith in
    let d : kept ≡ take kept_limit (kept ++ []) = sym (ap (take kept_limit) (append-nil kept) ∙ take_all kept_limit kept f) in
    subst (λ (m : Link). Leads (link n x around v (value tag left kept)) [] m []) (λ i. link (a i) x around v (value tag (c i) (d i))) (leads-none (link n x around v (value tag left kept)))
value_run n x around v tag left kept (b ∷ u) f h k =
    let l = link n x around v (value tag left kept) in
    let now = take kept_limit (kept ++ (b ∷ [])) in
    let m = link (n + 1) x around v (value tag (left - 1) now) in
    let some : left - 1 ≡ 0 → ⊥ = λ z. omega arith in
    let s : stepped l b ≡ m = steps_to n x around v (value tag left kept) b (omega arith) refl ∙ simp (ne_eqb (left - 1) 0 some) in
    let a : n + 1 + length u ≡ n + suc (length u) = omega arith in
    let c : left - 1 - length u ≡ left - suc (length u) = omega arith in
    let short : length now ≤ kept_limit = rw length-take (min-le_left kept_limit (length (kept ++ (b ∷ [])))) in
    leads-more l m (link (n + suc (length u)) x around v (value tag (left - suc (length u)) (take kept_limit (kept ++ (b ∷ u))))) b u [] [] refl s (gives_of n x around v (value tag left kept) b (omega arith)) (not-due l m b refl s refl)
    (subst (λ (z : Link). Leads m u z []) (λ i. link (a i) x around v (value tag (c i) (kept-all kept u b i))) (value_run (n + 1) x around v tag (left - 1) now u short (omega arith) (omega arith)))

-- ---- octets of a waveform

waved_open : (left : ℕ) (t : Coming) → is_decided (waved left t) ≡ false
unfolding waved
waved_open zero t = refl
waved_open (suc left) t = refl

pub waved-some : (left : ℕ) (t : Coming) → 0 < left → waved left t ≡ waveform left t
unfolding waved
waved-some zero t h = let z : ⊥ = omega arith in absurd z
waved-some (suc left) t h = refl

module _ (x : Stand) (around : ℕ) (v : Waveform) where
  abbrev pub at_sample : ℕ → ℕ → Coming → Link
  at_sample n left t = link n x around v (waveform left t)

  -- One octet, and what becomes of the sample that is coming.
  abbrev pub next_sample : ℕ → ℕ → Coming → ℕ → Coming
  next_sample n left t b = pick (ltb t.sequence v.sequences) (sample_on (at_sample (n + 1) left t) t (t.octets ++ (b ∷ []))) t

  pub wave_steps : (n left : ℕ) (t : Coming) (b : ℕ) → n < octets_limit → stepped (at_sample n left t) b ≡ link (n + 1) x around v (waved (left - 1) (next_sample n left t b))
  unfolding taken_in
  wave_steps n left t b h = steps_to n x around v (waveform left t) b h refl

  pub wave_gives : (n left : ℕ) (t : Coming) (b : ℕ) → n < octets_limit → gives (at_sample n left t) b ≡ pick (ltb t.sequence v.sequences) (sample_by (at_sample (n + 1) left t) t (t.octets ++ (b ∷ []))) []
  unfolding gives_in
  wave_gives n left t b h = gives_of n x around v (waveform left t) b h

  pub wave_open : (n left : ℕ) (t : Coming) (b : ℕ) → n < octets_limit → stops_behind (at_sample n left t) b ≡ false
  wave_open n left t b h =
      not-due (at_sample n left t) (link (n + 1) x around v (waved (left - 1) (next_sample n left t b))) b refl (wave_steps n left t b h) (waved_open (left - 1) (next_sample n left t b))

  -- Octets that give nothing out, where each leaves a sample that is coming: P t u says of a sample t and octets u what it takes, and t with u is `with t u`.
  module _ (P : Coming → List ℕ → Type 0) (with : Coming → List ℕ → Coming) (none : (t : Coming) → with t [] ≡ t)
      (next : (n left : ℕ) (t : Coming) (b : ℕ) (u : List ℕ) → P t (b ∷ u)
      → (with (next_sample n left t b) u ≡ with t (b ∷ u)) × P (next_sample n left t b) u × (pick (ltb t.sequence v.sequences) (sample_by (at_sample (n + 1) left t) t (t.octets ++ (b ∷ []))) [] ≡ [])) where
    quiet_run : (u : List ℕ) (n left : ℕ) (t : Coming) → P t u → length u ≤ left → n + length u ≤ octets_limit
        → Leads (link n x around v (waved left t)) u (link (n + length u) x around v (waved (left - length u) (with t u))) []
    quiet_run [] n left t p h k =
        let a : n ≡ n + 0 = omega arith in
        let c : left ≡ left - 0 = omega arith in
        subst (λ (m : Link). Leads (link n x around v (waved left t)) [] m []) (λ i. link (a i) x around v (waved (c i) (sym (none t) i))) (leads-none (link n x around v (waved left t)))
    quiet_run (b ∷ u) n left t p h k =
        let q = next n left t b u p in
        let m = link (n + 1) x around v (waved (left - 1) (next_sample n left t b)) in
        let a : n + 1 + length u ≡ n + suc (length u) = omega arith in
        let c : left - 1 - length u ≡ left - suc (length u) = omega arith in
        let end = link (n + suc (length u)) x around v (waved (left - suc (length u)) (with t (b ∷ u))) in
        subst (λ (z : Phase). Leads (link n x around v z) (b ∷ u) end []) (sym (waved-some left t (omega arith)))
        (leads-more (at_sample n left t) m end b u [] [] refl (wave_steps n left t b (omega arith)) (wave_gives n left t b (omega arith) ∙ q.2) (wave_open n left t b (omega arith))
        (subst (λ (z : Link). Leads m u z []) (λ i. link (a i) x around v (waved (c i) (q.0 i))) (quiet_run u (n + 1) (left - 1) (next_sample n left t b) q.1 (omega arith) (omega arith))))

  -- Behind the frame's sequences.
  pub surplus_run : (u : List ℕ) (n left : ℕ) (t : Coming) → v.sequences ≤ t.sequence → length u ≤ left → n + length u ≤ octets_limit
      → Leads (link n x around v (waved left t)) u (link (n + length u) x around v (waved (left - length u) t)) []
  surplus_run =
      quiet_run (λ t u. v.sequences ≤ t.sequence) (λ t u. t) (λ t. refl)
      (λ n left t b u h. let e = le-ltb t.sequence v.sequences h in (ap (λ (y : Bool). pick y (sample_on (at_sample (n + 1) left t) t (t.octets ++ (b ∷ []))) t) e, rw e h, rw e refl))

  -- A part of a sample.
  abbrev pub width_of_next : Coming → ℕ
  width_of_next t = width_in (get_or x.records t.channel zero_dated).settings

  abbrev pub with_octets : Coming → List ℕ → Coming
  with_octets t u = coming t.sequence t.channel t.index (t.octets ++ u)

  abbrev Part : Coming → List ℕ → Type 0
  Part t u = (t.sequence < v.sequences) × (length t.octets + length u < width_of_next t)

  pub part_run : (u : List ℕ) (n left : ℕ) (t : Coming) → t.sequence < v.sequences → length t.octets + length u < width_of_next t → length u ≤ left → n + length u ≤ octets_limit
      → Leads (link n x around v (waved left t)) u (link (n + length u) x around v (waved (left - length u) (with_octets t u))) []
  part_run u n left t q h =
      quiet_run Part with_octets (λ t. ap (coming t.sequence t.channel t.index) (append-nil t.octets)) part_next u n left t (q, h)
    where
      part_next : (n left : ℕ) (t : Coming) (b : ℕ) (u : List ℕ) → Part t (b ∷ u)
          → (with_octets (next_sample n left t b) u ≡ with_octets t (b ∷ u)) × Part (next_sample n left t b) u × (pick (ltb t.sequence v.sequences) (sample_by (at_sample (n + 1) left t) t (t.octets ++ (b ∷ []))) [] ≡ [])
      part_next n left t b u p = unfold sample_on sample_by in
          let k = length-append t.octets (b ∷ []) in
          let e = lt-ltb t.sequence v.sequences p.0 in
          let f = lt-ltb (length (t.octets ++ (b ∷ []))) (width_of_next t) (omega (arith, p.1)) in
          (simp (e, f) (ap (coming t.sequence t.channel t.index) (append_assoc t.octets (b ∷ []) u)), simp (e, f) (p.0, omega (arith, p.1)), simp (e, f) refl)

  -- The octet with which a sample is complete.
  module _ (n left : ℕ) (t : Coming) (b : ℕ) (near : n < octets_limit) (q : t.sequence < v.sequences) (h : width_of_next t ≤ length (t.octets ++ (b ∷ []))) where
    pub whole-steps : stepped (at_sample n left t) b ≡ link (n + 1) x around v (waved (left - 1) (next_coming (get_or x.records t.channel zero_dated).settings.block v.channels t))
    unfolding sample_on
    whole-steps = wave_steps n left t b near ∙ simp (lt-ltb t.sequence v.sequences q, le-ltb (length (t.octets ++ (b ∷ []))) (width_of_next t) h)

    pub whole-gives : gives (at_sample n left t) b ≡ given_as (at_sample (n + 1) left t) t (t.octets ++ (b ∷ [])) ∷ []
    unfolding sample_by
    whole-gives = wave_gives n left t b near ∙ simp (lt-ltb t.sequence v.sequences q, le-ltb (length (t.octets ++ (b ∷ []))) (width_of_next t) h)
