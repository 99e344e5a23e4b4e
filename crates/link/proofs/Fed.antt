-- One octet more, in each phase; and all octets of a file.
--     headed_follows     the octets of a head
--     stepped_follows    one octet more, within the limit
--     fed_follows        all octets that were fed
--     end_follows        the answer, if the file ends here
--     accepted-given     what was given out, if the file is accepted that ends here
-- Assumes nothing.
use Rattle.heads.specs.declared.Fault.{Fault}
use Rattle.heads.specs.declared.ItemHead.{ItemHead}
use Rattle.std.specs.Prelude.{Result, Ok, Err, Option, None, Some}
use Rattle.items.specs.declared.Item.{Item}
use Rattle.items.specs.declared.Cursor.{Cursor}
use Prim.Native.Nat.{ℕ, zero, suc, ◌+◌, ◌-◌, ◌≤◌, ◌<◌}
use mathlib.Core.Path.{◌≡◌, refl, sym, ◌∙◌, ap, subst}
use mathlib.Core.List.{List, [], ◌∷◌, ◌++◌, append-nil, append_assoc}
use mathlib.Core.Bool.{Bool, true, false}
use mathlib.Core.Logic.{inl}
use native.Mathlib.Omega.{arith}
use borrow.Author.Tests.{ltb-true, ltb-false, eqb-true, eqb-false, lt-leb}
use lib.Dec.{ltb, leb, eqb}
use lib.ListN.{length, take, drop, length-append, length-take, length-drop, drop_of_length-le}
use lib.Seq.{take-nil}
use Rattle.octets.proofs.Pick.{pick_cases}
use Rattle.heads.specs.declared.Refusal.{Refusal}
use Rattle.heads.specs.Head.{root_only, form_of}
use Rattle.heads.specs.declared.Fault.TheVariants.{PastEnd}
use Rattle.heads.specs.Answer.{Answer, answered, refused_as}
use Rattle.heads.proofs.Forms.{FormKept, form_keeps, FormExact, form_exact, Allowed, inside_allowed}
use Rattle.items.specs.declared.Within.{Within}
use Rattle.items.specs.declared.Within.TheVariants.{Root}
use Rattle.items.specs.Walk.{refusal, cursor, is_inside, extent, ended, next_of}
use Rattle.items.proofs.Walks.{next-none}
use Rattle.layout.specs.Frame.{Frame}
use Rattle.standing.specs.Standing.{octets_limit}
use Rattle.verdict.specs.Verdict.{Verdict, accepted, refused, unlimited, checked_as}
use Rattle.verdict.proofs.Cuts.{CutsFrom}
use Rattle.walk.specs.declared.Waveform.{Waveform}
use Rattle.walk.specs.Advance.{Stand, next_turn, turn_of}
use Rattle.walk.proofs.Joins.{Stands, TurnStands, Near, turn_stands, stands_cleared}
use Rattle.walking.specs.Steps.{no_waveform}
use Rattle.link.specs.Link.{Given, Phase, head, value, waveform, waits, decided, Link, link, fresh_link, Fresh, cut_at, waiting, valued, done_item, kept_limit, primitive_begins, confined, seen_in, headed, counted, taken_in, is_decided, stepped, fed_with, gives_in, gives, given_by, ended_in, end_in, end_answer}
use Rattle.link.specs.Order.{frames_given}
use Rattle.link.proofs.Seen.{ends_in, Whole, Inside, tail_of, longer, next_faulty, next_wanting, next_past}
use Rattle.link.proofs.Item.{Plainly}
use Rattle.link.proofs.Follows.{within_of, Cut, Resumes, fault-is, Silent, InHead, Begun, InValue, Sure, Settled, FollowsIn, Follows, waiting_follows}
use Rattle.link.proofs.Grown.{grown, grown_long, to_grown, of_grown, drop_grown}
use Rattle.link.proofs.Waves.{wave_on}
use Rattle.link.proofs.Steps.{inside_less, room-begun, next_follows, waved_follows, done_follows, definite_follows, open_follows, wave_follows, fault_follows}

-- ---- the octets of a head

pub true_false : true ≡ false → ⊥
true_false e = let w : ◌≡◌ {A = ℕ} 0 1 = cc in let v : ⊥ = omega arith in v

module _ (s : List ℕ) (n : ℕ) (x : Stand) (around : ℕ) (v : Waveform) (ph : Phase) (gs : List Given) (limit : length s ≤ octets_limit) (silent : Silent v) (p : Resumes s n x around gs) (here : x.cursor.at < length s) where
  abbrev at : ℕ
  at = x.cursor.at

  abbrev w : Within
  w = within_of x

  abbrev come : List ℕ
  come = drop at s

  abbrev l : Link
  l = link n x around v ph

  -- More octets are wanted, and may come.
  more_follows : form_of (is_inside w) come ≡ Ok None → Inside w (suc (length s)) → Follows s gs (headed come (Ok None) l)
  unfolding headed
  more_follows e g = record { resumes = p; tells = inl silent; octets = refl; wants = e; goes = g }

  -- A fault of form, by what stands there in each file that has the group around.
  bad_follows : (fault : Fault) → ((t : List ℕ) → Whole w (length (s ++ t)) → next_of (s ++ t) x.cursor ≡ Err (refusal fault at)) → Follows s gs (headed come (Err fault) l)
  unfolding headed
  bad_follows fault f = fault_follows s n x around v ph gs limit silent p (refusal fault at) f

  faulty_follows : (fault : Fault) → form_of (is_inside w) come ≡ Err fault → Follows s gs (headed come (Err fault) l)
  faulty_follows fault e = bad_follows fault (λ t h. next_faulty s t x.cursor here p.inside h fault e)

  -- A value, of which nothing has come.
  value_follows : (tag start len : ℕ) → form_of (is_inside w) come ≡ Ok (Some (ItemHead.Primitive tag start len)) → at + start ≡ length s → Inside w (length s + len) → Plainly w tag → Follows s gs (valued tag len [] l)
  unfolding valued
  value_follows tag start len e all fits o =
      let none : [] ≡ take kept_limit (drop (at + start) s) = ap (take kept_limit) (sym (drop_of_length-le s {i = at + start} (omega arith))) in
      pick_cases (Follows s gs) (eqb len 0)
      (λ q.
      let z = eqb-true len 0 q in
      let i : Begun s x tag 0 = record { start = start; len = len; here = here; form = e; begun = omega arith; ends = omega arith; fits = rw z at fits } in
      subst (λ (u : List ℕ). Follows s gs (done_item tag u l)) (sym none) (done_follows s n x around v ph gs limit silent p tag i o))
      (λ q.
      let z = eqb-false len 0 q in
      record {
        resumes = p;
        silent = silent;
        item = record { start = start; len = len; here = here; form = e; begun = omega arith; ends = omega arith; fits = fits };
        some = omega arith;
        plain = o;
        keeps = none;
      })

  -- Outside groups.
  module _ (outside : w ≡ Root) where
    primitive_follows : (tag start len : ℕ) → form_of (is_inside w) come ≡ Ok (Some (ItemHead.Primitive tag start len)) → at + start ≡ length s → Follows s gs (headed come (Ok (Some (ItemHead.Primitive tag start len))) l)
    unfolding headed primitive_begins
    primitive_follows tag start len e all =
        pick_cases (Follows s gs) (eqb tag 0x1E)
        (λ q.
        let z = eqb-true tag 0x1E q in
        wave_follows s n x around v ph gs limit silent p outside 0 start here all len (e ∙ ap (λ (k : ℕ). Ok (Some (ItemHead.Primitive k start len))) z))
        (λ q. value_follows tag start len e all (rw outside tt) (rw outside (eqb-false tag 0x1E q)))

    root_follows : (f : Result (Option ItemHead) Fault) → form_of (is_inside w) come ≡ f → FormExact (length come) (Ok None) f → Follows s gs (headed come f l)
    unfolding headed
    root_follows (Ok None) e k = more_follows e (rw outside tt)
    root_follows (Err fault) e k = faulty_follows fault e
    root_follows (Ok (Some (ItemHead.Primitive tag start len))) e k = primitive_follows tag start len e (omega (arith, length-drop at s))
    root_follows (Ok (Some (ItemHead.Definite channel start len))) e k = definite_follows s n _ around v ph gs limit silent p outside channel start here (omega (arith, length-drop at s)) len e
    root_follows (Ok (Some (ItemHead.Open channel start))) e k = open_follows s n _ around v ph gs limit silent p outside channel start here (omega (arith, length-drop at s)) e

  -- In groups.
  module _ (inside : is_inside w ≡ true) where
    allowed : {f : Result (Option ItemHead) Fault} → form_of (is_inside w) come ≡ f → Allowed f
    allowed e = subst Allowed (sym (ap (λ (b : Bool). form_of b come) inside) ∙ e) (inside_allowed come)

    -- 1E is not allowed.
    no_wave : (tag start len : ℕ) → form_of (is_inside w) come ≡ Ok (Some (ItemHead.Primitive tag start len)) → tag ≡ 0x1E → ⊥
    unfolding root_only
    no_wave tag start len e z = true_false (ap root_only (sym z) ∙ allowed e)

    member_follows : (tag start len : ℕ) → form_of (is_inside w) come ≡ Ok (Some (ItemHead.Primitive tag start len)) → at + start ≡ length s → Inside w (length s + len) → Plainly w tag → Follows s gs (headed come (Ok (Some (ItemHead.Primitive tag start len))) l)
    unfolding headed primitive_begins
    member_follows tag start len e all fits o =
        pick_cases (Follows s gs) (eqb tag 0x1E) (λ q. absurd (no_wave tag start len e (eqb-true tag 0x1E q))) (λ q. value_follows tag start len e all fits o)

  -- What the octets of the head say, where they have come to.
  pub headed_follows : (z : Within) → w ≡ z → (f : Result (Option ItemHead) Fault) → form_of (is_inside w) come ≡ f → FormExact (length come) (Ok None) f → Follows s gs (headed come (seen_in z n f) l)
  unfolding seen_in confined
  headed_follows Within.Root ew f e k = root_follows ew f e k
  headed_follows (Within.Definite channel end) ew (Ok None) e k =
      pick_cases (λ (g : Result (Option ItemHead) Fault). Follows s gs (headed come g l)) (eqb (end - n) 0)
      (λ q.
      let z = eqb-true (end - n) 0 q in
      let none : end - length s ≡ 0 = omega (arith, p.counts) in
      bad_follows PastEnd (λ t h. next_wanting s t _ here p.inside h (rw (ew, none) refl) e))
      (λ q. let z = eqb-false (end - n) 0 q in more_follows e (rw ew (omega (arith, p.counts))))
  headed_follows (Within.Definite channel end) ew (Err fault) e k = faulty_follows fault e
  headed_follows (Within.Definite channel end) ew (Ok (Some (ItemHead.Primitive tag start len))) e k =
      let all : at + start ≡ length s = omega (arith, length-drop at s) in
      let i : length s ≤ end = rw ew at p.inside in
      pick_cases (λ (g : Result (Option ItemHead) Fault). Follows s gs (headed come g l)) (ltb (end - n) len)
      (λ q.
      let more = ltb-true (end - n) len q in
      bad_follows PastEnd (λ t h. next_past s t _ here p.inside h tag start len e (rw ew (omega arith)) (rw ew (omega (arith, p.counts)))))
      (λ q. let fits = ltb-false (end - n) len q in member_follows (rw ew refl) tag start len e all (rw ew (omega (arith, p.counts))) (rw ew tt))
  headed_follows (Within.Definite channel end) ew (Ok (Some (ItemHead.Definite c start len))) e k = absurd (allowed (rw ew refl) e)
  headed_follows (Within.Definite channel end) ew (Ok (Some (ItemHead.Open c start))) e k = absurd (allowed (rw ew refl) e)
  headed_follows (Within.Open channel place) ew (Ok None) e k = more_follows e (rw ew tt)
  headed_follows (Within.Open channel place) ew (Err fault) e k = faulty_follows fault e
  headed_follows (Within.Open channel place) ew (Ok (Some (ItemHead.Primitive tag start len))) e k =
      member_follows (rw ew refl) tag start len e (omega (arith, length-drop at s)) (rw ew tt) (rw ew tt)
  headed_follows (Within.Open channel place) ew (Ok (Some (ItemHead.Definite c start len))) e k = absurd (allowed (rw ew refl) e)
  headed_follows (Within.Open channel place) ew (Ok (Some (ItemHead.Open c start))) e k = absurd (allowed (rw ew refl) e)

-- ---- one octet more

-- What is claimed of s with more behind it is claimed of s with one octet more.
module _ (s : List ℕ) (b : ℕ) where
  resumes_on : (n : ℕ) (x : Stand) (around : ℕ) (gs : List Given) → Resumes s n x around gs → Inside (within_of x) (suc (length s)) → Resumes (grown s b) (n + 1) x around gs
  resumes_on n x around gs p i =
      record {
        met = p.met;
        out = p.out;
        counts = omega (arith, p.counts, grown_long s b);
        many = p.many;
        before = omega (arith, p.before, grown_long s b);
        inside = subst (Inside (within_of x)) (sym (grown_long s b)) i;
        outer = p.outer;
        stands = λ t h. to_grown s b (λ (u : List ℕ). Stands u p.met x) t (p.stands (b ∷ t) (of_grown s b (λ (u : List ℕ). Whole (within_of x) (length u)) t h));
        cut = λ t h. to_grown s b (λ (u : List ℕ). unlimited u ≡ refused (refusal PastEnd around)) t (p.cut (b ∷ t) (of_grown s b (λ (u : List ℕ). Cut (within_of x) (length u)) t h));
      }

  sure_on : (n around left : ℕ) (r : Refusal) → 0 < left → Sure s n around left r → Sure (grown s b) (n + 1) around (left - 1) r
  sure_on n around left r some p =
      record {
        counts = omega (arith, p.counts, grown_long s b);
        cuts = λ t h. to_grown s b (λ (u : List ℕ). unlimited u ≡ refused (refusal PastEnd around)) t
            (p.cuts (b ∷ t) (of_grown s b (λ (u : List ℕ). length u < length s + left) t (omega (arith, grown_long s b))));
        sure = λ h t k. to_grown s b (λ (u : List ℕ). unlimited u ≡ refused r) t
            (p.sure (omega (arith, grown_long s b)) (b ∷ t) (of_grown s b (λ (u : List ℕ). length s + left ≤ length u) t (omega (arith, grown_long s b))));
        passes = λ _ t k. to_grown s b (λ (u : List ℕ). CutsFrom (suc around) (unlimited u)) t
            (p.passes some (b ∷ t) (of_grown s b (λ (u : List ℕ). length s + left ≤ length u) t (omega (arith, grown_long s b))));
      }

  settled_on : (a : Answer ℕ) → Settled s a → Settled (grown s b) a
  settled_on (answered n) p = p
  settled_on (refused_as fault place) p = λ t. to_grown s b (λ (u : List ℕ). unlimited u ≡ refused (refusal fault place)) t (p (b ∷ t))

  begun-on : (x : Stand) (tag left : ℕ) → 0 < left → Begun s x tag left → Begun (grown s b) x tag (left - 1)
  begun-on x tag left some i =
      let inside = is_inside (within_of x) in
      let come = drop x.cursor.at s in
      record {
        start = i.start;
        len = i.len;
        here = omega (arith, i.here, grown_long s b);
        form = ap (form_of inside) (drop_grown s b x.cursor.at (omega (arith, i.here)))
            ∙ subst (λ (f : Result (Option ItemHead) Fault). FormKept f (form_of inside (come ++ (b ∷ [])))) i.form (form_keeps inside come (b ∷ []));
        begun = omega (arith, i.begun, grown_long s b);
        ends = omega (arith, i.ends, grown_long s b);
        fits = let e : length s + left ≡ length (grown s b) + (left - 1) = omega (arith, grown_long s b) in subst (Inside (within_of x)) e i.fits;
      }

-- The first octets of a value stay the first.
pub kept_on : (k : ℕ) (u t : List ℕ) → take k (take k u ++ t) ≡ take k (u ++ t)
kept_on zero u t = refl
kept_on (suc k) [] t = refl
kept_on (suc k) (a ∷ u) t = ap (λ (r : List ℕ). a ∷ r) (kept_on k u t)

module _ (s : List ℕ) (b : ℕ) (limit : length s < octets_limit) where
  within : length (grown s b) ≤ octets_limit
  within = omega (arith, grown_long s b)

  -- An octet of a head.
  head_step : (n : ℕ) (x : Stand) (around : ℕ) (v : Waveform) (ph : Phase) (gs : List Given) (p : List ℕ) → InHead s n x around v gs p → Follows (grown s b) gs (taken_in b (head p) (link (n + 1) x around v ph))
  unfolding taken_in
  head_step n x around v ph gs p q =
      let at = x.cursor.at in
      let inside = is_inside (within_of x) in
      let e : drop at (grown s b) ≡ p ++ (b ∷ []) = drop_grown s b at q.resumes.before ∙ ap (λ (u : List ℕ). u ++ (b ∷ [])) q.octets in
      let exact : FormExact (length (drop at (grown s b))) (Ok None) (form_of inside (drop at (grown s b))) =
      subst (λ (u : List ℕ). FormExact (length u) (Ok None) (form_of inside u)) (sym e)
      (subst (λ (k : ℕ). FormExact k (Ok None) (form_of inside (p ++ (b ∷ [])))) (sym (length-append p (b ∷ [])))
      (subst (λ (f : Result (Option ItemHead) Fault). FormExact (length p + 1) f (form_of inside (p ++ (b ∷ [])))) q.wants (form_exact inside p b))) in
      subst (λ (u : List ℕ). Follows (grown s b) gs (headed u (seen_in (within_of x) (n + 1) (form_of inside u)) (link (n + 1) x around no_waveform ph))) e
      (headed_follows (grown s b) (n + 1) x around no_waveform ph gs within refl (resumes_on s b n x around gs q.resumes q.goes) (omega (arith, q.resumes.before, grown_long s b))
      (within_of x) refl (form_of inside (drop at (grown s b))) refl exact)

  -- An octet of a value.
  value-step : (n : ℕ) (x : Stand) (around : ℕ) (v : Waveform) (ph : Phase) (gs : List Given) (tag left : ℕ) (kept : List ℕ) → InValue s n x around v gs tag left kept
      → Follows (grown s b) gs (taken_in b (value tag left kept) (link (n + 1) x around v ph))
  unfolding taken_in valued begun-on
  value-step n x around v ph gs tag left kept q =
      let from = x.cursor.at + q.item.start in
      let i = begun-on s b x tag left q.some q.item in
      let p = resumes_on s b n x around gs q.resumes (inside_less (within_of x) (suc (length s)) (length s + left) (omega (arith, q.some)) q.item.fits) in
      let keeps : take kept_limit (kept ++ (b ∷ [])) ≡ take kept_limit (drop from (grown s b)) =
      ap (λ (u : List ℕ). take kept_limit (u ++ (b ∷ []))) q.keeps ∙ kept_on kept_limit (drop from s) (b ∷ []) ∙ ap (take kept_limit) (sym (drop_grown s b from q.item.begun)) in
      pick_cases (Follows (grown s b) gs) (eqb (left - 1) 0)
      (λ e.
      let z = eqb-true (left - 1) 0 e in
      subst (λ (u : List ℕ). Follows (grown s b) gs (done_item tag u (link (n + 1) x around v ph))) (sym keeps)
      (done_follows (grown s b) (n + 1) x around v ph gs within q.silent p tag (subst (Begun (grown s b) x tag) z i) q.plain))
      (λ e. let z = eqb-false (left - 1) 0 e in record { resumes = p; silent = q.silent; item = i; some = omega arith; plain = q.plain; keeps = keeps })

  -- Where an octet gives nothing out.
  quiet : (gs : List Given) (l : Link) → Follows (grown s b) gs l → Follows (grown s b) (gs ++ []) l
  quiet gs l p = rw (append-nil gs) p

  taken_follows : (n : ℕ) (x : Stand) (around : ℕ) (v : Waveform) (gs : List Given) (q : Phase) → FollowsIn s n x around v gs q
      → Follows (grown s b) (gs ++ gives_in b q (link (n + 1) x around v q)) (taken_in b q (link (n + 1) x around v q))
  unfolding taken_in gives_in
  taken_follows n x around v gs (head p) q = quiet gs (taken_in b (head p) (link (n + 1) x around v (head p))) (head_step n x around v (head p) gs p q)
  taken_follows n x around v gs (value tag left kept) q = quiet gs (taken_in b (value tag left kept) (link (n + 1) x around v (value tag left kept))) (value-step n x around v (value tag left kept) gs tag left kept q)
  taken_follows n x around v gs (waveform left t) q =
      waved_follows (grown s b) (n + 1) x around v _ (left - 1) _ (wave_on s b n x around v (waveform left t) gs left t q.1 q.0)
  taken_follows n x around v gs (waits left r) q =
      quiet gs (waiting (left - 1) r (link (n + 1) x around v (waits left r)))
      (waiting_follows (grown s b) gs (link (n + 1) x around v (waits left r)) (left - 1) r within q.2 (sure_on s b n around left r q.1 q.0))
  taken_follows n x around v gs (decided a) q = (settled_on s b a q.0, q.1)

-- Without an answer as many octets have come as are counted.
pub follows_counts : (s : List ℕ) (gs : List Given) (l : Link) → is_decided l.phase ≡ false → Follows s gs l → l.count ≡ length s
follows_counts s gs l e p = by l.phase e p
  where
    by : (q : Phase) → is_decided q ≡ false → FollowsIn s l.count l.stand l.around l.frame gs q → l.count ≡ length s
    by (head p) e f = f.resumes.counts
    by (value tag left kept) e f = f.resumes.counts
    by (waveform left t) e f = f.0.counts
    by (waits left r) e f = f.0.counts
    by (decided a) e f = absurd (true_false e)

-- One octet more, within the limit.
pub stepped_follows : (s : List ℕ) (b : ℕ) (gs : List Given) (l : Link) → length s < octets_limit → Follows s gs l → Follows (grown s b) (gs ++ gives l b) (stepped l b)
unfolding stepped
stepped_follows s b gs l limit p =
    pick_cases (Follows (grown s b) (gs ++ gives l b)) (is_decided l.phase)
    (λ e. decided-on l.phase e p)
    (λ e.
    let k : l.count < octets_limit = omega (arith, follows_counts s gs l e p) in
    pick_cases (Follows (grown s b) (gs ++ gives l b)) (leb octets_limit l.count)
    (λ h. absurd (true_false (sym h ∙ lt-leb octets_limit l.count k)))
    (λ _. subst (λ (g : List Given). Follows (grown s b) (gs ++ g) (taken_in b l.phase (counted l))) (sym (gives-here k)) (taken_follows s b limit l.count l.stand l.around l.frame gs l.phase p)))
  where
    gives-here : l.count < octets_limit → gives l b ≡ gives_in b l.phase (counted l)
    gives-here k = unfold gives in simp (lt-leb octets_limit l.count k)

    decided-on : (q : Phase) → is_decided q ≡ true → FollowsIn s l.count l.stand l.around l.frame gs q → FollowsIn (grown s b) l.count l.stand l.around l.frame (gs ++ gives l b) q
    decided-on (head p) e f = absurd (true_false (sym e))
    decided-on (value tag left kept) e f = absurd (true_false (sym e))
    decided-on (waveform left t) e f = absurd (true_false (sym e))
    decided-on (waits left r) e f = absurd (true_false (sym e))
    decided-on (decided a) e f = (settled_on s b a f.0, f.1)

-- ---- all octets

fresh_follows : {l : Link} → Fresh l → Follows [] [] l
unfolding frames_given
fresh_follows f =
    subst (Follows [] []) (sym f.is)
    (next_follows [] 0 (fresh_link f.records).stand 0 no_waveform [] (cursor 0 Root) [] (inl refl) refl refl refl refl refl tt (λ t _. stands_cleared t f.records f.full) (λ t h. absurd h))

fed_from : (s u : List ℕ) (gs : List Given) (l : Link) → length (s ++ u) ≤ octets_limit → Follows s gs l → Follows (s ++ u) (gs ++ given_by l u) (fed_with l u)
unfolding fed_with given_by
fed_from s [] gs l h p = rw (append-nil s, append-nil gs) p
fed_from s (b ∷ u) gs l h p =
    subst (λ (z : List ℕ). Follows z (gs ++ (gives l b ++ given_by (stepped l b) u)) (fed_with (stepped l b) u)) (append_assoc s (b ∷ []) u)
    (subst (λ (g : List Given). Follows (grown s b ++ u) g (fed_with (stepped l b) u)) (append_assoc gs (gives l b) (given_by (stepped l b) u))
    (fed_from (grown s b) u (gs ++ gives l b) (stepped l b) (rw (append_assoc s (b ∷ []) u) h) (stepped_follows s b gs l (omega (arith, length-append s (b ∷ u))) p)))

pub fed_follows : {l : Link} → Fresh l → (s : List ℕ) → length s ≤ octets_limit → Follows s (given_by l s) (fed_with l s)
fed_follows {l} f s h = fed_from [] s [] l h (fresh_follows f)

-- ---- the end

-- Where nothing is left of the file.
pub nothing_left : (s : List ℕ) (at : ℕ) (w : Within) → length s ≤ at → length (extent s at w) ≡ 0
nothing_left s at Within.Root h = rw length-drop (omega arith)
nothing_left s at (Within.Definite channel end) h = rw (length-take, length-drop) (omega arith)
nothing_left s at (Within.Open channel place) h = rw length-drop (omega arith)

-- What the end of the file means where the walk stands, if the group around is whole.
pub end_next : {s : List ℕ} {met : List Frame} {x : Stand} → Stands s met x → next_of s x.cursor ≡ Ok None → unlimited s ≡ accepted met
unfolding turn_of next_turn
end_next {s} {met} {x} p e = sym (subst (λ (n : Result (Option (Item × Cursor)) Refusal). TurnStands s met x.cursor.at (next_turn s x n)) e (turn_stands p (subst (Near p) (sym e) tt)))

-- What is claimed of s with nothing behind it is claimed of s.
pub alone : (P : List ℕ → Type 0) (s : List ℕ) → P (s ++ []) → P s
alone P s h = subst P (append-nil s) h

-- Outside groups the file is accepted.
pub ended-accepted : (s : List ℕ) (n : ℕ) (x : Stand) (around : ℕ) (v : Waveform) (gs : List Given) (q : InHead s n x around v gs []) → within_of x ≡ Root → unlimited s ≡ accepted q.resumes.met
ended-accepted s n x around v gs q e =
    let p = q.resumes in
    let past : length s ≤ x.cursor.at = omega (arith, ap length q.octets, length-drop x.cursor.at s, p.before) in
    end_next (alone (λ (u : List ℕ). Stands u p.met x) s (p.stands [] (rw e tt)))
    (sym (next-none s x.cursor Root (extent s x.cursor.at Root) (sym e) refl (nothing_left s x.cursor.at Root past)))

-- The end between two items.
ended_follows : (s : List ℕ) (n : ℕ) (x : Stand) (around : ℕ) (v : Waveform) (gs : List Given) → InHead s n x around v gs [] → checked_as (unlimited s) ≡ ended_in (within_of x) around x.frames
unfolding ended_in checked_as
ended_follows s n x around v gs q = by (within_of x) refl
  where
    p : Resumes s n x around gs
    p = q.resumes

    past : length s ≤ x.cursor.at
    past = omega (arith, ap length q.octets, length-drop x.cursor.at s, p.before)

    next : (w : Within) → within_of x ≡ w → ended w ≡ next_of s x.cursor
    next w e = next-none s x.cursor w (extent s x.cursor.at w) (sym e) refl (nothing_left s x.cursor.at w past)

    by : (w : Within) → within_of x ≡ w → checked_as (unlimited s) ≡ ended_in w around x.frames
    by Within.Root e = ap checked_as (ended-accepted s n x around v gs q e) ∙ ap answered (sym p.many)
    by (Within.Definite channel end) e =
        let short : length (s ++ []) < end = subst (λ (w : Within). Inside w (suc (length (s ++ [])))) e (rw (append-nil s) q.goes) in
        ap checked_as (alone (λ (u : List ℕ). unlimited u ≡ refused (refusal PastEnd around)) s (p.cut [] (rw e short)))
    by (Within.Open channel place) e =
        ap checked_as (fault-is (alone (λ (u : List ℕ). Stands u p.met x) s (p.stands [] (rw e tt))) (sym (next (Within.Open channel place) e)))

-- The end inside an item whose octets are not all there: 3 at its place, and in a definite group at the group's.
cut_follows : (s : List ℕ) (n : ℕ) (x : Stand) (around : ℕ) (gs : List Given) (p : Resumes s n x around gs) → Inside (within_of x) (suc (length s))
    → (Whole (within_of x) (length (s ++ [])) → next_of (s ++ []) x.cursor ≡ Err (refusal PastEnd x.cursor.at))
    → checked_as (unlimited s) ≡ refused_as PastEnd (cut_at (within_of x) x.cursor.at around)
unfolding checked_as
cut_follows s n x around gs p goes f = ap checked_as (alone (λ (u : List ℕ). unlimited u ≡ refused (refusal PastEnd (cut_at (within_of x) x.cursor.at around))) s (by (within_of x) (p.stands []) (p.cut []) goes f))
  where
    by : (w : Within) → (Whole w (length (s ++ [])) → Stands (s ++ []) p.met x) → (Cut w (length (s ++ [])) → unlimited (s ++ []) ≡ refused (refusal PastEnd around)) → Inside w (suc (length s))
        → (Whole w (length (s ++ [])) → next_of (s ++ []) x.cursor ≡ Err (refusal PastEnd x.cursor.at)) → unlimited (s ++ []) ≡ refused (refusal PastEnd (cut_at w x.cursor.at around))
    by Within.Root stands cut goes f = fault-is (stands tt) (f tt)
    by (Within.Definite channel end) stands cut goes f = cut (rw (append-nil s) goes)
    by (Within.Open channel place) stands cut goes f = fault-is (stands tt) (f tt)

tail_none : (s : List ℕ) (w : Within) → tail_of s [] w ≡ []
tail_none s Within.Root = refl
tail_none s (Within.Definite channel end) = take-nil (end - length s)
tail_none s (Within.Open channel place) = refl

-- In a definite group that is whole there is more to come than the file has.
room_short : (w : Within) (m k : ℕ) → m < k → Inside w k → Whole w m → ends_in w m < k
room_short Within.Root m k h i q = h
room_short (Within.Definite channel end) m k h i q = let z : ⊥ = omega arith in absurd z
room_short (Within.Open channel place) m k h i q = h

pub end_follows : (s : List ℕ) (gs : List Given) (l : Link) → Follows s gs l → checked_as (unlimited s) ≡ end_answer l
unfolding end_in checked_as
end_follows s gs l p = by l.phase p
  where
    x : Stand
    x = l.stand

    by : (q : Phase) → FollowsIn s l.count x l.around l.frame gs q → checked_as (unlimited s) ≡ end_in q l
    by (head []) f = ended_follows s l.count x l.around l.frame gs f
    by (head (b ∷ p)) f =
        let r = f.resumes in
        let here : x.cursor.at < length s = omega (arith, ap length f.octets, length-drop x.cursor.at s) in
        cut_follows s l.count x l.around gs r f.goes
        (λ h. next_wanting s [] x.cursor here r.inside h (tail_none s (within_of x)) (ap (form_of (is_inside (within_of x))) f.octets ∙ f.wants))
    by (value tag left kept) f =
        let r = f.resumes in
        let i = f.item in
        cut_follows s l.count x l.around gs r (inside_less (within_of x) (suc (length s)) (length s + left) (omega (arith, f.some)) i.fits)
        (λ h.
        let short : length (s ++ []) < length s + left = rw (append-nil s) (omega (arith, f.some)) in
        let k = room_short (within_of x) (length (s ++ [])) (length s + left) short i.fits h in
        let g = room-begun (within_of x) (length (s ++ [])) (length s) (longer s []) r.inside in
        next_past s [] x.cursor i.here r.inside h tag i.start i.len i.form (omega (arith, i.begun, g)) (omega (arith, i.ends, k)))
    by (waveform left t) f = ap checked_as (alone (λ (u : List ℕ). unlimited u ≡ refused (refusal PastEnd l.around)) s (f.0.cuts [] (rw (append-nil s) (omega (arith, f.1)))))
    by (waits left r) f = ap checked_as (alone (λ (u : List ℕ). unlimited u ≡ refused (refusal PastEnd l.around)) s (f.0.cuts [] (rw (append-nil s) (omega (arith, f.1)))))
    by (decided (answered n)) f = absurd f.0
    by (decided (refused_as fault place)) f = ap checked_as (alone (λ (u : List ℕ). unlimited u ≡ refused (refusal fault place)) s (f.0 []))

-- ---- an accepted file

-- The frames of an accepted file.
abbrev frames_of : Verdict → List Frame
frames_of (accepted fs) = fs
frames_of (refused r) = []

abbrev IsAnswered : Answer ℕ → Type 0
IsAnswered (answered n) = Unit {0}
IsAnswered (refused_as fault place) = ⊥

-- What a link has given out where the file is accepted that ends here.
pub accepted-given : (s : List ℕ) (gs : List Given) (l : Link) (fs : List Frame) → Follows s gs l → unlimited s ≡ accepted fs → gs ≡ frames_given fs
unfolding checked_as end_in ended_in
accepted-given s gs l fs p e = by l.phase p (end_follows s gs l p)
  where
    x : Stand
    x = l.stand

    -- The end is no refusal.
    never : {fault : Fault} {place : ℕ} → checked_as (unlimited s) ≡ refused_as fault place → ⊥
    never f = subst IsAnswered (sym (ap checked_as e) ∙ f) tt

    between : (w : Within) → within_of x ≡ w → InHead s l.count x l.around l.frame gs [] → checked_as (unlimited s) ≡ ended_in w l.around x.frames → gs ≡ frames_given fs
    between Within.Root ew q f = q.resumes.out ∙ ap frames_given (ap frames_of (sym (ended-accepted s l.count x l.around l.frame gs q ew) ∙ e))
    between (Within.Definite channel end) ew q f = absurd (never f)
    between (Within.Open channel place) ew q f = absurd (never f)

    by : (q : Phase) → FollowsIn s l.count x l.around l.frame gs q → checked_as (unlimited s) ≡ end_in q l → gs ≡ frames_given fs
    by (head []) q f = between (within_of x) refl q f
    by (head (b ∷ p)) q f = absurd (never f)
    by (value tag left kept) q f = absurd (never f)
    by (waveform left t) q f = absurd (never f)
    by (waits left r) q f = absurd (never f)
    by (decided (answered n)) q f = absurd q.0
    by (decided (refused_as fault place)) q f = absurd (never f)
